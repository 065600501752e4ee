-- A plan that may be opened, part by part, and the state right after the opening
use Rattle.std.specs.Prelude.{ℕ, ◌≡◌, ◌<◌, ◌≤◌, List, [], length, slice_index_or, None}
use Rattle.geom.specs.declared.plan.RingPlan.{RingPlan}
use Rattle.ringcore_laws.specs.History.{buffers_given}
use Rattle.ringcore.specs.declared.ring.Ring.{Ring}
use Rattle.ringcore.specs.declared.member.Member.{Member}

pub record AreFew (rings actors buffers : ℕ) : Type 0 where
  pub some_ring : 0 < rings
  pub few_rings : rings ≤ 64
  pub some_actor : 0 < actors
  pub few_actors : actors ≤ 64
  pub few_buffers : buffers ≤ 65536

-- a ring with nothing reserved
pub record IsFresh (plan : RingPlan) (ring : Ring) : Type 0 where
  pub put_head : ring.put.head ≡ 0
  pub put_tail : ring.put.tail ≡ 0
  pub take_head : ring.take.head ≡ 0
  pub take_tail : ring.take.tail ≡ 0
  pub queue : ring.queue.items ≡ []
  pub capacity : ring.queue.capacity ≡ plan.geometry.capacity

pub record AreFresh (plans : List RingPlan) (rings : List Ring) : Type 0 where
  pub each : (r : ℕ) (p : RingPlan) (x : Ring) → r < length rings
      → IsFresh (slice_index_or plans r p) (slice_index_or rings r x)

-- an actor that has only been given buffers
pub record IsGiven (gifts : List ℕ) (i : ℕ) (m : Member) : Type 0 where
  pub number : m.number ≡ i
  pub count : m.count ≡ length (buffers_given gifts i)
  pub span : m.span ≡ None
  pub observed : m.observed ≡ None

pub record AreGiven (gifts : List ℕ) (members : List Member) : Type 0 where
  pub each : (i : ℕ) (d : Member) → i < length members → IsGiven gifts i (slice_index_or members i d)
