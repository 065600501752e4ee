-- When the machine's numbers, slots and entries are what the history gives
use Rattle.std.specs.Prelude.{ℕ, ◌≡◌, ◌+◌, ◌<◌, List, length, slice_get, slice_index_or, Some}
use Rattle.geom.specs.declared.plan.Mode.{Mode}
use Rattle.geom.specs.declared.plan.Mode.TheVariants.{Multi, Hts}
use Rattle.geom.specs.declared.plan.Side.TheVariants.{Put, Take}
use Rattle.geom.specs.declared.plan.RingPlan.{RingPlan}
use Rattle.ringcore_laws.specs.declared.contents.Item.{Item}
use Rattle.ringcore_laws.specs.declared.party.Party.{Party}
use Rattle.ringcore_laws.specs.declared.protocol.Place.{Place}
use Rattle.ringcore_laws.specs.declared.protocol.Place.TheVariants.{AtRing, Held, Cached, Nowhere}
use Rattle.ringcore_laws.specs.RingSide.{RingSide, side_of}
use Rattle.ringcore_laws.specs.Sound.{holds, queue}
use Rattle.ringcore_laws.specs.History.{Actor, tags, is_cached, parties_of, buffers_of_actor}
use Rattle.ringcore_laws.specs.Place.{positions_from}
use Rattle.ringcore.specs.declared.ring.Words.{Words}
use Rattle.ringcore.specs.declared.ring.Ring.{Ring}
use Rattle.ringcore.specs.declared.member.Member.{Member}
use Rattle.ringcore.specs.Entries.{entry, is_cached_at, positions_on, times_with}

-- an actor
pub record MemberAgrees (a : Actor) (m : Member) : Type 0 where
  pub span : m.span ≡ a.party.span
  pub observed : m.observed ≡ a.observed

-- the words of a side, as the history gives them
pub record WordsAgree (mode : Mode) (l : RingSide Item) (w : Words) : Type 0 where
  pub tail : w.tail ≡ l.len
  pub multi : mode ≡ Multi → w.head ≡ l.reach
  pub hts : mode ≡ Hts → w.head ≡ l.len + l.open_count

-- a ring
pub record RingAgrees (plan : RingPlan) (parties : List (Party Item)) (r : ℕ) (ring : Ring) : Type 0 where
  pub put : WordsAgree plan.put (side_of parties r Put) ring.put
  pub take : WordsAgree plan.take (side_of parties r Take) ring.take
  pub queue : ring.queue.items ≡ queue parties r
  pub capacity : ring.queue.capacity ≡ plan.geometry.capacity

-- all rings and actors
pub record SpansAgree (plans : List RingPlan) (rings : List Ring) (members : List Member)
    (actors : List Actor) : Type 0 where
  pub member_count : length members ≡ length actors
  pub ring_count : length rings ≡ length plans
  pub each_member : (i : ℕ) (d : Actor) (e : Member) → i < length actors
      → MemberAgrees (slice_index_or actors i d) (slice_index_or members i e)
  pub each_ring : (r : ℕ) (plan : RingPlan) (ring : Ring) → slice_get plans r ≡ Some plan
      → slice_get rings r ≡ Some ring
      → RingAgrees plan (parties_of actors) r ring

-- the buffers of an actor, of a pool of this size, by the entries
pub record HandAgrees (pool : ℕ) (places : List Place) (i : ℕ) (a : Actor) (m : Member) : Type 0 where
  pub number : m.number ≡ i
  pub count : m.count ≡ buffers_of_actor pool a
  pub held : (b : ℕ) → holds tags b a.party ≡ times_with i (entry places b)
  pub cached : (b : ℕ) → is_cached a b ≡ is_cached_at i (entry places b)

-- the ring or the actor that an entry names exists
abbrev pub IsNamed : ℕ → ℕ → Place → Type 0
IsNamed rings actors (AtRing r p) = r < rings
IsNamed rings actors (Held i) = i < actors
IsNamed rings actors (Cached i) = i < actors
IsNamed rings actors Nowhere = Unit {0}

-- all entries
pub record EntriesAgree (pool : ℕ) (rings : List Ring) (places : List Place) (members : List Member)
    (actors : List Actor) : Type 0 where
  pub sized : length places ≡ pool
  pub each_hand : (i : ℕ) (a : Actor) (m : Member) → slice_get actors i ≡ Some a → slice_get members i ≡ Some m
      → HandAgrees pool places i a m
  pub queued : (r : ℕ) (ring : Ring) → slice_get rings r ≡ Some ring → (b : ℕ)
      → positions_from b ring.take.tail ring.queue.items ≡ positions_on r (entry places b)
  pub named : (b : ℕ) → IsNamed (length rings) (length members) (entry places b)

-- everything that a world keeps
pub record ListsAgree (plans : List RingPlan) (pool : ℕ) (rings : List Ring) (places : List Place)
    (members : List Member) (actors : List Actor) : Type 0 where
  pub spans : SpansAgree plans rings members actors
  pub entries : EntriesAgree pool rings places members actors
