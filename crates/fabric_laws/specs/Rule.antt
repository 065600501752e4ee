-- When a fabric is consistent: what its words, the items at home in its slots and the views of all hands have in common
use Rattle.std.specs.Prelude.{ℕ, ◌+◌, ◌*◌, ◌<◌, ◌≤◌, ◌≡◌, ◌^◌, List, map, length, take, drop, slice_get, slice_index}
use Rattle.std.specs.Prelude.{true, Option, Some}
use Rattle.std.specs.Prelude.{None, []}
use mathlib.Core.Option.{some}
use mathlib.Core.Option as maybe
use lib.ListN.{get_elem?}
use Rattle.std.specs.List.{sum_by}
use Rattle.atomic_table.specs.Table.{State}
use Rattle.geom.specs.declared.plan.Mode.TheVariants.{Multi}
use Rattle.geom.specs.declared.plan.Side.{Side}
use Rattle.geom.specs.declared.plan.Side.TheVariants.{Put, Take}
use Rattle.geom.specs.declared.plan.RingPlan.{RingPlan}
use Rattle.geom.specs.Extent.{range_of}
use Rattle.geom.specs.Plan.{mode_of}
use Rattle.ringcore_laws.specs.declared.party.Party.{Party}
use Rattle.ringcore_laws.specs.declared.party.Settled.{Settled}
use Rattle.ringcore_laws.specs.declared.protocol.Observed.{Observed}
use Rattle.ringcore_laws.specs.declared.protocol.Span.{Span}
use Rattle.ringcore_laws.specs.Party.{newcomer}
use Rattle.ringcore_laws.specs.RingSide.{RingSide, side_of, listed}
use Rattle.ringcore_laws.specs.Sound.{Sound}
use Rattle.ringcore_laws.specs.HeadTailRule.{HeadTailRule}
use Rattle.ringcore_laws.specs.FreeRings.{FreeRule}
use Rattle.ringcore_laws.specs.History.{own_word}
use Rattle.ringcore_laws.specs.Invariant.{IsBehind, TrueObserved}
use Rattle.fabric_laws.specs.declared.view.View.{View}
use Rattle.fabric_laws.specs.Words.{own_at, slot_at, slot_count, tail_at}

-- the parts of a whole fabric
abbrev pub all_parts : ℕ
all_parts = 2 ^ 63

-- a plan that a fabric may have: each ring has at least one slot more than items, a word has room for each of its
-- positions with each count, and a free ring has room for all buffers
pub record IsFitting (plans : List RingPlan) (pool : ℕ) : Type 0 where
  pub spare : (r : ℕ) (plan : RingPlan) → slice_get plans r ≡ Some plan → plan.geometry.capacity < plan.geometry.size
  pub small : (r : ℕ) (plan : RingPlan) → slice_get plans r ≡ Some plan → plan.geometry.size ≤ 2 ^ 20
  pub words : (r : ℕ) (plan : RingPlan) → slice_get plans r ≡ Some plan → (plan.geometry.last + 1) * range_of plan.geometry ≤ 2 ^ 64
  pub free_rings : (r : ℕ) (plan : RingPlan) → slice_get plans r ≡ Some plan → plan.free ≡ true
      → pool ≤ plan.geometry.capacity

module _ {T : Type 0} where
  -- the hands as parties to the rings
  abbrev pub parties_of_views : List (View T) → List (Party T)
  parties_of_views views = map (λ v. v.party) views

  -- each own word is the one that the hands' spans make, and each tail of a multi side is how far it is settled
  pub record AreWords (plans : List RingPlan) (words : List ℕ) (parties : List (Party T)) : Type 0 where
    pub own : (r : ℕ) (side : Side) (plan : RingPlan) → slice_get plans r ≡ Some plan
        → slice_index words (own_at r side) ≡ own_word plan.geometry (mode_of plan side) (side_of parties r side)
    pub tail : (r : ℕ) (side : Side) (plan : RingPlan) → slice_get plans r ≡ Some plan → mode_of plan side ≡ Multi
        → slice_index words (tail_at r side) ≡ (side_of parties r side).len

  -- What is at home in the slots of a ring
  pub record AtHome (plans : List RingPlan) (homes : List (maybe.Option (Option T))) (puts takes : RingSide T) (r : ℕ)
      (plan : RingPlan) : Type 0 where
    -- a queued position that no open take span holds has its item there
    pub full : (p : ℕ) (x : T) → takes.len ≤ p → takes.openers p ≡ 0 → slice_get (listed puts) p ≡ Some x
        → get_elem? homes (slot_at plans r plan p) ≡ some (some (Some x))
    -- a free position that no open put span holds has nothing there
    pub vacant : (p : ℕ) → puts.len ≤ p → puts.openers p ≡ 0 → p < takes.len + plan.geometry.size
        → get_elem? homes (slot_at plans r plan p) ≡ some (some None)

  -- what a hand knows of the rings is true
  pub record IsTrueView (plans : List RingPlan) (parties : List (Party T)) (v : View T) : Type 0 where
    -- a word that was looked at is at most what it is now, and a tail that was seen at most how far the other side is
    -- settled
    pub observed : (o : Observed) → v.observed ≡ Some o → TrueObserved plans parties o × IsBehind plans parties o
    -- the items of its open take span are those published at its positions
    pub shown : (span : Span) → v.party.span ≡ Some span → span.side ≡ Take
        → v.shown ≡ take span.count (drop span.start (listed (side_of parties span.ring Put)))
    -- what it has settled is below how far its side is settled
    pub ends : (j : ℕ) (x : Settled T) → get_elem? v.party.settled j ≡ some x
        → x.start + length x.items ≤ (side_of parties x.ring x.side).len

  -- a hand that was joined to another is no longer a party
  pub record IsSpent (v : View T) : Type 0 where
    pub party : v.party ≡ newcomer []
    pub observed : v.observed ≡ None

module _ {T : Type 0} (tags : T → List ℕ) where
  pub record IsConsistent (plans : List RingPlan) (pool : ℕ) (s : State (Option T) (View T)) : Type 0 where
    -- the plan is possible
    pub fitting : IsFitting plans pool
    -- no slot and no buffer has two holders, nothing is lost, and what was dequeued is a prefix of what was published
    pub sound : Sound tags plans pool (parties_of_views s.views)
    -- the open spans come after what is settled, on a multi side without a gap, on an HTS side at most one
    pub ruled : HeadTailRule plans (parties_of_views s.views)
    -- each item on a free ring carries one buffer, and nobody reserves more there than it has
    pub free : FreeRule tags plans pool (parties_of_views s.views)
    pub word_count : length s.words ≡ 64 * length plans
    pub words : AreWords plans s.words (parties_of_views s.views)
    pub home_count : length s.homes ≡ slot_count plans
    pub homes : (r : ℕ) (plan : RingPlan) → slice_get plans r ≡ Some plan
        → AtHome plans s.homes (side_of (parties_of_views s.views) r Put) (side_of (parties_of_views s.views) r Take) r
        plan
    pub views : (id : ℕ) (v : View T) → get_elem? s.views id ≡ some v → IsTrueView plans (parties_of_views s.views) v
    -- each hand that isn't spent knows the plan, and all parts add up
    pub told : (id : ℕ) (v : View T) → get_elem? s.views id ≡ some v → 0 < v.parts → (v.plans ≡ plans) × (v.pool ≡ pool)
    pub spent : (id : ℕ) (v : View T) → get_elem? s.views id ≡ some v → v.parts ≡ 0 → IsSpent v
    pub parts : sum_by (λ (v : View T). v.parts) s.views ≡ all_parts
