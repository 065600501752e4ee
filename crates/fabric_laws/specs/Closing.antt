-- What is in the slots of a fabric that is no longer shared by threads
use Rattle.std.specs.Prelude.{ℕ, ◌+◌, ◌<◌, ◌≤◌, ◌≡◌, ◌/◌, ◌%◌, List, [], ◌∷◌, drop, slice_get, slice_index, Option}
use Rattle.std.specs.Prelude.{Some}
use mathlib.Core.Option.{some}
use lib.ListN.{get_elem?}
use Rattle.atomic_table.specs.Table.{State}
use Rattle.geom.specs.declared.plan.Mode.{Mode}
use Rattle.geom.specs.declared.plan.Mode.TheVariants.{Multi, Hts}
use Rattle.geom.specs.declared.plan.Side.TheVariants.{Put, Take}
use Rattle.geom.specs.declared.plan.RingPlan.{RingPlan}
use Rattle.geom.specs.Extent.{Extent, range_of}
use Rattle.ringcore_laws.specs.RingSide.{listed, side_of}
use Rattle.ringcore_laws.specs.History.{position_of}
use Rattle.ringcore_laws.specs.Sound.{Sound, queue}
use Rattle.fabric_laws.specs.declared.view.View.{View}
use Rattle.fabric_laws.specs.Rule.{all_parts, parties_of_views}
use Rattle.fabric_laws.specs.Words.{own_at, settled_word_at, slot_at}

-- how far a side is reserved, by its own word
abbrev pub reach_of : Extent → Mode → ℕ → ℕ
reach_of e Multi word = word
reach_of e Hts word = word / range_of e + word % range_of e

-- the first position of a ring that no take has reserved, and the end of its published ones, by its words
abbrev pub first_left : List ℕ → ℕ → RingPlan → ℕ
first_left words r plan = reach_of plan.geometry plan.take (slice_index words (own_at r Take))

abbrev pub end_left : List ℕ → ℕ → RingPlan → ℕ
end_left words r plan = position_of plan.geometry plan.put (slice_index words (settled_word_at plan.put r Put))

module _ {T : Type 0} where
  -- the published items of a ring at positions that no take has reserved
  abbrev pub left_items : State (Option T) (View T) → ℕ → List T
  left_items s r =
      drop (side_of (parties_of_views s.views) r Take).reach (listed (side_of (parties_of_views s.views) r Put))

  -- what is in the slots of a ring
  pub record LiesLeft (plans : List RingPlan) (s : State (Option T) (View T)) (r : ℕ) (plan : RingPlan) : Type 0 where
    -- the words show from where on, and how far
    pub first : first_left s.words r plan ≡ (side_of (parties_of_views s.views) r Take).reach
    pub end : end_left s.words r plan ≡ (side_of (parties_of_views s.views) r Put).len
    -- all of it is in one turn of the ring
    pub turn : end_left s.words r plan ≤ first_left s.words r plan + plan.geometry.capacity
    pub last : end_left s.words r plan ≤ plan.geometry.last
    -- each position has its item at home
    pub there : (p : ℕ) → first_left s.words r plan ≤ p → p < end_left s.words r plan
        → (x : T) × (slice_get (listed (side_of (parties_of_views s.views) r Put)) p ≡ Some x)
        × (get_elem? s.homes (slot_at plans r plan p) ≡ some (some (Some x)))

  -- A hand that has all parts is the only one: its spans and buffers are all there are, and sound
  abbrev pub IsWhole : (T → List ℕ) → View T → Type 0
  IsWhole tags v = v.parts ≡ all_parts → Sound tags v.plans v.pool (v.party ∷ [])

  -- and if it has no open span, what is left is everything that is queued
  abbrev pub LeavesQueue : State (Option T) (View T) → View T → ℕ → Type 0
  LeavesQueue s v r = v.parts ≡ all_parts → left_items s r ≡ queue (v.party ∷ []) r
