-- When parties share rings and buffers soundly
use Rattle.std.specs.Prelude.{ℕ, Bool, ◌&&◌, nat_le, nat_lt, ◌==◌, ◌+◌, ◌-◌, ◌%◌, ◌<◌, ◌≤◌, ◌≡◌, if◌then◌else◌, List}
use Rattle.std.specs.Prelude.{[], ◌++◌, length, drop, slice_get, slice_index_or, Some}
use Rattle.std.specs.List.{sum_by, count_by, range_with_len}
use Rattle.geom.specs.declared.plan.Side.{Side}
use Rattle.geom.specs.declared.plan.Side.TheVariants.{Put, Take}
use Rattle.geom.specs.declared.plan.RingPlan.{RingPlan}
use Rattle.geom.specs.Extent.{Extent}
use Rattle.ringcore_laws.specs.declared.party.Party.{Party}
use Rattle.ringcore_laws.specs.declared.party.Settled.{Settled}
use Rattle.ringcore_laws.specs.Party.{same_side}
use Rattle.ringcore_laws.specs.RingSide.{RingSide, side_of, listed, IsGapless}

abbrev pub IsPrefixOf : {X : Type 0} → List X → List X → Type 0
IsPrefixOf {X} xs ys = (rest : List X) × (xs ++ rest ≡ ys)

module _ {I : Type 0} where
  -- whether a position is queued: published, and not dequeued
  abbrev pub is_queued : RingSide I → RingSide I → ℕ → Bool
  is_queued put take p = nat_le take.len p && nat_lt p put.len

  -- how often a position's slot is claimed: by each open span that holds it, and by a queued item that no open take
  -- holds
  unfoldable pub claims : RingSide I → RingSide I → ℕ → ℕ
  claims put take p = put.openers p + take.openers p + (if is_queued put take p && (take.openers p == 0) then 1 else 0)

  -- what holds for each ring
  pub record SoundRing (e : Extent) (put take : RingSide I) : Type 0 where
    pub published : IsGapless put
    pub dequeued : IsGapless take
    -- what was dequeued is a prefix of what was published
    pub fifo : IsPrefixOf (listed take) (listed put)
    pub within_capacity : put.len ≤ take.len + e.capacity
    -- no slot is claimed twice: positions that claim the same slot are the same position, which claims it once
    pub claimed_once : (p : ℕ) → claims put take p ≤ 1
    pub slots_apart : (p q : ℕ) → 0 < claims put take p → 0 < claims put take q → p % e.size ≡ q % e.size → p ≡ q
    pub takes_are_queued : (p : ℕ) → 0 < take.openers p → (take.len ≤ p) × (p < put.len)
    -- no open span shares a position with a settled span of its side
    pub puts_unsettled : (p : ℕ) → 0 < put.openers p → put.items_at p ≡ []
    pub takes_unsettled : (p : ℕ) → 0 < take.openers p → take.items_at p ≡ []

  -- the published items that aren't dequeued
  abbrev pub queue : List (Party I) → ℕ → List I
  queue parties ring = drop (side_of parties ring Take).len (listed (side_of parties ring Put))

-- how often a buffer occurs in a list of numbers
abbrev pub occurrences : ℕ → List ℕ → ℕ
occurrences b numbers = count_by (λ n. n == b) numbers

module _ {I : Type 0} (tags : I → List ℕ) where
  -- how often a buffer occurs in items
  abbrev pub occurrences_in : ℕ → List I → ℕ
  occurrences_in b items = sum_by (λ x. occurrences b (tags x)) items

  abbrev pub settled_times : Side → ℕ → Settled I → ℕ
  settled_times side b s = if same_side s.side side then occurrences_in b s.items else 0

  -- how often a buffer occurs in the items that a party has put, or has taken
  unfoldable pub moved : Side → ℕ → Party I → ℕ
  moved side b party = sum_by (settled_times side b) party.settled

  -- how often a party holds a buffer: given or taken, and not put since
  unfoldable pub holds : ℕ → Party I → ℕ
  holds b party = occurrences b party.given + moved Take b party - moved Put b party

  -- how often a buffer occurs in the queued items of a ring
  abbrev pub in_ring : ℕ → List (Party I) → ℕ → ℕ
  in_ring b parties ring = occurrences_in b (queue parties ring)

  -- the places of a buffer: with parties, and on rings. A sum of natural numbers is 1 exactly if one of them is 1 and
  -- all others are 0
  unfoldable pub place_count : ℕ → ℕ → List (Party I) → ℕ
  place_count rings b parties = sum_by (holds b) parties + sum_by (in_ring b parties) (range_with_len 0 rings)

  -- what holds for the buffers: none is put more often than it was had, and each buffer of the pool has one place, any
  -- other number none
  pub record SoundBuffers (rings pool : ℕ) (parties : List (Party I)) : Type 0 where
    pub never_below_none : (i : ℕ) (d : Party I) (b : ℕ) → i < length parties
        → let party = slice_index_or parties i d in moved Put b party ≤ occurrences b party.given + moved Take b party
    pub one_place : (b : ℕ) → b < pool → place_count rings b parties ≡ 1
    pub no_place : (b : ℕ) → pool ≤ b → place_count rings b parties ≡ 0

  -- no slot and no buffer has two holders, nothing is lost, and what was dequeued is a prefix of what was published
  pub record Sound (plans : List RingPlan) (pool : ℕ) (parties : List (Party I)) : Type 0 where
    pub rings : (r : ℕ) (plan : RingPlan) → slice_get plans r ≡ Some plan
        → SoundRing plan.geometry (side_of parties r Put) (side_of parties r Take)
    pub buffers : SoundBuffers (length plans) pool parties
