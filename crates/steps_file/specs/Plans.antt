-- The plan in the first lines of a steps file, and when it is valid
use Rattle.std.specs.Prelude.{ℕ, ◌+◌, ◌<◌, ◌≡◌, ◌==◌, List, [], ◌∷◌, ◌++◌, map, length, slice_index, slice_index_or}
use Rattle.std.specs.Prelude.{Option, None, if◌then◌else◌}
use Rattle.std.specs.Option.{option_to_list}
use Rattle.std.specs.List.{flat_map, range_with_len}
use Rattle.geom.specs.declared.plan.RingPlan.{RingPlan}
use Rattle.ringcore_laws.specs.RingSide.{greatest}
use Rattle.ringcore_laws.specs.Runs.{IsPlan}
use Rattle.ringcore.specs.Histories.{History}
use Rattle.steps_file.specs.declared.command.PlanLine.{PlanLine}
use Rattle.steps_file.specs.declared.command.PlanLine.TheVariants.{Ring, Actors, Give}
use Rattle.steps_file.specs.declared.stage.plan.Draft.{Draft}

-- a buffer, and the actor that it is given to
abbrev pub Gift : Type 0
Gift = ℕ × ℕ

-- what plan lines name: the rings, the number of each `actors` line, and the gifts of all `give` lines
pub record Named : Type 0 where
  pub rings : List RingPlan
  pub counts : List ℕ
  pub gifts : List Gift

abbrev pub nothing_named : Named
nothing_named = record { rings = []; counts = []; gifts = [] }

abbrev pub gifts_to : ℕ → List ℕ → List Gift
gifts_to actor buffers = map (λ b. (b, actor)) buffers

-- what they name with one more line
abbrev pub with_line : Named → PlanLine → Named
with_line p (Ring plan) = record { rings = p.rings ++ plan ∷ []; counts = p.counts; gifts = p.gifts }
with_line p (Actors n) = record { rings = p.rings; counts = p.counts ++ n ∷ []; gifts = p.gifts }
with_line p (Give actor buffers) =
    record { rings = p.rings; counts = p.counts; gifts = p.gifts ++ gifts_to actor buffers }

-- what the code has stored of them
abbrev pub named : Draft → Named
named draft = record { rings = draft.rings.items; counts = draft.counts.items; gifts = draft.gifts.items }

-- the actors to which a buffer is given
abbrev pub owner_in : ℕ → Gift → List ℕ
owner_in b gift = if gift.0 == b then gift.1 ∷ [] else []

abbrev pub owners : ℕ → List Gift → List ℕ
owners b gifts = flat_map (owner_in b) gifts

-- one more than the greatest buffer
abbrev pub buffer_count : List Gift → ℕ
buffer_count gifts = greatest (λ gift. gift.0 + 1) gifts

-- to which actor each buffer is given first
abbrev pub gifts_of : List Gift → List ℕ
gifts_of gifts = map (λ b. slice_index (owners b gifts) 0) (range_with_len 0 (buffer_count gifts))

-- the buffers are 0 to n - 1, each given once
abbrev pub AreGivenOnce : List Gift → Type 0
AreGivenOnce gifts = (b : ℕ) → b < buffer_count gifts → length (owners b gifts) ≡ 1

-- a table of owners: at each buffer the actor it is given to, if any
pub record IsTable (count : ℕ) (table : List (Option ℕ)) (gifts : List Gift) : Type 0 where
  pub sized : length table ≡ count
  pub each : (b : ℕ) → b < count → owners b gifts ≡ option_to_list (slice_index_or table b None)

-- a plan that may be opened: there is one `actors` line, each buffer is given once, and rings, actors and buffers fit
-- together
pub record IsLawful (p : Named) : Type 0 where
  pub one_count : length p.counts ≡ 1
  pub once : AreGivenOnce p.gifts
  pub plan : IsPlan p.rings (slice_index p.counts 0) (gifts_of p.gifts)

-- the history of this plan before any step
abbrev pub opened : Named → History
opened p = record { plans = p.rings; actors = slice_index p.counts 0; gifts = gifts_of p.gifts; events = [] }
