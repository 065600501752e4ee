use Rattle.std.proofs.Common.{◌≡◌, ℕ, ◌+◌, ◌<◌, ◌≤◌, None}
use Rattle.reorder.specs.Places.{at_number}
use Rattle.reorder.proofs.places.first_held.Given as goal

-- the places after `next` that were looked at are empty
abbrev pub invariant-loop-step : goal.invariant-loop-step
invariant-loop-step g l = (k : ℕ) → l.next ≤ k → k < l.next + l.step → at_number l.places.items k ≡ None
