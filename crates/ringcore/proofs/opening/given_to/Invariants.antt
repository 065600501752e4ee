use Rattle.std.proofs.Common.{◌≡◌, ◌≤◌, ◌==◌, length}
use Rattle.std.specs.Prelude.{slice_index}
use Rattle.std.specs.List.{filter, range_with_len}
use Rattle.ringcore.proofs.opening.given_to.Given as goal

abbrev pub invariant-loop-b : goal.invariant-loop-b
invariant-loop-b l =
    (l.count ≡ length (filter (λ b. slice_index l.gifts b == l.actor) (range_with_len 0 l.b))) × (l.count ≤ l.b)
