use Rattle.std.proofs.Common.{◌≡◌, ℕ, ◌<◌, map, take, get_or, None, true}
use Rattle.std.specs.Prelude.{is_some}
use Rattle.std.specs.Option.{unwrap_or}
use Rattle.steps_file.proofs.stage.plan.all_owners.Given as goal

abbrev pub invariant-loop-owner : goal.invariant-loop-owner
invariant-loop-owner l =
    (l.given.items ≡ map (λ o. unwrap_or o 0) (take l.owner-index l.table))
    × ((b : ℕ) → b < l.owner-index → is_some (get_or l.table b None) ≡ true)
