use Rattle.std.proofs.Common.{sym, arith, ap, length, ◌≤◌}
use Rattle.std.proofs.lemmas.Bool.Decides.{nat_tests}
use Rattle.std.proofs.lemmas.Option.{slice_get_past}
use Rattle.burst.proofs.Items.{held, length_held}
use Rattle.burst.proofs.burst.Burst.get.Goals as goal

pub returns-in-None : goal.returns-in-None
returns-in-None g c =
    let long = length_held _ _ (held _ _ c.self.invariant c.self.view_is) in
    let same = ap length c.as_slice.ensures in
    let past : length c.args.self.now ≤ c.args.i = grind (arith, nat_tests) in
    sym (slice_get_past _ _ past)
