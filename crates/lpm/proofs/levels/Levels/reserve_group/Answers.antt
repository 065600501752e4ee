use Rattle.std.proofs.Common.{◌≡◌, ◌<◌, ◌^◌, length, ap, sym, ◌∙◌, subst, false, arith}
use Rattle.lpm.specs.TableEntry.{is_group}
use Rattle.lpm.specs.TwoLevels.{TwoLevels, first_at, used_of}
use Rattle.lpm.specs.contracts.levels.Levels.{the_view}
use Rattle.lpm.proofs.Allocating.{fewer_groups}
use Rattle.lpm.proofs.levels.Levels.reserve_group.Goals as goal

pub make_room-requires-clause-fewer : goal.make_room-requires-clause-fewer
make_room-requires-clause-fewer c =
    let p : TwoLevels = the_view c.self.inside in
    let in_level = subst (λ (q : TwoLevels). c.args.first < 2 ^ q.bits) (sym c.self.view_is) c.requires in
    let fits : c.args.first < length p.first = omega (arith, c.self.invariant.whole) in
    let read = c.at.ensures in
    let plain : is_group (first_at p c.args.first) ≡ false = ap is_group (sym read) ∙ sym c.is_group.ensures ∙ c.if-is_group.false in
    subst (λ (q : TwoLevels). used_of q < 2 ^ q.bits) c.self.view_is
    (omega (arith, fewer_groups p.first c.args.first fits plain, c.self.invariant.whole))
