use Rattle.std.proofs.Common.{◌≤◌, sym, subst, refl, arith, Some}
use Rattle.lpm.specs.TableEntry.{entry_of}
use Rattle.lpm.specs.Prefixes.{prefix_of}
use Rattle.lpm.specs.Routes.{Routes, NeedsTooMany}
use Rattle.lpm.proofs.Rights.{shallow_fits, right_shallow, inserts, members_with}
use Rattle.lpm.proofs.table.Table.add_shallow.Goals as goal

pub returns-in_err-insert-clause-fits : goal.returns-in_err-insert-clause-fits
returns-in_err-insert-clause-fits c =
    let shallow = subst (λ (t : Routes). c.args.depth ≤ t.bits) (sym c.self.view_is) c.requires.shallow in
    subst (λ (t : Routes). ¬ NeedsTooMany t c.args.addr c.args.depth c.args.hop) c.self.view_is
    (λ h. omega (
      arith,
      h,
      shallow_fits c.self.inside.levels c.self.inside.members _ c.args.addr c.args.depth _ c.self.invariant shallow
          (inserts _ _ c.args.hop),
    ))

pub returns-clause-fits : goal.returns-clause-fits
returns-clause-fits c =
    let shallow = subst (λ (t : Routes). c.args.depth ≤ t.bits) (sym c.self.view_is) c.requires.shallow in
    subst (λ (t : Routes). ¬ NeedsTooMany t c.args.addr c.args.depth c.args.hop) c.self.view_is
    (λ h. omega (
      arith,
      h,
      shallow_fits c.self.inside.levels c.self.inside.members _ c.args.addr c.args.depth _ c.self.invariant shallow
          (inserts _ _ c.args.hop),
    ))

pub invariant_of-self-2 : goal.invariant_of-self-2
invariant_of-self-2 c =
    let p = c.self.inside.levels in
    let m = c.self.inside.members in
    let shallow = subst (λ (t : Routes). c.args.depth ≤ t.bits) (sym c.self.view_is) c.requires.shallow in
    let change = inserts m (prefix_of c.args.addr c.args.depth) c.args.hop in
    let are = members_with m c.args.addr c.args.depth c.args.hop c.self.invariant.members c.requires.depth c.ranges.addr.fits
    c.requires.hop in
    let overwrites = rw (c.of-prefix.ensures, c.route.ensures) at c.overwrite.ensures.overwrites in
    rw (c.in_ok-insert.ensures.ok, c.of-prefix.ensures)
    (right_shallow p c.overwrite.new.self m _ c.args.addr c.args.depth (Some c.args.hop)
    (entry_of c.args.depth c.args.hop) c.self.invariant c.requires.depth shallow change are
    (λ a e. refl) c.overwrite.ensures.keeps overwrites)
