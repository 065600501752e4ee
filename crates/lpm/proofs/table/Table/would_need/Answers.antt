use Rattle.std.proofs.Common.{◌≤◌, ◌<◌, sym, subst, arith}
use Rattle.lpm.specs.Routes.{Routes, NeedsTooMany}
use Rattle.lpm.specs.contracts.table.Table.{the_view}
use Rattle.lpm.proofs.Rights.{shallow_fits, deep_needs, first_is, inserts}
use Rattle.lpm.proofs.table.Table.would_need.Goals as goal

pub returns-then-depth-bits : goal.returns-then-depth-bits
returns-then-depth-bits c =
    let shallow : c.args.depth ≤ c.self.inside.levels.bits = omega (arith, c.bits-bits.ensures.value, c.if-depth-bits.true) in (
      λ e. cc,
      λ h. absurd (omega (
        arith,
        subst (λ (t : Routes). NeedsTooMany t c.args.addr c.args.depth c.args.hop) (sym c.self.view_is) h,
        shallow_fits c.self.inside.levels c.self.inside.members _ c.args.addr c.args.depth _ c.self.invariant shallow
            (inserts _ _ c.args.hop),
      )),
    )

pub returns : goal.returns
returns c =
    let at = first_is c.args.addr c.args.depth c.of-prefix.ensures c.bits-bits.ensures.value c.first_of-first.ensures.value in
    let fits = rw c.bits-bits.ensures.value at c.first_of-first.ensures.below in
    let deep : c.self.inside.levels.bits < c.args.depth = omega (arith, c.bits-bits.ensures.value, c.if-depth-bits.false) in
    let needs = deep_needs c.self.inside.levels c.self.inside.members _ c.args.addr c.args.depth c.args.hop _ c.self.invariant
    (inserts _ _ c.args.hop) deep at fits in
    let shown : NeedsTooMany (the_view c.self.inside) c.args.addr c.args.depth c.args.hop
    → NeedsTooMany c.args.self.now c.args.addr c.args.depth c.args.hop =
    subst (λ (t : Routes). NeedsTooMany t c.args.addr c.args.depth c.args.hop) c.self.view_is in
    let hidden : NeedsTooMany c.args.self.now c.args.addr c.args.depth c.args.hop
    → NeedsTooMany (the_view c.self.inside) c.args.addr c.args.depth c.args.hop =
    subst (λ (t : Routes). NeedsTooMany t c.args.addr c.args.depth c.args.hop) (sym c.self.view_is) in
    (λ e. shown (needs.0 (c.lacks_group.ensures.0 e)), λ h. c.lacks_group.ensures.1 (needs.1 (hidden h)))
