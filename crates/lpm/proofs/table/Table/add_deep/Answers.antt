use Rattle.std.proofs.Common.{◌<◌, sym, subst}
use Rattle.std.proofs.lemmas.Result.{err_from_is_err_and}
use Rattle.lpm.specs.Prefixes.{prefix_of}
use Rattle.lpm.specs.Routes.{Routes, NeedsTooMany}
use Rattle.lpm.specs.contracts.table.Table.{the_view}
use Rattle.lpm.proofs.Masks.{masked-masked}
use Rattle.lpm.proofs.Rights.{deep_needs, deep_added, first_is, inserts, members_with}
use Rattle.lpm.proofs.table.Table.add_deep.Goals as goal

pub returns-in_err-reserve_group-clause-no_group : goal.returns-in_err-reserve_group-clause-no_group
returns-in_err-reserve_group-clause-no_group c =
    let deep = subst (λ (t : Routes). t.bits < c.args.depth) (sym c.self.view_is) c.requires.deep in
    let at = first_is c.args.addr c.args.depth c.of-prefix.ensures c.bits.ensures.value c.first_of-first.ensures.value in
    let fits = rw c.bits.ensures.value at c.first_of-first.ensures.below in
    let needs = deep_needs c.self.inside.levels c.self.inside.members _ c.args.addr c.args.depth c.args.hop _ c.self.invariant
    (inserts _ _ c.args.hop) deep at fits in
    let shown : NeedsTooMany (the_view c.self.inside) c.args.addr c.args.depth c.args.hop
    → NeedsTooMany c.args.self.now c.args.addr c.args.depth c.args.hop =
    subst (λ (t : Routes). NeedsTooMany t c.args.addr c.args.depth c.args.hop) c.self.view_is in
    let hidden : NeedsTooMany c.args.self.now c.args.addr c.args.depth c.args.hop
    → NeedsTooMany (the_view c.self.inside) c.args.addr c.args.depth c.args.hop =
    subst (λ (t : Routes). NeedsTooMany t c.args.addr c.args.depth c.args.hop) (sym c.self.view_is) in
    let no_group = c.in_err-reserve_group.ensures.no_group in
    let p = err_from_is_err_and c.from_residual.result c.from_residual.ensures.1 in
    rw (p.1, p.2) (λ e. shown (needs.0 (no_group.0 e)), λ h. no_group.1 (needs.1 (hidden h)))

pub returns-in_err-insert-clause-no_group : goal.returns-in_err-insert-clause-no_group
returns-in_err-insert-clause-no_group c =
    let deep = subst (λ (t : Routes). t.bits < c.args.depth) (sym c.self.view_is) c.requires.deep in
    let at = first_is c.args.addr c.args.depth c.of-prefix.ensures c.bits.ensures.value c.first_of-first.ensures.value in
    let fits = rw c.bits.ensures.value at c.first_of-first.ensures.below in
    let needs = deep_needs c.self.inside.levels c.self.inside.members _ c.args.addr c.args.depth c.args.hop _ c.self.invariant
    (inserts _ _ c.args.hop) deep at fits in
    let hidden : NeedsTooMany c.args.self.now c.args.addr c.args.depth c.args.hop
    → NeedsTooMany (the_view c.self.inside) c.args.addr c.args.depth c.args.hop =
    subst (λ (t : Routes). NeedsTooMany t c.args.addr c.args.depth c.args.hop) (sym c.self.view_is) in
    let no_group = c.in_ok-reserve_group.ensures.no_group in
    let p = err_from_is_err_and c.from_residual-in_err-insert.result c.from_residual-in_err-insert.ensures.1 in
    let memory = c.in_err-insert.ensures.memory in
    rw (p.1, p.2) (λ e. cc, λ h. let refused = no_group.1 (needs.1 (hidden h)) in cc)

pub overwrite-requires-clause-masked : goal.overwrite-requires-clause-masked
overwrite-requires-clause-masked c = rw c.of-prefix.ensures (masked-masked c.args.addr c.args.depth)

pub invariant_of-self-2 : goal.invariant_of-self-2
invariant_of-self-2 c =
    let p = c.self.inside.levels in
    let m = c.self.inside.members in
    let deep = subst (λ (t : Routes). t.bits < c.args.depth) (sym c.self.view_is) c.requires.deep in
    let at = first_is c.args.addr c.args.depth c.of-prefix.ensures c.bits.ensures.value c.first_of-first.ensures.value in
    let fits = rw c.bits.ensures.value at c.first_of-first.ensures.below in
    let change = inserts m (prefix_of c.args.addr c.args.depth) c.args.hop in
    let are = members_with m c.args.addr c.args.depth c.args.hop c.self.invariant.members c.requires.depth c.ranges.addr.fits
    c.requires.hop in
    let overwrites = rw (c.of-prefix.ensures, c.route.ensures) at c.overwrite.ensures.overwrites in
    rw (c.in_ok-insert.ensures.ok, c.of-prefix.ensures)
    (deep_added p c.reserve_group.new.self c.ensure_group.new.self c.overwrite.new.self m _ c.args.addr c.args.depth c.args.hop
    c.first_of-first.result
    c.self.invariant c.requires.depth deep change are at fits c.in_ok-reserve_group.ensures.ok c.ensure_group.ensures.opens
    c.ensure_group.ensures.used
    c.in_ok-reserve_group.ensures.within c.overwrite.ensures.keeps overwrites)

pub returns-clause-no_group : goal.returns-clause-no_group
returns-clause-no_group c =
    let deep = subst (λ (t : Routes). t.bits < c.args.depth) (sym c.self.view_is) c.requires.deep in
    let at = first_is c.args.addr c.args.depth c.of-prefix.ensures c.bits.ensures.value c.first_of-first.ensures.value in
    let fits = rw c.bits.ensures.value at c.first_of-first.ensures.below in
    let needs = deep_needs c.self.inside.levels c.self.inside.members _ c.args.addr c.args.depth c.args.hop _ c.self.invariant
    (inserts _ _ c.args.hop) deep at fits in
    let hidden : NeedsTooMany c.args.self.now c.args.addr c.args.depth c.args.hop
    → NeedsTooMany (the_view c.self.inside) c.args.addr c.args.depth c.args.hop =
    subst (λ (t : Routes). NeedsTooMany t c.args.addr c.args.depth c.args.hop) (sym c.self.view_is) in
    let no_group = c.in_ok-reserve_group.ensures.no_group in
    (λ e. cc, λ h. let refused = no_group.1 (needs.1 (hidden h)) in cc)
