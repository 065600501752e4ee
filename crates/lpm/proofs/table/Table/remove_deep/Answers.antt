use Rattle.std.proofs.Common.{◌≡◌, ◌-◌, ◌<◌, sym, ap, ◌∙◌, subst, true, arith}
use Rattle.lpm.specs.TableEntry.{is_group}
use Rattle.lpm.specs.TwoLevels.{first_at}
use Rattle.lpm.specs.Prefixes.{first_bits}
use Rattle.lpm.specs.Routes.{Routes}
use Rattle.lpm.proofs.Shallow.{longest_plain}
use Rattle.lpm.proofs.Rights.{members_without, has_deep, had_group, loses_deep, still_needed, closes_plain, closes_alike, right_closed, right_kept}
use Rattle.lpm.proofs.table.Table.remove_deep.Goals as goal

pub longest-next-requires-clause-members : goal.longest-next-requires-clause-members
longest-next-requires-clause-members c =
    rw c.in_ok-remove.ensures.ok (members_without c.self.inside.members c.of-prefix.result c.self.invariant.members)

pub overwrite-requires-clause-plain : goal.overwrite-requires-clause-plain
overwrite-requires-clause-plain c = rw c.longest-next.ensures
    (longest_plain c.remove.new.self c.args.addr (c.args.depth - 1) (omega (arith, c.requires.depth.1)))

pub has_deeper-requires-clause-members : goal.has_deeper-requires-clause-members
has_deeper-requires-clause-members c =
    rw c.in_ok-remove.ensures.ok (members_without c.self.inside.members c.of-prefix.result c.self.invariant.members)

pub overwrite-requires-clause-grouped : goal.overwrite-requires-clause-grouped
overwrite-requires-clause-grouped c =
    let deep = subst (λ (t : Routes). t.bits < c.args.depth) (sym c.self.view_is) c.requires.deep in
    let had = has_deep c.self.invariant c.requires.depth deep c.of-prefix.ensures c.in_ok-remove.ensures.was c.bits-bits.ensures.value
    c.first_of-first.ensures.value c.first_of-first.ensures.below in
    let at = c.first_of-first.ensures.value ∙ ap (first_bits c.of-prefix.result.address) c.bits-bits.ensures.value in
    (λ _. subst (λ n. is_group (first_at c.self.inside.levels n) ≡ true) at (had_group had))

pub close_group-requires-clause-grouped : goal.close_group-requires-clause-grouped
close_group-requires-clause-grouped c =
    let deep = subst (λ (t : Routes). t.bits < c.args.depth) (sym c.self.view_is) c.requires.deep in
    let had = has_deep c.self.invariant c.requires.depth deep c.of-prefix.ensures c.in_ok-remove.ensures.was c.bits-bits.ensures.value
    c.first_of-first.ensures.value c.first_of-first.ensures.below in
    c.overwrite.ensures.keeps.kinds c.first_of-first.result ∙ had_group had

pub close_group-requires-clause-plain : goal.close_group-requires-clause-plain
close_group-requires-clause-plain c =
    let deep = subst (λ (t : Routes). t.bits < c.args.depth) (sym c.self.view_is) c.requires.deep in
    let had = has_deep c.self.invariant c.requires.depth deep c.of-prefix.ensures c.in_ok-remove.ensures.was c.bits-bits.ensures.value
    c.first_of-first.ensures.value c.first_of-first.ensures.below in
    let loses = loses_deep had c.of-prefix.ensures c.in_ok-remove.ensures.ok c.longest-next.ensures c.overwrite.ensures.keeps
    c.overwrite.ensures.overwrites in
    let still = still_needed c.remove.new.self c.of-prefix.result.address c.bits-bits.ensures.value c.first_of-first.ensures.value
    c.has_deeper.ensures in
    closes_plain loses (sym still ∙ c.if-not-has_deeper.true)

pub close_group-requires-clause-alike : goal.close_group-requires-clause-alike
close_group-requires-clause-alike c =
    let deep = subst (λ (t : Routes). t.bits < c.args.depth) (sym c.self.view_is) c.requires.deep in
    let had = has_deep c.self.invariant c.requires.depth deep c.of-prefix.ensures c.in_ok-remove.ensures.was c.bits-bits.ensures.value
    c.first_of-first.ensures.value c.first_of-first.ensures.below in
    let loses = loses_deep had c.of-prefix.ensures c.in_ok-remove.ensures.ok c.longest-next.ensures c.overwrite.ensures.keeps
    c.overwrite.ensures.overwrites in
    let still = still_needed c.remove.new.self c.of-prefix.result.address c.bits-bits.ensures.value c.first_of-first.ensures.value
    c.has_deeper.ensures in
    closes_alike loses (sym still ∙ c.if-not-has_deeper.true)

pub invariant_of-self-then-not-has_deeper : goal.invariant_of-self-then-not-has_deeper
invariant_of-self-then-not-has_deeper c =
    let deep = subst (λ (t : Routes). t.bits < c.args.depth) (sym c.self.view_is) c.requires.deep in
    let had = has_deep c.self.invariant c.requires.depth deep c.of-prefix.ensures c.in_ok-remove.ensures.was c.bits-bits.ensures.value
    c.first_of-first.ensures.value c.first_of-first.ensures.below in
    let loses = loses_deep had c.of-prefix.ensures c.in_ok-remove.ensures.ok c.longest-next.ensures c.overwrite.ensures.keeps
    c.overwrite.ensures.overwrites in
    let still = still_needed c.remove.new.self c.of-prefix.result.address c.bits-bits.ensures.value c.first_of-first.ensures.value
    c.has_deeper.ensures in
    right_closed loses (sym still ∙ c.if-not-has_deeper.true) c.close_group.new.self c.close_group.ensures.closes
    c.close_group.ensures.used

pub invariant_of-self-else-not-has_deeper : goal.invariant_of-self-else-not-has_deeper
invariant_of-self-else-not-has_deeper c =
    let deep = subst (λ (t : Routes). t.bits < c.args.depth) (sym c.self.view_is) c.requires.deep in
    let had = has_deep c.self.invariant c.requires.depth deep c.of-prefix.ensures c.in_ok-remove.ensures.was c.bits-bits.ensures.value
    c.first_of-first.ensures.value c.first_of-first.ensures.below in
    let loses = loses_deep had c.of-prefix.ensures c.in_ok-remove.ensures.ok c.longest-next.ensures c.overwrite.ensures.keeps
    c.overwrite.ensures.overwrites in
    let still = still_needed c.remove.new.self c.of-prefix.result.address c.bits-bits.ensures.value c.first_of-first.ensures.value
    c.has_deeper.ensures in
    right_kept loses (sym still ∙ c.if-not-has_deeper.false)
