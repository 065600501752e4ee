use Rattle.std.proofs.Common.{◌≡◌, ◌<◌, ◌^◌, ap, sym, ◌∙◌, subst, length, false, arith}
use Rattle.lpm.specs.TableEntry.{TableEntry, is_group}
use Rattle.lpm.specs.TwoLevels.{TwoLevels, first_at}
use Rattle.lpm.specs.contracts.levels.Levels.{the_view}
use Rattle.lpm.proofs.EntryOverwrites.{entry_written, entry_deeper, allocated_plain}
use Rattle.lpm.proofs.levels.Levels.overwrite_entry.Goals as goal

pub returns-then-depth-clause-overwrites : goal.returns-then-depth-clause-overwrites
returns-then-depth-clause-overwrites c =
    let p : TwoLevels = the_view c.self.inside in
    let in_level = subst (λ (q : TwoLevels). c.args.first < 2 ^ q.bits) (sym c.self.view_is) c.requires.first in
    let fits : c.args.first < length p.first = omega (arith, c.self.invariant.whole) in
    let read = c.at-old.ensures in
    let plain : is_group (first_at p c.args.first) ≡ false = ap is_group (sym read) ∙ sym c.is_group.ensures ∙ c.if-is_group.false in
    let depth = ap (λ (e : TableEntry). e.depth) read in
    rw (← c.self.view_is, c.set.ensures) (entry_written p c.args.first c.args.depth c.args.entry plain c.requires.plain fits (omega arith))

pub returns-else-depth-clause-overwrites : goal.returns-else-depth-clause-overwrites
returns-else-depth-clause-overwrites c =
    let p : TwoLevels = the_view c.self.inside in
    let in_level = subst (λ (q : TwoLevels). c.args.first < 2 ^ q.bits) (sym c.self.view_is) c.requires.first in
    let fits : c.args.first < length p.first = omega (arith, c.self.invariant.whole) in
    let read = c.at-old.ensures in
    let plain : is_group (first_at p c.args.first) ≡ false = ap is_group (sym read) ∙ sym c.is_group.ensures ∙ c.if-is_group.false in
    let depth = ap (λ (e : TableEntry). e.depth) read in
    rw (← c.self.view_is) (entry_deeper p c.args.first c.args.depth c.args.entry plain (omega arith))

pub invariant_of-self : goal.invariant_of-self
invariant_of-self c =
    let p : TwoLevels = the_view c.self.inside in
    let in_level = subst (λ (q : TwoLevels). c.args.first < 2 ^ q.bits) (sym c.self.view_is) c.requires.first in
    let fits : c.args.first < length p.first = omega (arith, c.self.invariant.whole) in
    let read = c.at-old.ensures in
    let plain : is_group (first_at p c.args.first) ≡ false = ap is_group (sym read) ∙ sym c.is_group.ensures ∙ c.if-is_group.false in
    rw c.set.ensures (allocated_plain p.first c.args.first c.args.entry fits plain c.requires.plain c.self.invariant)
