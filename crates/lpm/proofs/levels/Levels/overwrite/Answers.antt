use Rattle.std.proofs.Common.{◌≡◌, ◌-◌, ◌*◌, ◌%◌, ◌^◌, ap, arith}
use Rattle.std.proofs.lemmas.Nat.{one_shl}
use Rattle.lpm.specs.TwoLevels.{TwoLevels}
use Rattle.lpm.proofs.Cover.{entries_fit, within_fits}
use Rattle.lpm.proofs.LevelOverwrites.{overwrites_shallow, overwrites_deep}
use Rattle.lpm.proofs.LevelReads.{at_most}
use Rattle.lpm.proofs.levels.Levels.overwrite.Goals as goal

pub overwrite_entries-requires-clause-within : goal.overwrite_entries-requires-clause-within
overwrite_entries-requires-clause-within c =
    let bits = ap (λ (p : TwoLevels). p.bits) c.self.view_is in
    let count : (1 * 2 ^ (c.self.inside.bits - c.args.prefix.depth)) % 2 ^ 64 ≡ 2 ^
    (c.self.inside.bits - c.args.prefix.depth) = one_shl _ 64 (omega (arith, at_most c.self.invariant)) in
    let fit = entries_fit c.args.prefix.address c.args.prefix.depth c.self.inside.bits c.requires.masked c.if-prefix-self.true
    (omega (arith, at_most c.self.invariant)) (omega arith) (omega (arith, c.requires.depth.1)) in
    rw (← bits, c.first_of-first.ensures.value, count) fit

pub overwrite_group-requires-clause-within : goal.overwrite_group-requires-clause-within
overwrite_group-requires-clause-within c =
    let bits = ap (λ (p : TwoLevels). p.bits) c.self.view_is in
    let fit = within_fits c.args.prefix.address c.args.prefix.depth c.self.inside.bits c.requires.masked c.if-prefix-self.false
    c.requires.depth.1 in
    rw (← bits, c.low_of-from.ensures.value, c.size.ensures) fit

pub returns-then-prefix-self-clause-overwrites : goal.returns-then-prefix-self-clause-overwrites
returns-then-prefix-self-clause-overwrites c =
    let bits = ap (λ (p : TwoLevels). p.bits) c.self.view_is in
    let count : (1 * 2 ^ (c.self.inside.bits - c.args.prefix.depth)) % 2 ^ 64 ≡ 2 ^ (c.self.inside.bits - c.args.prefix.depth) =
    one_shl _ 64 (omega (arith, at_most c.self.invariant)) in
    let overwritten = rw (c.first_of-first.ensures.value, count, bits) at c.overwrite_entries.ensures.overwrites in
    overwrites_shallow c.args.self.now c.overwrite_entries.new.self c.args.prefix c.args.entry c.requires.masked (omega arith)
    (omega (arith, at_most c.self.invariant)) overwritten

pub returns-else-prefix-self-clause-overwrites : goal.returns-else-prefix-self-clause-overwrites
returns-else-prefix-self-clause-overwrites c =
    let bits = ap (λ (p : TwoLevels). p.bits) c.self.view_is in
    let overwritten = rw (c.low_of-from.ensures.value, c.first_of-first.ensures.value, c.size.ensures, bits) at c.overwrite_group.ensures.overwrites in
    overwrites_deep c.args.self.now c.overwrite_group.new.self c.args.prefix c.args.entry c.requires.masked (omega arith) c.requires.depth.1 overwritten
