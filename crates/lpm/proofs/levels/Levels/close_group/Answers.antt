use Rattle.std.proofs.Common.{◌≡◌, ℕ, ◌<◌, ◌^◌, ap, set, sym, ◌∙◌, subst, length, true, false, arith}
use Rattle.lpm.specs.TableEntry.{TableEntry, is_group}
use Rattle.lpm.specs.TwoLevels.{TwoLevels, Regroups, first_at, entry_at}
use Rattle.lpm.specs.Prefixes.{size_of}
use Rattle.lpm.specs.contracts.levels.Levels.{the_view}
use Rattle.lpm.proofs.LevelReads.{first_place}
use Rattle.lpm.proofs.EntryOverwrites.{one_if, count_written}
use Rattle.lpm.proofs.Allocating.{allocated_closed}
use Rattle.lpm.proofs.Regroup.{closes}
use Rattle.lpm.proofs.levels.Levels.close_group.Goals as goal

pub invariant_of-self : goal.invariant_of-self
invariant_of-self c =
    let p : TwoLevels = the_view c.self.inside in
    let grouped = subst (λ (x : TwoLevels). is_group (first_at x c.args.first) ≡ true) (sym c.self.view_is) c.requires.grouped in
    let in_level = subst (λ (x : TwoLevels). c.args.first < 2 ^ x.bits) (sym c.self.view_is) c.requires.first in
    let fits : c.args.first < length p.first = omega (arith, c.self.invariant.whole) in
    let number : c.number-group.result ≡ (first_at p c.args.first).number = c.number-group.ensures.value
    ∙ ap (λ (e : TableEntry). e.number) (c.at.ensures) in
    let entry = first_place p c.args.self.now c.args.first c.number-group.result c.in_group-entry.result c.self.view_is
    c.requires.grouped number c.in_group-entry.ensures in
    rw (c.set.ensures, c.push_reserved.ensures.items, c.push_reserved.ensures.capacity, number)
    (allocated_closed c.self.invariant c.args.first fits grouped c.in_group-entry.result (ap is_group entry ∙ c.requires.plain))

pub returns-clause-used : goal.returns-clause-used
returns-clause-used c =
    let p : TwoLevels = the_view c.self.inside in
    let grouped = subst (λ (x : TwoLevels). is_group (first_at x c.args.first) ≡ true) (sym c.self.view_is) c.requires.grouped in
    let in_level = subst (λ (x : TwoLevels). c.args.first < 2 ^ x.bits) (sym c.self.view_is) c.requires.first in
    let fits : c.args.first < length p.first = omega (arith, c.self.invariant.whole) in
    let number : c.number-group.result ≡ (first_at p c.args.first).number = c.number-group.ensures.value
    ∙ ap (λ (e : TableEntry). e.number) (c.at.ensures) in
    let entry = first_place p c.args.self.now c.args.first c.number-group.result c.in_group-entry.result c.self.view_is
    c.requires.grouped number c.in_group-entry.ensures in
    let plain : is_group c.in_group-entry.result ≡ false = ap is_group entry ∙ c.requires.plain in
    rw (← c.self.view_is, c.set.ensures)
    (omega (arith, count_written p.first c.args.first c.in_group-entry.result fits, ap one_if grouped, ap one_if plain))

pub returns-clause-closes : goal.returns-clause-closes
returns-clause-closes c =
    let p : TwoLevels = the_view c.self.inside in
    let grouped = subst (λ (x : TwoLevels). is_group (first_at x c.args.first) ≡ true) (sym c.self.view_is) c.requires.grouped in
    let in_level = subst (λ (x : TwoLevels). c.args.first < 2 ^ x.bits) (sym c.self.view_is) c.requires.first in
    let fits : c.args.first < length p.first = omega (arith, c.self.invariant.whole) in
    let number : c.number-group.result ≡ (first_at p c.args.first).number = c.number-group.ensures.value
    ∙ ap (λ (e : TableEntry). e.number) (c.at.ensures) in
    let entry = first_place p c.args.self.now c.args.first c.number-group.result c.in_group-entry.result c.self.view_is
    c.requires.grouped number c.in_group-entry.ensures in
    let plain = subst (λ (x : TwoLevels). is_group (entry_at x c.args.first 0) ≡ false) (sym c.self.view_is) c.requires.plain in
    let alike = subst (λ (x : TwoLevels). (low : ℕ) → low < size_of x.bits → entry_at x c.args.first low ≡ entry_at x c.args.first 0)
    (sym c.self.view_is) c.requires.alike in
    rw (← c.self.view_is, c.set.ensures)
    (subst (λ (x : TableEntry). Regroups p (record p
    { first = set p.first c.args.first x; free = length c.push_reserved.new.self.items }) c.args.first false)
    (sym (entry ∙ ap (λ (x : TwoLevels). entry_at x c.args.first 0) (sym c.self.view_is)))
    (closes p c.args.first fits grouped plain alike _))
