use Rattle.std.proofs.Common.{◌≡◌, ◌<◌, ◌≤◌, ◌^◌, List, ◌++◌, refl, ap, set, sym, ◌∙◌, subst, length, true, false, arith}
use Rattle.std.proofs.lemmas.List.{with_items_is}
use Rattle.std.specs.Option.{option_to_list}
use Rattle.std.specs.Vec.{vec_capacity}
use Rattle.lpm.specs.TableEntry.{TableEntry, entry_of, is_group}
use Rattle.lpm.specs.Allocated.{GroupsAreAllocated}
use Rattle.lpm.specs.TwoLevels.{TwoLevels, Regroups, first_at}
use Rattle.lpm.specs.Prefixes.{size_of}
use Rattle.lpm.specs.contracts.levels.Levels.{the_view}
use Rattle.lpm.proofs.GroupOverwrites.{stretch_fits}
use Rattle.lpm.proofs.Allocating.{allocated_opened, last_made, last_fits, unnamed_last}
use Rattle.lpm.proofs.Regroup.{opens}
use Rattle.lpm.proofs.levels.Levels.open_group.Goals as goal

pub place-start-requires-clause-group : goal.place-start-requires-clause-group
place-start-requires-clause-group c =
    last_fits c.self.invariant _ c.pop.new.self.items
    (c.pop.ensures.items ∙ ap (λ o. c.pop.new.self.items ++ option_to_list o) c.unwrap-group.ensures)

pub place-end-requires-clause-group : goal.place-end-requires-clause-group
place-end-requires-clause-group c =
    last_fits c.self.invariant _ c.pop.new.self.items
    (c.pop.ensures.items ∙ ap (λ o. c.pop.new.self.items ++ option_to_list o) c.unwrap-group.ensures)

pub group-requires : goal.group-requires
group-requires c =
    last_fits c.self.invariant _ c.pop.new.self.items
    (c.pop.ensures.items ∙ ap (λ o. c.pop.new.self.items ++ option_to_list o) c.unwrap-group.ensures)

pub fill-requires-clause-within : goal.fill-requires-clause-within
fill-requires-clause-within c =
    let split = c.pop.ensures.items ∙ ap (λ o. c.pop.new.self.items ++ option_to_list o) c.unwrap-group.ensures in
    let fits = stretch_fits c.self.invariant c.unwrap-group.result (size_of c.self.inside.bits) (last_made c.self.invariant _ _ split)
    (omega arith) in
    omega (arith, c.deref_mut.ensures.len)

pub invariant_of-self : goal.invariant_of-self
invariant_of-self c =
    let p : TwoLevels = the_view c.self.inside in
    let plain = subst (λ (q : TwoLevels). is_group (first_at q c.args.first) ≡ false) (sym c.self.view_is) c.requires.plain in
    let in_level = subst (λ (q : TwoLevels). c.args.first < 2 ^ q.bits) (sym c.self.view_is) c.requires.first in
    let fits : c.args.first < length p.first = omega (arith, c.self.invariant.whole) in
    let split = c.pop.ensures.items ∙ ap (λ o. c.pop.new.self.items ++ option_to_list o) c.unwrap-group.ensures in
    let items = with_items_is c.self.inside.groups c.fill.new.entries (omega (arith, c.deref_mut.ensures.len)) in
    let room : vec_capacity c.self.inside.free ≤ vec_capacity c.pop.new.self = omega (arith, c.pop.ensures.capacity) in
    rw (c.set.ensures, c.group.ensures)
    (subst (λ (es : List TableEntry). GroupsAreAllocated p.bits p.limit (set p.first c.args.first (entry_of 33 c.unwrap-group.result)) es c.pop.new.self.items
    (vec_capacity c.pop.new.self)) (sym items)
    (allocated_opened c.self.invariant c.args.first fits plain (entry_of 33 c.unwrap-group.result) refl c.fill.new.entries
    (omega (arith, c.deref_mut.ensures.len))
    c.pop.new.self.items split _ room))

pub returns-clause-opens : goal.returns-clause-opens
returns-clause-opens c =
    let p : TwoLevels = the_view c.self.inside in
    let plain = subst (λ (q : TwoLevels). is_group (first_at q c.args.first) ≡ false) (sym c.self.view_is) c.requires.plain in
    let in_level = subst (λ (q : TwoLevels). c.args.first < 2 ^ q.bits) (sym c.self.view_is) c.requires.first in
    let fits : c.args.first < length p.first = omega (arith, c.self.invariant.whole) in
    let split = c.pop.ensures.items ∙ ap (λ o. c.pop.new.self.items ++ option_to_list o) c.unwrap-group.ensures in
    let items = with_items_is c.self.inside.groups c.fill.new.entries (omega (arith, c.deref_mut.ensures.len)) in
    let entry = c.at.ensures in
    let filled = rw (c.deref_mut.ensures.value, c.place-start.ensures, c.place-end.ensures, c.size.ensures, entry) at c.fill.ensures in
    rw (← c.self.view_is, c.set.ensures, c.group.ensures)
    (subst (λ (es : List TableEntry). Regroups p (record p
    { first = set p.first c.args.first (entry_of 33 c.unwrap-group.result); groups = es; free = length c.pop.new.self.items }) c.args.first
    true) (sym items)
    (opens p c.args.first fits c.fill.new.entries c.unwrap-group.result plain filled (unnamed_last c.self.invariant _ _ split) _))
