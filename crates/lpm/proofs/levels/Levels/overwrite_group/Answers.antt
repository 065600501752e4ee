use Rattle.std.proofs.Common.{◌≡◌, ◌+◌, ◌*◌, ◌<◌, ◌≤◌, ◌^◌, refl, List, ap, sym, ◌∙◌, subst, true, arith}
use Rattle.std.proofs.lemmas.List.{with_items_is}
use Rattle.lpm.specs.TableEntry.{TableEntry, is_group}
use Rattle.lpm.specs.TwoLevels.{TwoLevels, OverwritesWithin, first_at}
use Rattle.lpm.specs.Prefixes.{size_of}
use Rattle.lpm.specs.contracts.levels.Levels.{the_view}
use Rattle.lpm.proofs.GroupOverwrites.{overwrites_within, stretch_fits}
use Rattle.lpm.proofs.levels.Levels.overwrite_group.Goals as goal

pub overwrite-requires-clause-within : goal.overwrite-requires-clause-within
overwrite-requires-clause-within c =
    let p : TwoLevels = the_view c.self.inside in
    let grouped = subst (λ (q : TwoLevels). is_group (first_at q c.args.first) ≡ true) (sym c.self.view_is) c.requires.grouped in
    let in_level = subst (λ (q : TwoLevels). c.args.first < 2 ^ q.bits) (sym c.self.view_is) c.requires.first in
    let within = subst (λ (q : TwoLevels). c.args.to ≤ size_of q.bits) (sym c.self.view_is) c.requires.within in
    let read = c.at.ensures in
    let number : c.number-group.result ≡ (first_at p c.args.first).number = c.number-group.ensures.value
    ∙ ap (λ (e : TableEntry). e.number) read in
    let fits = stretch_fits c.self.invariant _ c.args.to (c.self.invariant.named c.args.first grouped) within in
    let end : c.place-end.result ≡ (first_at p c.args.first).number * size_of p.bits + c.args.to =
    c.place-end.ensures ∙ ap (λ n. n * size_of p.bits + c.args.to) number in
    omega (arith, c.deref_mut.ensures.len)

pub returns-clause-overwrites : goal.returns-clause-overwrites
returns-clause-overwrites c =
    let p : TwoLevels = the_view c.self.inside in
    let grouped = subst (λ (q : TwoLevels). is_group (first_at q c.args.first) ≡ true) (sym c.self.view_is) c.requires.grouped in
    let in_level = subst (λ (q : TwoLevels). c.args.first < 2 ^ q.bits) (sym c.self.view_is) c.requires.first in
    let within = subst (λ (q : TwoLevels). c.args.to ≤ size_of q.bits) (sym c.self.view_is) c.requires.within in
    let read = c.at.ensures in
    let number : c.number-group.result ≡ (first_at p c.args.first).number = c.number-group.ensures.value
    ∙ ap (λ (e : TableEntry). e.number) read in
    let start = c.place-start.ensures ∙ ap (λ n. n * size_of p.bits + c.args.from) number in
    let end = c.place-end.ensures ∙ ap (λ n. n * size_of p.bits + c.args.to) number in
    let overwritten = rw (c.deref_mut.ensures.value, start, end) at c.overwrite.ensures in
    let overwrites = overwrites_within p (record p { groups = c.overwrite.new.entries }) refl refl c.self.invariant.alone c.args.first c.args.from
    c.args.to
    c.args.depth c.args.entry grouped within c.requires.ordered overwritten in
    let items = with_items_is c.self.inside.groups c.overwrite.new.entries (omega (arith, c.deref_mut.ensures.len)) in
    rw (← c.self.view_is)
    (subst (λ (es : List TableEntry). OverwritesWithin p (record p { groups = es }) c.args.first c.args.from c.args.to c.args.depth c.args.entry)
    (sym items) overwrites)
