use Rattle.std.proofs.Common.{◌++◌, ◌==◌, ◌∙◌, ap, sym, List, subst}
use Rattle.std.specs.Prelude.{remove}
use Rattle.std.specs.List.{list_any}
use Rattle.mbuf.specs.Buffer.{Buffer}
use Rattle.mbuf.specs.Chain.{fresh_of, singles}
use Rattle.mbuf.specs.Links.{rest_of}
use Rattle.mbuf.specs.Deck.{Share, unmentioned}
use Rattle.mbuf.specs.Entries.{IsTable, live_of}
use Rattle.mbuf.specs.declared.entry.Entry.{Entry}
use Rattle.mbuf.proofs.Entries.{read_at}
use Rattle.mbuf.proofs.Removing.{remove_live, keeps_table, keeps_all, last_live, last_table, gives_all}
use Rattle.mbuf.proofs.share_table.ShareTable.release.Goals as goal

pub invariant_of-self : goal.invariant_of-self
invariant_of-self c =
    let read = read_at _ _ _ _ _ c.self.view_is c.requires.there c.remove-entry.ensures.value c.self.invariant in
    let names = λ (s : Entry). s.packet == c.remove-entry.result.packet in
    let named = ap (list_any names) (sym (c.deref.ensures.value ∙ c.remove-entry.ensures.items)) ∙ sym c.is_named.ensures ∙ c.if-is_named.true in
    subst (IsTable c.self.inside.packets) (sym c.remove-entry.ensures.items)
    (keeps_table _ _ _ _ read.there c.remove-entry.ensures.value c.self.invariant named)

pub returns-then-is_named-clause-done : goal.returns-then-is_named-clause-done
returns-then-is_named-clause-done c =
    let read = read_at _ _ _ _ _ c.self.view_is c.requires.there c.remove-entry.ensures.value c.self.invariant in
    ap (live_of c.self.inside.packets) c.remove-entry.ensures.items
    ∙ remove_live c.self.inside.packets _ c.args.place _ read.there c.remove-entry.ensures.value c.self.invariant
    ∙ ap (λ (live : List Share). remove live c.args.place) c.self.view_is

pub returns-then-is_named-clause-given : goal.returns-then-is_named-clause-given
returns-then-is_named-clause-given c =
    let read = read_at _ _ _ _ _ c.self.view_is c.requires.there c.remove-entry.ensures.value c.self.invariant in
    let names = λ (s : Entry). s.packet == c.remove-entry.result.packet in
    let named = ap (list_any names) (sym (c.deref.ensures.value ∙ c.remove-entry.ensures.items)) ∙ sym c.is_named.ensures ∙ c.if-is_named.true in
    let none = keeps_all _ _ _ _ read.there c.remove-entry.ensures.value c.self.invariant named in
    let packets = c.self.inside.packets in
    let left = c.remove-entry.ensures.items in
    let share = read.share in
    c.requires.empty ∙ sym (ap singles ((λ k. unmentioned (live_of packets (left k)) (share k).mentions) ∙ none))

pub invariant_of-self-2 : goal.invariant_of-self-2
invariant_of-self-2 c =
    let read = read_at _ _ _ _ _ c.self.view_is c.requires.there c.remove-entry.ensures.value c.self.invariant in
    let names = λ (s : Entry). s.packet == c.remove-entry.result.packet in
    let none = ap (list_any names) (sym (c.deref.ensures.value ∙ c.remove-entry.ensures.items)) ∙ sym c.is_named.ensures ∙ c.if-is_named.false in
    subst (IsTable c.remove.new.self) (sym c.remove-entry.ensures.items)
    (last_table _ _ _ _ read.there c.remove-entry.ensures.value c.self.invariant _ c.remove.ensures.updates none)

pub returns-clause-done : goal.returns-clause-done
returns-clause-done c =
    let read = read_at _ _ _ _ _ c.self.view_is c.requires.there c.remove-entry.ensures.value c.self.invariant in
    let names = λ (s : Entry). s.packet == c.remove-entry.result.packet in
    let none = ap (list_any names) (sym (c.deref.ensures.value ∙ c.remove-entry.ensures.items)) ∙ sym c.is_named.ensures ∙ c.if-is_named.false in
    ap (live_of c.remove.new.self) c.remove-entry.ensures.items
    ∙ last_live _ _ _ _ read.there c.remove-entry.ensures.value c.self.invariant _ c.remove.ensures.updates none
    ∙ ap (λ (live : List Share). remove live c.args.place) c.self.view_is

pub returns-clause-given : goal.returns-clause-given
returns-clause-given c =
    let read = read_at _ _ _ _ _ c.self.view_is c.requires.there c.remove-entry.ensures.value c.self.invariant in
    let names = λ (s : Entry). s.packet == c.remove-entry.result.packet in
    let none = ap (list_any names) (sym (c.deref.ensures.value ∙ c.remove-entry.ensures.items)) ∙ sym c.is_named.ensures ∙ c.if-is_named.false in
    let all = gives_all _ _ _ _ read.there c.remove-entry.ensures.value c.self.invariant _ c.remove.ensures.updates none in
    let later = c.remove.new.self in
    let left = c.remove-entry.ensures.items in
    let share = read.share in
    c.take_apart.ensures ∙ ap (λ (l : List (List Buffer)). l ++ singles (fresh_of c.remove.result)) c.requires.empty
    ∙ ap (λ (o : List Buffer). singles (fresh_of o)) (sym (ap rest_of c.remove.ensures.value))
    ∙ sym (ap singles ((λ k. unmentioned (live_of later (left k)) (share k).mentions) ∙ all))
