use Rattle.std.proofs.Common.{◌≡◌, ◌≢◌, ◌∙◌, ap, sym, subst, map, List, None}
use Rattle.std.specs.Prelude.{All, IfNone, IfSome}
use Rattle.std.specs.List.Sorted.{IsNonDecreasing, IsNonDecreasingBy}
use Rattle.burst.specs.Numbers.{AreDistinct}
use Rattle.mbuf.specs.Deck.{Share, StandsAt, share_of}
use Rattle.mbuf.specs.Entries.{HasIdAt}
use Rattle.mbuf.specs.declared.entry.Entry.{Entry}
use Rattle.mbuf.proofs.Searching.{rising_by, kept_ids}
use Rattle.mbuf.proofs.Ids.{absent, found}
use Rattle.mbuf.proofs.share_table.ShareTable.place.Goals as goal

pub place_of-requires : goal.place_of-requires
place_of-requires c =
    let entries = c.self.inside.entries.items in
    let same_ids : map (λ (entry : Entry). entry.id) entries ≡ map (λ (share : Share). share.id) c.args.self.now =
    sym (kept_ids c.self.inside.packets entries) ∙ ap (map (λ (share : Share). share.id)) c.self.view_is in
    let rising = rising_by (λ (entry : Entry). entry.id) entries (subst IsNonDecreasing (sym same_ids) c.requires.rising) in
    record { rising = subst (IsNonDecreasingBy (λ (entry : Entry). entry.id)) (sym c.deref.ensures.value) rising }

pub returns : goal.returns
returns c =
    let entries = c.self.inside.entries.items in
    let packets = c.self.inside.packets in
    let id = c.args.id in
    let place = c.place_of.result in
    let read = c.deref.ensures.value in
    let none = subst (λ (l : List Entry). IfNone place (All (λ (entry : Entry). entry.id ≢ id) l)) read c.place_of.ensures.absent in
    let at = subst (λ (l : List Entry). IfSome place (HasIdAt id l)) read c.place_of.ensures.found in
    let distinct = subst (λ (l : List Share). AreDistinct (map (λ (share : Share). share.id) l)) (sym c.self.view_is) c.requires.distinct in
    record {
      absent = subst (λ (l : List Share). IfNone place (share_of id l ≡ None)) c.self.view_is (absent id packets entries place none);
      found = subst (λ (l : List Share). IfSome place (StandsAt id l)) c.self.view_is (found id packets entries place distinct at);
    }
