use Rattle.std.proofs.Common.{arith, ◌∙◌, ap, set, List}
use Rattle.mbuf.specs.Deck.{Share, share_at, narrowed}
use Rattle.mbuf.proofs.Entries.{read_at, narrow_live, narrow_table}
use Rattle.mbuf.proofs.share_table.ShareTable.narrow.Goals as goal

pub overflow_add-entry : goal.overflow_add-entry
overflow_add-entry c =
    let read = read_at _ _ _ _ _ c.self.view_is c.requires.there c.index-entry.ensures c.self.invariant in
    omega (arith, read.long, read.kept.fits)

pub invariant_of-self : goal.invariant_of-self
invariant_of-self c =
    let read = read_at _ _ _ _ _ c.self.view_is c.requires.there c.index-entry.ensures c.self.invariant in
    narrow_table c.self.inside.packets c.self.inside.entries.items c.args.place c.index-entry.result.now read.there c.index-entry.ensures c.args.from c.args.n
    (omega (arith, read.long)) c.self.invariant

pub returns : goal.returns
returns c =
    let read = read_at _ _ _ _ _ c.self.view_is c.requires.there c.index-entry.ensures c.self.invariant in
    narrow_live c.self.inside.packets c.self.inside.entries.items c.args.place c.index-entry.result.now read.there c.index-entry.ensures c.args.from c.args.n
    (omega (arith, read.long))
    ∙ ap (λ (live : List Share). set live c.args.place (narrowed c.args.from c.args.n (share_at live c.args.place))) c.self.view_is
