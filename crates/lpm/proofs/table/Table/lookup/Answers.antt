use Rattle.std.proofs.Common.{sym, ap, ◌∙◌, subst}
use Rattle.lpm.specs.TableEntry.{hop_of}
use Rattle.lpm.specs.Match.{IsLongestMatch, lookup_in}
use Rattle.lpm.specs.Routes.{Routes}
use Rattle.lpm.proofs.Lookups.{right_at}
use Rattle.lpm.proofs.Matches.{lookup_in_holds}
use Rattle.lpm.proofs.table.Table.lookup.Goals as goal

pub returns-clause-value : goal.returns-clause-value
returns-clause-value c =
    c.hop.ensures.value ∙ ap hop_of (c.entry_for.ensures
    ∙ right_at c.self.inside.levels c.self.inside.members c.self.invariant c.args.addr c.ranges.addr.fits)
    ∙ ap (λ (t : Routes). lookup_in t.members c.args.addr) c.self.view_is

pub returns-clause-longest : goal.returns-clause-longest
returns-clause-longest c =
    let value = c.hop.ensures.value ∙ ap hop_of
    (c.entry_for.ensures ∙ right_at c.self.inside.levels c.self.inside.members c.self.invariant c.args.addr c.ranges.addr.fits)
    ∙ ap (λ (t : Routes). lookup_in t.members c.args.addr) c.self.view_is in
    subst (IsLongestMatch c.args.self.now.members c.args.addr) (sym value) (lookup_in_holds c.args.self.now.members c.args.addr)
