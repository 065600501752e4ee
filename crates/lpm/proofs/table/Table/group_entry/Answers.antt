use Rattle.std.proofs.Common.{◌≡◌, ℕ, ◌^◌, ◌<◌, Some, sym, ap, ◌∙◌, subst}
use Rattle.lpm.specs.TableEntry.{hop_of}
use Rattle.lpm.specs.Match.{IsLongestMatch}
use Rattle.lpm.specs.Prefixes.{size_of}
use Rattle.lpm.specs.TwoLevels.{grouped_at, address_at}
use Rattle.lpm.specs.Routes.{Routes, group_at, address_of}
use Rattle.lpm.proofs.Shows.{shown_group, group_matches}
use Rattle.lpm.proofs.table.Table.group_entry.Goals as goal

pub returns : goal.returns
returns c =
    let p = c.self.inside.levels in
    let low = subst (λ (t : Routes). c.args.low < size_of t.bits) (sym c.self.view_is) c.requires.place in
    let value : c.hop.result ≡ hop_of (grouped_at p c.args.group c.args.low) = c.hop.ensures.value ∙ ap hop_of c.in_group.ensures in
    subst (λ (t : Routes). (first : ℕ) → first < 2 ^ t.bits → group_at t first ≡ Some c.args.group
    → IsLongestMatch t.members (address_of t first c.args.low) c.hop.result)
    c.self.view_is
    (λ first fits e. subst (IsLongestMatch c.self.inside.members (address_at p first c.args.low)) (sym value)
    (group_matches p c.self.inside.members c.self.invariant first fits c.args.group c.args.low (sym (shown_group p.first first) ∙ e) low))
