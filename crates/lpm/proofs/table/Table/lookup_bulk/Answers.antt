use Rattle.std.proofs.Common.{◌<◌, ◌^◌, None, get_or, map, sym, ap, ◌∙◌, subst}
use Rattle.std.specs.Option.{IfSome}
use Rattle.lpm.specs.Match.{IsLongestMatch, lookup_in}
use Rattle.lpm.specs.Routes.{Routes}
use Rattle.lpm.proofs.Lookups.{hops_right, hop_at, small_hop}
use Rattle.lpm.proofs.Matches.{lookup_in_holds}
use Rattle.lpm.proofs.table.Table.lookup_bulk.Goals as goal

pub returns-clause-value : goal.returns-clause-value
returns-clause-value c =
    c.hops_for.ensures
    ∙ hops_right c.self.inside.levels c.self.inside.members c.self.invariant c.args.addresses.now (λ j. (c.type_inv.addresses j).fits)
    ∙ ap (λ (t : Routes). map (lookup_in t.members) c.args.addresses.now) c.self.view_is

pub returns-clause-longest : goal.returns-clause-longest
returns-clause-longest c k within =
    let m = c.self.inside.members in
    let a = get_or c.args.addresses.now k 0 in
    let value = c.hops_for.ensures
    ∙ hops_right c.self.inside.levels m c.self.invariant c.args.addresses.now (λ j. (c.type_inv.addresses j).fits) in
    subst (λ (t : Routes). IsLongestMatch t.members a (get_or c.hops_for.new.hops k None)) c.self.view_is
    (subst (IsLongestMatch m a) (sym (hop_at m c.args.addresses.now c.hops_for.new.hops value k within)) (lookup_in_holds m a))

pub returns-clause-small : goal.returns-clause-small
returns-clause-small c k within =
    let m = c.self.inside.members in
    let a = get_or c.args.addresses.now k 0 in
    let value = c.hops_for.ensures
    ∙ hops_right c.self.inside.levels m c.self.invariant c.args.addresses.now (λ j. (c.type_inv.addresses j).fits) in
    subst (λ answer. IfSome answer (λ hop. hop < 2 ^ 24))
    (sym (hop_at m c.args.addresses.now c.hops_for.new.hops value k within))
    (small_hop m a _ c.self.invariant.members (lookup_in_holds m a))
