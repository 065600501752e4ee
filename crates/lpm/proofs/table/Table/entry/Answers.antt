use Rattle.std.proofs.Common.{◌≡◌, ℕ, ◌^◌, ◌<◌, Some, None, sym, ap, ◌∙◌, subst, true, false, refl}
use Rattle.lpm.specs.TableEntry.{hop_of, is_group}
use Rattle.lpm.specs.TwoLevels.{first_at, address_at}
use Rattle.lpm.specs.Match.{IsLongestMatch}
use Rattle.lpm.specs.Groups.{HasDeeper}
use Rattle.lpm.specs.Prefixes.{size_of}
use Rattle.lpm.specs.Routes.{Routes, group_at, address_of}
use Rattle.lpm.proofs.Shows.{shown_group, group_deeper, plain_shallow, plain_matches, group_of-is}
use Rattle.lpm.proofs.table.Table.entry.Goals as goal

pub returns-then-is_group-clause-deeper : goal.returns-then-is_group-clause-deeper
returns-then-is_group-clause-deeper c =
    let p = c.self.inside.levels in
    let fits = subst (λ (t : Routes). c.args.first < 2 ^ t.bits) (sym c.self.view_is) c.requires in
    let grouped : is_group (first_at p c.args.first) ≡ true = ap is_group (sym c.first-entry.ensures.value) ∙ sym c.is_group.ensures
    ∙ c.if-is_group.true in (
      λ _. subst (λ (t : Routes). HasDeeper t.bits t.members c.args.first) c.self.view_is
          (group_deeper p c.self.inside.members c.self.invariant c.args.first fits grouped),
      λ _. refl,
    )

pub returns-then-is_group-clause-alone : goal.returns-then-is_group-clause-alone
returns-then-is_group-clause-alone c =
    let p = c.self.inside.levels in
    let grouped : is_group c.first-entry.result ≡ true = sym c.is_group.ensures ∙ c.if-is_group.true in
    subst (λ (t : Routes). (other : ℕ) → group_at t other ≡ Some c.number.result → other ≡ c.args.first) c.self.view_is
    (λ other e. let named = group_of-is (first_at p other) c.number.result (sym (shown_group p.first other) ∙ e) in
    c.first-entry.ensures.alone grouped other named.0 (named.1 ∙ c.number.ensures.value))

pub returns-in-Some-clause-deeper : goal.returns-in-Some-clause-deeper
returns-in-Some-clause-deeper c =
    let p = c.self.inside.levels in
    let fits = subst (λ (t : Routes). c.args.first < 2 ^ t.bits) (sym c.self.view_is) c.requires in
    let plain : is_group (first_at p c.args.first) ≡ false = ap is_group (sym c.first-entry.ensures.value) ∙ sym c.is_group.ensures
    ∙ c.if-is_group.false in (
      λ e. cc,
      λ d. absurd (plain_shallow p c.self.inside.members c.self.invariant c.args.first fits plain
          (subst (λ (t : Routes). HasDeeper t.bits t.members c.args.first) (sym c.self.view_is) d)),
    )

pub returns-in-None-clause-deeper : goal.returns-in-None-clause-deeper
returns-in-None-clause-deeper c =
    let p = c.self.inside.levels in
    let fits = subst (λ (t : Routes). c.args.first < 2 ^ t.bits) (sym c.self.view_is) c.requires in
    let plain : is_group (first_at p c.args.first) ≡ false = ap is_group (sym c.first-entry.ensures.value) ∙ sym c.is_group.ensures
    ∙ c.if-is_group.false in (
      λ e. cc,
      λ d. absurd (plain_shallow p c.self.inside.members c.self.invariant c.args.first fits plain
          (subst (λ (t : Routes). HasDeeper t.bits t.members c.args.first) (sym c.self.view_is) d)),
    )

pub returns-in-Some-clause-hop : goal.returns-in-Some-clause-hop
returns-in-Some-clause-hop c =
    let p = c.self.inside.levels in
    let fits = subst (λ (t : Routes). c.args.first < 2 ^ t.bits) (sym c.self.view_is) c.requires in
    let plain : is_group (first_at p c.args.first) ≡ false = ap is_group (sym c.first-entry.ensures.value) ∙ sym c.is_group.ensures
    ∙ c.if-is_group.false in
    let value : hop_of (first_at p c.args.first) ≡ Some c.in-Some.hop = ap hop_of (sym c.first-entry.ensures.value)
    ∙ sym c.hop.ensures.value ∙ c.in-Some.is in
    subst (λ (t : Routes). (low : ℕ) → low < size_of t.bits → IsLongestMatch t.members (address_of t c.args.first low)
    (Some c.in-Some.hop)) c.self.view_is
    (λ low place. subst (IsLongestMatch c.self.inside.members (address_at p c.args.first low)) value
    (plain_matches p c.self.inside.members c.self.invariant c.args.first fits plain low place))

pub returns-in-None-clause-hop : goal.returns-in-None-clause-hop
returns-in-None-clause-hop c =
    let p = c.self.inside.levels in
    let fits = subst (λ (t : Routes). c.args.first < 2 ^ t.bits) (sym c.self.view_is) c.requires in
    let plain : is_group (first_at p c.args.first) ≡ false = ap is_group (sym c.first-entry.ensures.value) ∙ sym c.is_group.ensures
    ∙ c.if-is_group.false in
    let value : hop_of (first_at p c.args.first) ≡ None = ap hop_of (sym c.first-entry.ensures.value) ∙ sym c.hop.ensures.value
    ∙ c.in-None.is in
    subst (λ (t : Routes). (low : ℕ) → low < size_of t.bits → IsLongestMatch t.members (address_of t c.args.first low) None) c.self.view_is
    (λ low place. subst (IsLongestMatch c.self.inside.members (address_at p c.args.first low)) value
    (plain_matches p c.self.inside.members c.self.invariant c.args.first fits plain low place))
