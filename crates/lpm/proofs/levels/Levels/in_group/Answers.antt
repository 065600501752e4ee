use Rattle.std.proofs.Common.{◌≡◌, ℕ, ◌<◌, ◌^◌, sym, subst, true, arith}
use Rattle.lpm.specs.TableEntry.{is_group}
use Rattle.lpm.specs.TwoLevels.{TwoLevels, first_at}
use Rattle.lpm.specs.Prefixes.{size_of}
use Rattle.lpm.proofs.LevelReads.{place_fits, read_is}
use Rattle.lpm.proofs.Allocating.{named_fits}
use Rattle.lpm.proofs.levels.Levels.in_group.Goals as goal

-- the group is that of some entry
abbrev IsNamed : ℕ → TwoLevels → Type 0
IsNamed group p = (first : ℕ) × (first < 2 ^ p.bits) × (is_group (first_at p first) ≡ true) × ((first_at p first).number ≡ group)

pub place-requires-clause-group : goal.place-requires-clause-group
place-requires-clause-group c =
    let named = subst (IsNamed c.args.group) (sym c.self.view_is) c.requires.used in
    omega (arith, named.3, named_fits c.self.invariant named.0 named.2)

pub index-requires : goal.index-requires
index-requires c =
    let named = subst (IsNamed c.args.group) (sym c.self.view_is) c.requires.used in
    let low = subst (λ (p : TwoLevels). c.args.low < size_of p.bits) (sym c.self.view_is) c.requires.place in
    let made = place_fits c.self.invariant c.args.group c.args.low (omega (arith, named.3, c.self.invariant.named named.0 named.2)) low in
    omega (arith, c.place.ensures)

pub returns : goal.returns
returns c =
    let named = subst (IsNamed c.args.group) (sym c.self.view_is) c.requires.used in
    let low = subst (λ (p : TwoLevels). c.args.low < size_of p.bits) (sym c.self.view_is) c.requires.place in
    let made = place_fits c.self.invariant c.args.group c.args.low (omega (arith, named.3, c.self.invariant.named named.0 named.2)) low in
    rw (← c.self.view_is, ← c.place.ensures)
    (read_is c.self.inside.groups.items c.place.result _ (omega (arith, c.place.ensures)) c.index.ensures)
