use Rattle.std.proofs.Common.{◌≡◌, ◌+◌, ◌*◌, ◌<◌, refl, ap, sym, ◌∙◌, subst, true, false, arith}
use Rattle.lpm.specs.TableEntry.{is_group}
use Rattle.lpm.specs.TwoLevels.{TwoLevels, first_at, entry_for}
use Rattle.lpm.specs.Prefixes.{size_of, first_bits}
use Rattle.lpm.specs.contracts.levels.Levels.{the_view}
use Rattle.lpm.proofs.LevelReads.{place_fits, read_plain, read_grouped, number_made, addressed}
use Rattle.lpm.proofs.levels.Levels.entry_below.Goals as goal

pub index-requires : goal.index-requires
index-requires g c =
    let p : TwoLevels = the_view c.self.inside in
    let first = first_bits c.args.address g.row.BITS in
    let form : c.self.inside.bits ≡ g.row.BITS = ap (λ (q : TwoLevels). q.bits) c.self.view_is ∙ c.requires.bits in
    let entry : c.args.entry ≡ first_at p first = c.requires.entry ∙ ap (λ (q : TwoLevels). first_at q first) (sym c.self.view_is) in
    let low = subst (λ n. c.low_of.result < size_of n) (sym form) c.low_of.ensures.below in
    let number = c.args.entry.number in
    let grouped : is_group c.args.entry ≡ true = sym c.is_group.ensures ∙ c.if-is_group.true in
    let made = number_made c.self.invariant first _ entry grouped in
    let fits = place_fits c.self.invariant number c.low_of.result made low in
    let at : c.place.result ≡ number * size_of p.bits + c.low_of.result = c.place.ensures
    ∙ ap (λ n. n * size_of g.row.BITS + c.low_of.result) c.number.ensures.value
    ∙ ap (λ n. number * size_of n + c.low_of.result) (sym form) in
    omega arith

pub returns-then-is_group : goal.returns-then-is_group
returns-then-is_group g c =
    let p : TwoLevels = the_view c.self.inside in
    let first = first_bits c.args.address g.row.BITS in
    let form : c.self.inside.bits ≡ g.row.BITS = ap (λ (q : TwoLevels). q.bits) c.self.view_is ∙ c.requires.bits in
    let entry : c.args.entry ≡ first_at p first = c.requires.entry ∙ ap (λ (q : TwoLevels). first_at q first) (sym c.self.view_is) in
    let low = subst (λ n. c.low_of.result < size_of n) (sym form) c.low_of.ensures.below in
    let number = c.args.entry.number in
    let grouped : is_group c.args.entry ≡ true = sym c.is_group.ensures ∙ c.if-is_group.true in
    let made = number_made c.self.invariant first _ entry grouped in
    let fits = place_fits c.self.invariant number c.low_of.result made low in
    let at : c.place.result ≡ number * size_of p.bits + c.low_of.result = c.place.ensures
    ∙ ap (λ n. n * size_of g.row.BITS + c.low_of.result) c.number.ensures.value
    ∙ ap (λ n. number * size_of n + c.low_of.result) (sym form) in
    read_grouped p first c.low_of.result c.place.result _ _ entry grouped at (omega arith) c.index.ensures
    ∙ addressed p c.args.address g.row.BITS first c.low_of.result form refl c.low_of.ensures.value
    ∙ ap (λ (q : TwoLevels). entry_for q c.args.address) c.self.view_is

pub returns-else-is_group : goal.returns-else-is_group
returns-else-is_group g c =
    let first = first_bits c.args.address g.row.BITS in
    let plain : is_group c.args.entry ≡ false = sym c.is_group.ensures ∙ c.if-is_group.false in
    read_plain c.args.self.now first _ _ c.requires.entry plain
    ∙ addressed c.args.self.now c.args.address g.row.BITS first _ c.requires.bits refl refl
