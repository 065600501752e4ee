use Rattle.std.proofs.Common.{◌≡◌, ℕ, ◌-◌, ◌++◌, ◌∷◌, [], ap, arith, length, subst, sym, take}
use Rattle.std.specs.Prelude.{slice_get, slice_index_or, slice_set}
use Rattle.std.proofs.lemmas.List.{length-take-le}
use Rattle.ringcore_laws.specs.Sound.{occurrences, occurrences_in}
use Rattle.fabric.specs.Owned.{one_if, told}
use Rattle.fabric.proofs.Rows.{just_one}
use Rattle.pool.specs.Places.{ArePlaced}
use Rattle.pool.proofs.Placing.{low_of, placed_next}
use Rattle.pool.proofs.places.push_one_apart.Goals as goal

plain : (n : ℕ) → n - 0 ≡ n
plain n = omega arith

pub bounds-at-b : goal.bounds-at-b
bounds-at-b g c =
    let tags = g.T.Tagged.numbers in
    let item = c.args.item in
    let alone : tags item ≡ c.in-Some.b ∷ [] = just_one (tags item) c.in-Some.b (sym c.in-Some.ensures) in
    low_of tags (length c.args.at.now) item c.in-Some.b c.requires.below alone

pub bounds-at-b-2 : goal.bounds-at-b-2
bounds-at-b-2 g c =
    let tags = g.T.Tagged.numbers in
    let item = c.args.item in
    let alone : tags item ≡ c.in-Some.b ∷ [] = just_one (tags item) c.in-Some.b (sym c.in-Some.ensures) in
    low_of tags (length c.args.at.now) item c.in-Some.b c.requires.below alone

pub returns-clause-placed : goal.returns-clause-placed
returns-clause-placed g c _ =
    let tags = g.T.Tagged.numbers in
    let item = c.args.item in
    let b = c.in-Some.b in
    let at = c.args.at.now in
    let xs = take c.args.n c.args.words.now in
    let alone : tags item ≡ b ∷ [] = just_one (tags item) b (sym c.in-Some.ensures) in
    let none : occurrences_in tags b xs ≡ 0 =
    omega (
      arith,
      c.requires.placed b,
      c.lies_at.ensures,
      ap (λ m. occurrences b (told tags (slice_get (take m c.args.words.now) (slice_index_or at b 0)))) (plain c.args.n),
      ap one_if c.if-lies_at.false,
    ) in
    let long : length xs ≡ c.args.n = length-take-le c.args.n c.args.words.now (omega (arith, c.requires.fits)) in
    subst (λ m. ArePlaced tags (slice_set at b m) (xs ++ item ∷ [])) long
    (placed_next tags at xs item b c.requires.placed alone none (low_of tags (length at) item b c.requires.below alone))
