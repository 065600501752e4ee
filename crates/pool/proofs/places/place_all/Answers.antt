use Rattle.std.proofs.Common.{◌≡◌, ◌+◌, ◌<◌, ◌++◌, ◌∷◌, ◌∙◌, [], ap, arith, length, length-set, refl, subst, sym, take}
use Rattle.std.specs.Prelude.{slice_set}
use Rattle.std.proofs.lemmas.Grind.{take_at_read}
use Rattle.std.proofs.lemmas.List.{length-take-le}
use Rattle.std.proofs.lemmas.Option.{slice_get_read}
use Rattle.fabric.proofs.Rows.{just_one}
use Rattle.pool.specs.Places.{ArePlaced}
use Rattle.pool.proofs.Placing.{low_in, new_in, placed_next}
use Rattle.pool.proofs.places.place_all.Goals as goal

pub bounds-at-b : goal.bounds-at-b
bounds-at-b g c =
    let tags = g.T.Tagged.numbers in
    let words = c.args.words.now in
    let x = c.index-words-i.result in
    let at = slice_get_read words (length words) c.loop-i.i x refl c.loop-i-test.true c.index-words-i.is in
    let alone : tags x ≡ c.in-Some.b ∷ [] = just_one (tags x) c.in-Some.b (sym c.in-Some.ensures) in
    omega (arith, low_in tags (length c.args.at.now) words c.loop-i.i x c.in-Some.b c.requires.below at alone, c.loop-i.invariant.long)

pub loop-i-preserved : goal.loop-i-preserved
loop-i-preserved g c =
    let tags = g.T.Tagged.numbers in
    let words = c.args.words.now in
    let i = c.loop-i.i in
    let b = c.in-Some.b in
    let x = c.index-words-i.result in
    let at = slice_get_read words (length words) i x refl c.loop-i-test.true c.index-words-i.is in
    let alone : tags x ≡ b ∷ [] = just_one (tags x) b (sym c.in-Some.ensures) in
    let long : length (take i words) ≡ i = length-take-le i words (omega (arith, c.loop-i-test.true)) in
    let next : take (i + 1) words ≡ take i words ++ x ∷ [] =
    (take_at_read words i x c.loop-i-test.true).1 ∙ ap (λ y. take i words ++ y ∷ []) (sym c.index-words-i.is) in
    let low : b < length c.loop-i.at = omega (arith, low_in tags (length c.args.at.now) words i x b c.requires.below at alone, c.loop-i.invariant.long) in
    record {
      long = length-set c.loop-i.at b i ∙ c.loop-i.invariant.long;
      placed = subst (ArePlaced tags (slice_set c.loop-i.at b i)) (sym next) (subst (λ m. ArePlaced tags (slice_set c.loop-i.at b m) (take i words ++ x ∷ [])) long
          (placed_next tags c.loop-i.at (take i words) x b c.loop-i.invariant.placed alone (new_in tags words i x b c.requires.once at alone) low));
    }
