use Rattle.std.proofs.Common.{◌-◌, ◌≤◌, arith, length, Ok, Err, List, take, drop, sym, refl, ap, ◌∙◌, subst}
use Rattle.std.proofs.lemmas.List.{length-take-le}
use Rattle.ringcore_laws.specs.FreeRings.{AreSingle}
use Rattle.ringcore_laws.specs.Sound.{occurrences_in}
use Rattle.fabric_laws.specs.declared.view.View.{View}
use Rattle.fabric.specs.Hands.{view}
use Rattle.fabric.specs.CacheHands.{view_of_cache_hand}
use Rattle.pool_laws.specs.Requests.{Spills}
use Rattle.pool.specs.Places.{ArePlaced}
use Rattle.pool.specs.Stacks.{stacked}
use Rattle.pool.specs.WordStacks.{words_in}
use Rattle.pool.proofs.Placing.{placed_take}
use Rattle.pool_laws.proofs.Requests.{first_own}
use Rattle.pool_laws.proofs.Kept.{same_own}
use Rattle.ringapi.proofs.Singles.{single_take}
use Rattle.pool.proofs.words.shed.Goals as goal

pub keep_back-requires-in-Err : goal.keep_back-requires-in-Err
keep_back-requires-in-Err g c =
    let tags = g.T.Tagged.numbers in
    let v = view_of_cache_hand c.args.cache_hand in
    let cache = (words_in c.args.cache.now) in
    let same = c.in-Err.ensures.party ∙ ap (λ s. s.me.0.party) (sym c.whole_hand-hand.ensures) in
    record {
      own = same_own tags v (view c.in-Err.hand) (take c.args.before cache) (stacked c.cut.new.self) same (c.cut.ensures.left ∙ ap (take c.args.before) c.in-Err.ensures.back)
          (first_own tags v cache c.args.before c.requires.own);
    }

pub returns-in-Ok-clause-exact : goal.returns-in-Ok-clause-exact
returns-in-Ok-clause-exact g c plan there =
    let s = c.args.cache.now in
    let short = sym (length-take-le s.stack.count s.stack.places.items s.stack.fits) in
    let cache = (words_in s) in (
      refl,
      c.in-Ok.ensures.done ∙ ap (λ n. drop (n - c.args.size) cache) short,
      c.in-Ok.hand,
      subst (λ (z : View g.row.T.Denot × List g.row.T.Denot). Spills g.T.Tagged.numbers g.row.N c.args.ring plan z.0 z.1 (Ok c.in-Ok.hand))
          (λ i. ((sym c.whole_hand-hand.ensures i).me.0, take (short i - c.args.size) cache)) (c.in-Ok.ensures.exact plan there),
      c.keep_back.ensures.seat,
    )

pub returns-in-Err-clause-single : goal.returns-in-Err-clause-single
returns-in-Err-clause-single g c =
    subst (AreSingle g.T.Tagged.numbers) (sym (c.cut.ensures.left ∙ ap (take c.args.before) c.in-Err.ensures.back))
    (single_take g.T.Tagged.numbers c.args.before (words_in c.args.cache.now) c.requires.own.1)

pub returns-in-Err-clause-exact : goal.returns-in-Err-clause-exact
returns-in-Err-clause-exact g c plan there =
    let s = c.args.cache.now in
    let short = sym (length-take-le s.stack.count s.stack.places.items s.stack.fits) in
    let cache = (words_in s) in (
      refl,
      c.cut.ensures.left ∙ ap (take c.args.before) c.in-Err.ensures.back,
      c.in-Err.hand,
      subst (λ (z : View g.row.T.Denot × List g.row.T.Denot). Spills g.T.Tagged.numbers g.row.N c.args.ring plan z.0 z.1 (Err c.in-Err.hand))
          (λ i. ((sym c.whole_hand-hand.ensures i).me.0, take (short i - c.args.size) cache)) (c.in-Err.ensures.exact plan there),
      c.keep_back-in-Err.ensures.seat,
    )

pub place_all-requires-clause-once : goal.place_all-requires-clause-once
place_all-requires-clause-once g c b =
    let h = c.in-Ok.hand in
    omega (arith, ap (λ l. occurrences_in g.T.Tagged.numbers b l) c.as_slice.ensures, c.in-Ok.ensures.own.0 b, (h.share.well b).0)

pub place_all-requires-clause-below : goal.place_all-requires-clause-below
place_all-requires-clause-below g c b le =
    let h = c.in-Ok.hand in
    let past : (view h).pool ≤ b = omega (arith, le, ap length c.as_mut_slice.ensures.value, c.requires.buffers, c.requires.cache_hand.2, c.in-Ok.ensures.kept.2) in
    omega (arith, ap (λ l. occurrences_in g.T.Tagged.numbers b l) c.as_slice.ensures, c.in-Ok.ensures.own.0 b, (h.share.well b).1 past)

pub invariant_of-cache-in-Err : goal.invariant_of-cache-in-Err
invariant_of-cache-in-Err g c =
    let tags = g.T.Tagged.numbers in
    let s = c.args.cache.now in
    record {
      small = omega (arith, c.cut.ensures.room, c.in-Err.ensures.room, s.small);
      placed = subst (ArePlaced tags s.at.items) (sym (c.cut.ensures.left ∙ ap (take c.args.before) c.in-Err.ensures.back))
          (placed_take tags s.at.items c.args.before (words_in s) s.placed);
    }
