use Rattle.std.proofs.Common.{◌≤◌, ap, arith, length, rules, subst, sym}
use Rattle.std.proofs.lemmas.List.{with_items_is}
use Rattle.ringcore_laws.specs.Sound.{occurrences_in}
use Rattle.fabric.specs.Hands.{view}
use Rattle.pool_laws.proofs.Kept.{later_own}
use Rattle.pool.specs.Places.{ArePlaced}
use Rattle.pool.specs.Stacks.{stacked}
use Rattle.pool.proofs.words.fetch.Goals as goal

pub place_all-requires-clause-once : goal.place_all-requires-clause-once
place_all-requires-clause-once g c b =
    let tags = g.T.Tagged.numbers in
    let h = c.in-Ok.hand in
    let own = later_own tags (view h) c.fetch_words.new.into (stacked c.fetch_words.new.cache) (c.in-Ok.ensures.own c.requires.own) in
    omega (arith, ap (λ l. occurrences_in tags b l) c.as_slice.ensures, own.0 b, (h.share.well b).0)

pub place_all-requires-clause-below : goal.place_all-requires-clause-below
place_all-requires-clause-below g c b le =
    let tags = g.T.Tagged.numbers in
    let h = c.in-Ok.hand in
    let own = later_own tags (view h) c.fetch_words.new.into (stacked c.fetch_words.new.cache) (c.in-Ok.ensures.own c.requires.own) in
    let past : (view h).pool ≤ b = omega (arith, le, ap length c.as_mut_slice.ensures.value, c.requires.buffers, c.requires.hand.2, c.in-Ok.ensures.kept.2) in
    omega (arith, ap (λ l. occurrences_in tags b l) c.as_slice.ensures, own.0 b, (h.share.well b).1 past)

pub invariant_of-cache : goal.invariant_of-cache
invariant_of-cache g c =
    let tags = g.T.Tagged.numbers in
    let s = c.args.cache.now in
    let later = stacked c.fetch_words.new.cache in
    let whole = with_items_is s.at c.place_all.new.at (search rules) in
    record {
      small = omega (arith, c.fetch_words.ensures.room, s.small);
      placed = subst (λ a. ArePlaced tags a later) (sym whole) (subst (ArePlaced tags c.place_all.new.at) c.as_slice.ensures c.place_all.ensures.placed);
    }
