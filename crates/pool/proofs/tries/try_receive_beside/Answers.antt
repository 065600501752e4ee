use Rattle.std.proofs.Common.{◌≡◌, [], ap, length, rules, sym}
use Rattle.fabric.specs.Hands.{rings_of, view}
use Rattle.fabric.specs.CacheHands.{view_of_cache_hand}
use Rattle.fabric.proofs.Told.{ring_at}
use Rattle.pool_laws.proofs.Others.{hts_take, receives_beside, take_owns}
use Rattle.pool.specs.WordStacks.{words_in}
use Rattle.pool.proofs.tries.try_receive_beside.Goals as goal

pub take_answered-requires : goal.take_answered-requires
take_answered-requires g c =
    let tags = g.T.Tagged.numbers in
    let known = ring_at (rings_of c.args.f.now) c.args.ring c.requires.ring in
    let h = c.whole_hand-hand.result in
    let is : view h ≡ view_of_cache_hand c.args.cache_hand = ap (λ s. s.me.0) (sym c.whole_hand-hand.ensures) in (
      search rules,
      take_owns tags c.args.how g.row.N c.args.ring known.0 (view h) c.args.cache_hand (length c.args.into.now) (view h).pool (words_in c.args.cache.now)
          c.try_take_slice.ensures.0 c.try_take_slice.result is c.requires.own h.share.well
          (hts_take tags c.args.how g.row.N c.args.ring known.0 (view h) (length c.args.into.now) c.try_take_slice.ensures.0 c.try_take_slice.result (c.requires.hts known.0 known.1) (([], [], c.try_take_slice.ensures.2.exact known.0 known.1)))
          (([], [], c.try_take_slice.ensures.2.exact known.0 known.1)),
    )

pub returns-clause-exact : goal.returns-clause-exact
returns-clause-exact g c =
    let tags = g.T.Tagged.numbers in
    let h = c.whole_hand-hand.result in
    let is : view h ≡ view_of_cache_hand c.args.cache_hand = ap (λ s. s.me.0) (sym c.whole_hand-hand.ensures) in (
      c.try_take_slice.ensures.0,
      c.try_take_slice.ensures.1,
      λ plan there.
          receives_beside tags c.args.how g.row.N c.args.ring plan (view h) c.args.cache_hand c.take_answered.result.0 (length c.args.into.now) c.try_take_slice.ensures.0
          c.try_take_slice.result c.take_answered.result.1 is (([], [], c.try_take_slice.ensures.2.exact plan there)) c.take_answered.ensures.same,
    )
