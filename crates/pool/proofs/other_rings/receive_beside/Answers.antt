use Rattle.std.proofs.Common.{◌≡◌, ap, rules, sym}
use Rattle.fabric.specs.Hands.{rings_of, view}
use Rattle.fabric.specs.CacheHands.{view_of_cache_hand}
use Rattle.fabric.proofs.Told.{ring_at}
use Rattle.ringapi.specs.Views.{by_burst}
use Rattle.pool_laws.proofs.Others.{finished_take, receives_beside, take_owns}
use Rattle.pool.proofs.other_rings.receive_beside.Goals as goal

pub take_answered-requires : goal.take_answered-requires
take_answered-requires g c =
    let tags = g.T.Tagged.numbers in
    let known = ring_at (rings_of c.args.f.now) c.args.ring c.requires.ring in
    let h = c.whole_hand-hand.result in
    let is : view h ≡ view_of_cache_hand c.args.cache_hand = ap (λ s. s.me.0) (sym c.whole_hand-hand.ensures) in (
      search rules,
      take_owns tags by_burst g.row.N c.args.ring known.0 (view h) c.args.cache_hand c.args.n (view h).pool (g.C.Store.items c.args.cache.now)
          (g.I.Items.items c.take_into.new.into) c.take_into.result is c.requires.own h.share.well
          (finished_take tags c.take_into.result c.take_into.ensures.taken.finished)
          (c.take_into.ensures.taken.exact known.0 known.1),
    )

pub returns-clause-exact : goal.returns-clause-exact
returns-clause-exact g c plan there =
    let tags = g.T.Tagged.numbers in
    let h = c.whole_hand-hand.result in
    let is : view h ≡ view_of_cache_hand c.args.cache_hand = ap (λ s. s.me.0) (sym c.whole_hand-hand.ensures) in
    receives_beside tags by_burst g.row.N c.args.ring plan (view h) c.args.cache_hand c.take_answered.result.0 c.args.n (g.I.Items.items c.take_into.new.into)
    c.take_into.result c.take_answered.result.1 is (c.take_into.ensures.taken.exact plan there) c.take_answered.ensures.same
