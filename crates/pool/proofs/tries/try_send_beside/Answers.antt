use Rattle.std.proofs.Common.{◌≡◌, Some, [], ap, false, inl, refl, rules, subst, sym, ◌∙◌}
use Rattle.fabric.specs.Hands.{rings_of, view}
use Rattle.fabric.specs.CacheHands.{view_of_cache_hand}
use Rattle.fabric.proofs.Told.{ring_at}
use Rattle.pool_laws.specs.Beside.{Sends}
use Rattle.pool_laws.proofs.Others.{hts_put, left_unsent, put_owns, sends_beside, yours_later}
use Rattle.pool.specs.WordStacks.{words_in}
use Rattle.pool.proofs.Asides.{both_beside, not_yours, yours_beside}
use Rattle.pool.proofs.tries.try_send_beside.Goals as goal

pub try_put_own-requires : goal.try_put_own-requires
try_put_own-requires g c =
    let is : view c.whole_hand-hand.result ≡ view_of_cache_hand c.args.cache_hand =
    ap (λ s. s.me.0) (sym c.whole_hand-hand.ensures) ∙ ap (λ s. s.me.0) c.may_put.ensures.same.0 in (
      search rules,
      (
        search rules,
        (
          search rules,
          (
            c.requires.ring,
            λ plan there.
                yours_later g.T.Tagged.numbers plan (view_of_cache_hand c.args.cache_hand) (view c.whole_hand-hand.result) (words_in c.args.cache.now) c.args.items.now is
                (yours_beside c.args.cache_hand plan false (words_in c.args.cache.now) c.args.items.now c.requires.kept c.requires.own (c.has_any.ensures.none c.if-has_any.false)
                (c.may_put.ensures.yours plan there c.if-not-may_put.false)),
          ),
        ),
      ),
    )

pub put_answered-requires : goal.put_answered-requires
put_answered-requires g c =
    let tags = g.T.Tagged.numbers in
    let known = ring_at (rings_of c.args.f.now) c.args.ring c.requires.ring in
    let h = c.whole_hand-hand.result in
    let is : view h ≡ view_of_cache_hand c.args.cache_hand =
    ap (λ s. s.me.0) (sym c.whole_hand-hand.ensures) ∙ ap (λ s. s.me.0) c.may_put.ensures.same.0 in (
      search rules,
      put_owns tags c.args.how g.row.N c.args.ring known.0 (view h) c.args.cache_hand (words_in c.args.cache.now) c.args.items.now _ c.try_put_own.result
          is c.requires.own (yours_beside c.args.cache_hand known.0 false (words_in c.args.cache.now) c.args.items.now c.requires.kept c.requires.own (c.has_any.ensures.none c.if-has_any.false)
          (c.may_put.ensures.yours known.0 known.1 c.if-not-may_put.false))
          (hts_put tags c.args.how g.row.N c.args.ring known.0 (view h) c.args.items.now _ c.try_put_own.result (c.requires.hts known.0 known.1) (([], [], c.try_put_own.ensures.exact known.0 known.1)))
          (([], [], c.try_put_own.ensures.exact known.0 known.1)),
    )

pub returns-clause-exact : goal.returns-clause-exact
returns-clause-exact g c plan there =
    let tags = g.T.Tagged.numbers in
    let h = c.whole_hand-hand.result in
    let result = c.put_answered.result.1 in
    let is : view h ≡ view_of_cache_hand c.args.cache_hand =
    ap (λ s. s.me.0) (sym c.whole_hand-hand.ensures) ∙ ap (λ s. s.me.0) c.may_put.ensures.same.0 in
    subst (Sends tags c.args.how g.row.N c.args.ring plan (Some c.args.cache_hand) (Some c.put_answered.result.0) (words_in c.args.cache.now) c.args.items.now result)
    (left_unsent c.try_put_own.result c.put_answered.result.0 result c.args.items.now c.put_answered.ensures.same)
    (sends_beside tags c.args.how g.row.N c.args.ring plan (view h) c.args.cache_hand c.put_answered.result.0 (words_in c.args.cache.now) c.args.items.now _
    c.try_put_own.result result is (yours_beside c.args.cache_hand plan false (words_in c.args.cache.now) c.args.items.now c.requires.kept c.requires.own (c.has_any.ensures.none c.if-has_any.false)
    (c.may_put.ensures.yours plan there c.if-not-may_put.false))
    (([], [], c.try_put_own.ensures.exact plan there)) c.put_answered.ensures.same)

pub returns-then-not-may_put-clause-exact : goal.returns-then-not-may_put-clause-exact
returns-then-not-may_put-clause-exact g c plan there = (
  not_yours c.args.cache_hand plan false (words_in c.args.cache.now) c.args.items.now c.requires.kept (c.may_put.ensures.other plan there c.if-not-may_put.true),
  refl,
  ap (λ s. s.me.0) c.may_put.ensures.same.0,
)

pub returns-then-has_any-clause-exact : goal.returns-then-has_any-clause-exact
returns-then-has_any-clause-exact g c plan there =
    let both = c.has_any.ensures.found c.if-has_any.true in (
      inl (both.0, both_beside c.args.cache_hand (words_in c.args.cache.now) c.args.items.now both.0 both.1 both.2),
      refl,
      ap (λ s. s.me.0) c.may_put.ensures.same.0,
    )
