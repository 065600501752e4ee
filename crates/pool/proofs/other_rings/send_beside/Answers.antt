use Rattle.std.proofs.Common.{◌≡◌, Some, ap, inl, refl, rules, subst, sym, ◌∙◌}
use Rattle.fabric.specs.Hands.{rings_of, view}
use Rattle.fabric.specs.CacheHands.{view_of_cache_hand}
use Rattle.fabric.proofs.Told.{ring_at}
use Rattle.ringapi.specs.Views.{by_burst}
use Rattle.pool_laws.specs.Beside.{Sends}
use Rattle.pool_laws.proofs.Others.{finished_put, left_unsent, put_owns, sends_beside, yours_later}
use Rattle.pool.proofs.Asides.{both_beside, not_yours, yours_beside}
use Rattle.pool.proofs.other_rings.send_beside.Goals as goal

pub put_own-requires : goal.put_own-requires
put_own-requires g c =
    let is : view c.whole_hand-hand.result ≡ view_of_cache_hand c.args.cache_hand =
    ap (λ s. s.me.0) (sym c.whole_hand-hand.ensures) ∙ ap (λ s. s.me.0) c.may_put.ensures.same.0 in (
      search rules,
      (
        search rules,
        (
          search rules,
          (
            c.requires.ring,
            λ plan there.
                yours_later g.T.Tagged.numbers plan (view_of_cache_hand c.args.cache_hand) (view c.whole_hand-hand.result) (g.C.Store.items c.args.cache.now) (g.I.Items.items c.args.list.now) is
                (yours_beside c.args.cache_hand plan g.C.Store.aside (g.C.Store.items c.args.cache.now) (g.I.Items.items c.args.list.now) c.requires.kept c.requires.own (c.has_any.ensures.none c.if-has_any.false)
                (c.may_put.ensures.yours plan there c.if-not-may_put.false)),
          ),
        ),
      ),
    )

pub put_answered-requires : goal.put_answered-requires
put_answered-requires g c =
    let tags = g.T.Tagged.numbers in
    let known = ring_at (rings_of c.args.f.now) c.args.ring c.requires.ring in
    let h = c.whole_hand-hand.result in
    let is : view h ≡ view_of_cache_hand c.args.cache_hand =
    ap (λ s. s.me.0) (sym c.whole_hand-hand.ensures) ∙ ap (λ s. s.me.0) c.may_put.ensures.same.0 in (
      search rules,
      put_owns tags by_burst g.row.N c.args.ring known.0 (view h) c.args.cache_hand (g.C.Store.items c.args.cache.now) (g.I.Items.items c.args.list.now) _ c.put_own.result
          is c.requires.own (yours_beside c.args.cache_hand known.0 g.C.Store.aside (g.C.Store.items c.args.cache.now) (g.I.Items.items c.args.list.now) c.requires.kept c.requires.own (c.has_any.ensures.none c.if-has_any.false)
          (c.may_put.ensures.yours known.0 known.1 c.if-not-may_put.false))
          (finished_put tags c.put_own.result c.put_own.ensures.put.finished)
          (c.put_own.ensures.put.exact known.0 known.1),
    )

pub returns-clause-exact : goal.returns-clause-exact
returns-clause-exact g c plan there =
    let tags = g.T.Tagged.numbers in
    let h = c.whole_hand-hand.result in
    let result = c.put_answered.result.1 in
    let is : view h ≡ view_of_cache_hand c.args.cache_hand =
    ap (λ s. s.me.0) (sym c.whole_hand-hand.ensures) ∙ ap (λ s. s.me.0) c.may_put.ensures.same.0 in
    subst (Sends tags by_burst g.row.N c.args.ring plan (Some c.args.cache_hand) (Some c.put_answered.result.0) (g.C.Store.items c.args.cache.now) (g.I.Items.items c.args.list.now) result)
    (left_unsent c.put_own.result c.put_answered.result.0 result (g.I.Items.items c.args.list.now) c.put_answered.ensures.same)
    (sends_beside tags by_burst g.row.N c.args.ring plan (view h) c.args.cache_hand c.put_answered.result.0 (g.C.Store.items c.args.cache.now) (g.I.Items.items c.args.list.now) _
    c.put_own.result result is (yours_beside c.args.cache_hand plan g.C.Store.aside (g.C.Store.items c.args.cache.now) (g.I.Items.items c.args.list.now) c.requires.kept c.requires.own (c.has_any.ensures.none c.if-has_any.false)
    (c.may_put.ensures.yours plan there c.if-not-may_put.false))
    (c.put_own.ensures.put.exact plan there) c.put_answered.ensures.same)

pub returns-then-not-may_put-clause-exact : goal.returns-then-not-may_put-clause-exact
returns-then-not-may_put-clause-exact g c plan there = (
  not_yours c.args.cache_hand plan g.C.Store.aside (g.C.Store.items c.args.cache.now) (g.I.Items.items c.args.list.now) c.requires.kept (c.may_put.ensures.other plan there c.if-not-may_put.true),
  refl,
  ap (λ s. s.me.0) c.may_put.ensures.same.0,
)

pub returns-then-has_any-clause-exact : goal.returns-then-has_any-clause-exact
returns-then-has_any-clause-exact g c plan there =
    let both = c.has_any.ensures.found c.if-has_any.true in (
      inl (both.0, both_beside c.args.cache_hand (g.C.Store.items c.args.cache.now) (g.I.Items.items c.args.list.now) both.0 both.1 both.2),
      refl,
      ap (λ s. s.me.0) c.may_put.ensures.same.0,
    )
