use Rattle.std.proofs.Common.{◌≡◌, Some, Ok, Err, refl, sym, ap, subst, rules, arith, length}
use Rattle.ringcore_laws.specs.FreeRings.{AreSingle}
use Rattle.fabric.specs.Hands.{view}
use Rattle.pool_laws.proofs.Kept.{same_own}
use Rattle.pool_laws.proofs.Wholes.{free_at, free_of, hand_from, hand_own, cache_hand_from, mine_of, view_at}
use Rattle.pool_laws.specs.Requests.{Flushes}
use Rattle.pool.proofs.lent.Local+T+N+S.flush.Goals as goal

pub empty-requires : goal.empty-requires
empty-requires g c =
    let tags = g.T.Tagged.numbers in
    let f = c.args.f.now in
    let l = c.args.self.now in
    let k = c.take_hand-cache_hand.result in
    let h = c.whole_hand-hand.result in
    let was : l.hand ≡ Some k = c.take_hand-cache_hand.ensures in (
      search rules,
      (
        search rules,
        (
          hand_from f h k c.whole_hand-hand.ensures (mine_of f l.hand k was c.requires.local),
          (
            free_of f l.hand k l.ring was c.requires.local l.free,
            (hand_own tags l.hand k h l.cache was c.whole_hand-hand.ensures l.own l.single, search rules),
          ),
        ),
      ),
    )

pub invariant_of-self : goal.invariant_of-self
invariant_of-self g c =
    let tags = g.T.Tagged.numbers in
    let f = c.args.f.now in
    let l = c.args.self.now in
    let k = c.take_hand-cache_hand.result in
    let was : l.hand ≡ Some k = c.take_hand-cache_hand.ensures in
    let back = c.keep_back in
    record {
      here = refl;
      free = free_at f back.result l.ring (cache_hand_from f c.in-Ok.hand back.result back.ensures.seat c.in-Ok.ensures.kept.0)
          (free_of f l.hand k l.ring was c.requires.local l.free);
      small = l.small;
      fits = l.fits;
      room = l.room;
      within = omega (arith, ap length c.in-Ok.ensures.kept.1);
      reach = refl;
      kept = back.ensures.kept;
      own = back.ensures.own;
      single = subst (AreSingle tags) (sym c.in-Ok.ensures.kept.1) refl;
    }

pub keep_back-requires-in-Err : goal.keep_back-requires-in-Err
keep_back-requires-in-Err g c =
    let tags = g.T.Tagged.numbers in
    let l = c.args.self.now in
    let k = c.take_hand-cache_hand.result in
    let h = c.whole_hand-hand.result in
    let was : l.hand ≡ Some k = c.take_hand-cache_hand.ensures in
    record {
      own = same_own tags (view h) (view c.in-Err.hand) l.cache c.empty.new.cache c.in-Err.ensures.party c.in-Err.ensures.same.1
          (hand_own tags l.hand k h l.cache was c.whole_hand-hand.ensures l.own l.single);
    }

pub invariant_of-self-in-Err : goal.invariant_of-self-in-Err
invariant_of-self-in-Err g c =
    let tags = g.T.Tagged.numbers in
    let f = c.args.f.now in
    let l = c.args.self.now in
    let k = c.take_hand-cache_hand.result in
    let was : l.hand ≡ Some k = c.take_hand-cache_hand.ensures in
    let back = c.keep_back-in-Err in
    record {
      here = refl;
      free = free_at f back.result l.ring (cache_hand_from f c.in-Err.hand back.result back.ensures.seat c.in-Err.ensures.same.0)
          (free_of f l.hand k l.ring was c.requires.local l.free);
      small = l.small;
      fits = l.fits;
      room = l.room;
      within = omega (arith, ap length c.in-Err.ensures.same.1, l.within);
      reach = refl;
      kept = back.ensures.kept;
      own = back.ensures.own;
      single = subst (AreSingle tags) (sym c.in-Err.ensures.same.1) l.single;
    }

pub returns-in-Ok-clause-exact : goal.returns-in-Ok-clause-exact
returns-in-Ok-clause-exact g c plan there =
    let tags = g.T.Tagged.numbers in
    let l = c.args.self.now in
    let k = c.take_hand-cache_hand.result in
    let was : l.hand ≡ Some k = c.take_hand-cache_hand.ensures in (
      c.in-Ok.hand,
      subst (λ v. Flushes tags g.row.N l.ring plan v l.cache (Ok c.in-Ok.hand) c.empty.new.cache)
          (view_at tags l.hand k c.whole_hand-hand.result was c.whole_hand-hand.ensures)
          (c.in-Ok.ensures.exact plan there),
      ap (λ s. s.me.0) c.keep_back.ensures.seat,
    )

pub returns-in-Err-clause-exact : goal.returns-in-Err-clause-exact
returns-in-Err-clause-exact g c plan there =
    let tags = g.T.Tagged.numbers in
    let l = c.args.self.now in
    let k = c.take_hand-cache_hand.result in
    let was : l.hand ≡ Some k = c.take_hand-cache_hand.ensures in (
      refl,
      c.in-Err.hand,
      subst (λ v. Flushes tags g.row.N l.ring plan v l.cache (Err c.in-Err.hand) c.empty.new.cache)
          (view_at tags l.hand k c.whole_hand-hand.result was c.whole_hand-hand.ensures)
          (c.in-Err.ensures.exact plan there),
      ap (λ s. s.me.0) c.keep_back-in-Err.ensures.seat,
    )
