use Rattle.std.proofs.Common.{◌≡◌, ◌<◌, Some, Ok, Err, inr, refl, sym, ap, subst, rules, arith, length}
use Rattle.ringcore_laws.specs.FreeRings.{AreSingle}
use Rattle.fabric.specs.Hands.{view}
use Rattle.pool_laws.proofs.Kept.{later_own, same_own}
use Rattle.pool_laws.proofs.Wholes.{free_at, free_of, hand_from, hand_own, cache_hand_from, mine_of, view_at}
use Rattle.pool_laws.specs.Requests.{Fetches}
use Rattle.pool.proofs.lent.Local+T+N+S.get_from_ring.Goals as goal

pub fetch-requires : goal.fetch-requires
fetch-requires g c =
    let f = c.args.f.now in
    let l = c.args.self.now in
    let k = c.take_hand-cache_hand.result in
    let h = c.whole_hand-hand.result in
    let was : l.hand ≡ Some k = c.take_hand-cache_hand.ensures in (
      search rules,
      (
        search rules,
        (
          hand_from f h k c.whole_hand-hand.ensures (mine_of f l.hand k was c.requires.local),
          (free_of f l.hand k l.ring was c.requires.local l.free, (c.requires.short, (search rules, c.requires.empty))),
        ),
      ),
    )

pub keep_back-requires : goal.keep_back-requires
keep_back-requires g c =
    let tags = g.T.Tagged.numbers in
    let l = c.args.self.now in
    let k = c.take_hand-cache_hand.result in
    let h = c.whole_hand-hand.result in
    let was : l.hand ≡ Some k = c.take_hand-cache_hand.ensures in
    record {
      own = later_own tags (view c.in-Ok.hand) c.fetch.new.into c.fetch.new.cache
          (c.in-Ok.ensures.own (hand_own tags l.hand k h l.cache was c.whole_hand-hand.ensures l.own l.single));
    }

pub keep_back-requires-in-Err : goal.keep_back-requires-in-Err
keep_back-requires-in-Err g c =
    let tags = g.T.Tagged.numbers in
    let l = c.args.self.now in
    let k = c.take_hand-cache_hand.result in
    let h = c.whole_hand-hand.result in
    let was : l.hand ≡ Some k = c.take_hand-cache_hand.ensures in
    record {
      own = same_own tags (view h) (view c.in-Err.hand) l.cache c.fetch.new.cache c.in-Err.ensures.party c.in-Err.ensures.same.1
          (hand_own tags l.hand k h l.cache was c.whole_hand-hand.ensures l.own l.single);
    }

pub invariant_of-self : goal.invariant_of-self
invariant_of-self g c =
    let tags = g.T.Tagged.numbers in
    let f = c.args.f.now in
    let l = c.args.self.now in
    let k = c.take_hand-cache_hand.result in
    let was : l.hand ≡ Some k = c.take_hand-cache_hand.ensures in
    let back = c.keep_back in
    record {
      here = refl;
      free = free_at f back.result l.ring (cache_hand_from f c.in-Ok.hand back.result back.ensures.seat c.in-Ok.ensures.kept)
          (free_of f l.hand k l.ring was c.requires.local l.free);
      small = l.small;
      fits = l.fits;
      room = l.room;
      within = omega (arith, c.in-Ok.ensures.within);
      reach = refl;
      kept = back.ensures.kept;
      own = back.ensures.own;
      single = (later_own tags (view c.in-Ok.hand) c.fetch.new.into c.fetch.new.cache
          (c.in-Ok.ensures.own (hand_own tags l.hand k c.whole_hand-hand.result l.cache was c.whole_hand-hand.ensures l.own l.single))).1;
    }

pub invariant_of-self-in-Err : goal.invariant_of-self-in-Err
invariant_of-self-in-Err g c =
    let tags = g.T.Tagged.numbers in
    let f = c.args.f.now in
    let l = c.args.self.now in
    let k = c.take_hand-cache_hand.result in
    let was : l.hand ≡ Some k = c.take_hand-cache_hand.ensures in
    let back = c.keep_back-in-Err in
    record {
      here = refl;
      free = free_at f back.result l.ring (cache_hand_from f c.in-Err.hand back.result back.ensures.seat c.in-Err.ensures.same.0)
          (free_of f l.hand k l.ring was c.requires.local l.free);
      small = l.small;
      fits = l.fits;
      room = l.room;
      within = omega (arith, ap length c.in-Err.ensures.same.1, l.within);
      reach = refl;
      kept = back.ensures.kept;
      own = back.ensures.own;
      single = subst (AreSingle tags) (sym c.in-Err.ensures.same.1) l.single;
    }

pub returns-in-Ok-clause-exact : goal.returns-in-Ok-clause-exact
returns-in-Ok-clause-exact g c plan there =
    let tags = g.T.Tagged.numbers in
    let l = c.args.self.now in
    let k = c.take_hand-cache_hand.result in
    let was : l.hand ≡ Some k = c.take_hand-cache_hand.ensures in
    let short : length l.cache < c.args.n = c.requires.short in
    inr (
      short,
      Ok c.in-Ok.hand,
      subst (λ v. Fetches tags g.row.N l.ring plan l.size v c.args.n l.cache (Ok c.in-Ok.hand) c.fetch.new.into c.fetch.new.cache)
          (view_at tags l.hand k c.whole_hand-hand.result was c.whole_hand-hand.ensures) (c.in-Ok.ensures.exact plan there),
      ap (λ s. s.me.0) c.keep_back.ensures.seat,
    )

pub returns-in-Ok-clause-own : goal.returns-in-Ok-clause-own
returns-in-Ok-clause-own g c =
    let tags = g.T.Tagged.numbers in
    let l = c.args.self.now in
    let k = c.take_hand-cache_hand.result in
    let was : l.hand ≡ Some k = c.take_hand-cache_hand.ensures in
    same_own tags (view c.in-Ok.hand) c.keep_back.result.seat.me.0 _ _ (ap (λ s. s.me.0.party) c.keep_back.ensures.seat) refl
    (c.in-Ok.ensures.own (hand_own tags l.hand k c.whole_hand-hand.result l.cache was c.whole_hand-hand.ensures l.own l.single))

pub returns-in-Err-clause-exact : goal.returns-in-Err-clause-exact
returns-in-Err-clause-exact g c plan there =
    let tags = g.T.Tagged.numbers in
    let l = c.args.self.now in
    let k = c.take_hand-cache_hand.result in
    let was : l.hand ≡ Some k = c.take_hand-cache_hand.ensures in
    let short : length l.cache < c.args.n = c.requires.short in
    inr (
      short,
      Err (c.in-Err.hand, c.in-Err.fault),
      subst (λ v. Fetches tags g.row.N l.ring plan l.size v c.args.n l.cache (Err (c.in-Err.hand, c.in-Err.fault)) c.fetch.new.into c.fetch.new.cache)
          (view_at tags l.hand k c.whole_hand-hand.result was c.whole_hand-hand.ensures) (c.in-Err.ensures.exact plan there),
      (refl, ap (λ s. s.me.0) c.keep_back-in-Err.ensures.seat),
    )
