use Rattle.std.proofs.Common.{◌≡◌, ◌-◌, ◌/◌, ◌*◌, ◌<◌, ◌≤◌, ◌++◌, true, false, Some, Ok, Err, List, inr, length, take, drop, refl, sym, ap, ◌∙◌, subst}
use Rattle.std.proofs.Common.{rules, arith}
use Rattle.std.proofs.lemmas.List.{length-append, length-drop, length-take}
use Rattle.std.proofs.Math.Seq.{drop-append_seam, take-append_seam}
use Rattle.fabric.proofs.Told.{ring_at}
use Rattle.fabric.specs.Hands.{rings_of}
use Rattle.fabric_laws.specs.declared.view.View.{View}
use Rattle.fabric.specs.Settles.{AreNotOwnBuffers, AreOwnBuffers}
use Rattle.pool_laws.specs.Requests.{Spills}
use Rattle.pool_laws.specs.Caches.{spilled}
use Rattle.pool_laws.specs.Hands.{view_in}
use Rattle.pool_laws.proofs.Counts.{spilled_none, spilled_some}
use Rattle.pool_laws.proofs.Kept.{own_kept}
use Rattle.pool_laws.proofs.Wholes.{free_at, free_of, keeps_of, mine_of, same_mine, view_later}
use Rattle.pool.proofs.lent.Local+T+N+S.put_on_ring.Goals as goal

pub returns-then-not-may-clause-exact : goal.returns-then-not-may-clause-exact
returns-then-not-may-clause-exact g c plan there =
    let tags = g.T.Tagged.numbers in
    let l = c.args.self.now in
    let none : c.admit-may.result ≡ false = c.if-not-may.true in
    let back = c.admit-may.ensures.back none in (
      subst (λ o. AreNotOwnBuffers tags (view_in o) (l.cache ++ c.args.list.now)) (sym c.in-Some.is) (c.admit-may.ensures.other none),
      back.1,
      back.0,
      view_later tags l.hand c.in-Some.cache_hand c.admit-may.new.cache_hand c.admit-may.new.cache_hand c.in-Some.is c.admit-may.ensures.same refl,
    )

pub shed-requires : goal.shed-requires
shed-requires g c =
    let tags = g.T.Tagged.numbers in
    let f = c.args.f.now in
    let l = c.args.self.now in
    let may : c.admit-may.result ≡ true = c.if-not-may.false in
    let moved = c.admit-may.ensures.moved may in
    let taken : Some c.admit-may.new.cache_hand ≡ Some c.take_hand-cache_hand.result = c.take_hand-cache_hand.ensures in
    let mine = same_mine f c.in-Some.cache_hand c.admit-may.new.cache_hand c.admit-may.ensures.same (mine_of f l.hand c.in-Some.cache_hand c.in-Some.is c.requires.local) in
    let long = length-append l.cache c.args.list.now in (
      search rules,
      (
        search rules,
        (
          mine_of f (Some c.admit-may.new.cache_hand) c.take_hand-cache_hand.result taken mine,
          (
            free_of f l.hand c.in-Some.cache_hand l.ring c.in-Some.is c.requires.local l.free,
            (
              keeps_of tags (Some c.admit-may.new.cache_hand) c.take_hand-cache_hand.result c.admit-may.new.self taken c.admit-may.ensures.kept,
              (
                c.admit-may.ensures.single,
                (
                  omega (arith, ap length moved.0, long, c.requires.many),
                  (
                    omega (arith, ap length moved.0, long, l.within, l.room, c.requires.at_most),
                    (omega (arith, ap length moved.0, long, c.len-before.ensures.value), moved.1),
                  ),
                ),
              ),
            ),
          ),
        ),
      ),
    )

pub invariant_of-self-in-Ok : goal.invariant_of-self-in-Ok
invariant_of-self-in-Ok g c =
    let tags = g.T.Tagged.numbers in
    let f = c.args.f.now in
    let l = c.args.self.now in
    let free = free_of f l.hand c.in-Some.cache_hand l.ring c.in-Some.is c.requires.local l.free in
    let known = ring_at (rings_of f) l.ring free.0 in
    let told = c.in-Ok.ensures.exact known.0 known.1 in
    let left = length-drop (length c.admit-may.new.self - l.size) c.admit-may.new.self in
    let moved = c.admit-may.ensures.moved c.if-not-may.false in
    let long = length-append l.cache c.args.list.now in
    record {
      here = refl;
      free = free_at f c.in-Ok.cache_hand l.ring c.in-Ok.ensures.cache_hand.0 free;
      small = l.small;
      fits = l.fits;
      room = l.room;
      within = omega (arith, ap length told.1, left, c.requires.many, ap length moved.0, long);
      reach = refl;
      kept = c.in-Ok.ensures.cache_hand.1;
      own = (own_kept tags c.in-Ok.cache_hand c.shed.new.cache c.in-Ok.ensures.cache_hand.1 c.in-Ok.ensures.single).0;
      single = c.in-Ok.ensures.single;
    }

pub invariant_of-self-in-Err : goal.invariant_of-self-in-Err
invariant_of-self-in-Err g c =
    let tags = g.T.Tagged.numbers in
    let f = c.args.f.now in
    let l = c.args.self.now in
    let free = free_of f l.hand c.in-Some.cache_hand l.ring c.in-Some.is c.requires.local l.free in
    let known = ring_at (rings_of f) l.ring free.0 in
    let told = c.in-Err.ensures.exact known.0 known.1 in
    let left = length-take c.len-before.result c.admit-may.new.self in
    record {
      here = refl;
      free = free_at f c.in-Err.cache_hand l.ring c.in-Err.ensures.same.0 free;
      small = l.small;
      fits = l.fits;
      room = l.room;
      within = omega (arith, ap length told.1, left, c.len-before.ensures.value, l.within);
      reach = refl;
      kept = c.in-Err.ensures.same.1;
      own = (own_kept tags c.in-Err.cache_hand c.shed.new.cache c.in-Err.ensures.same.1 c.in-Err.ensures.single).0;
      single = c.in-Err.ensures.single;
    }

pub returns-in-Ok-clause-exact : goal.returns-in-Ok-clause-exact
returns-in-Ok-clause-exact g c plan there =
    let tags = g.T.Tagged.numbers in
    let l = c.args.self.now in
    let may : c.admit-may.result ≡ true = c.if-not-may.false in
    let moved = c.admit-may.ensures.moved may in
    let taken : Some c.admit-may.new.cache_hand ≡ Some c.take_hand-cache_hand.result = c.take_hand-cache_hand.ensures in
    let all = l.cache ++ c.args.list.now in
    let told = c.in-Ok.ensures.exact plan there in
    let many : 3 * l.size / 2 < length all = omega (arith, c.requires.many, length-append l.cache c.args.list.now) in
    let spare : length c.admit-may.new.self - l.size ≡ spilled l.size all =
    ap (λ x. length x - l.size) moved.0 ∙ sym (spilled_some l.size (3 * l.size / 2) (length all) many) in (
      subst (λ o. AreOwnBuffers tags (view_in o) all) (sym c.in-Some.is) (c.admit-may.ensures.yours may),
      told.0,
      told.1 ∙ (λ i. drop (spare i) (moved.0 i)),
      inr (
        many,
        told.2,
        subst (λ (z : View g.row.T.Denot × List g.row.T.Denot). Spills tags g.row.N l.ring plan z.0 z.1 (Ok told.2))
            (λ i. (
              view_later tags l.hand c.in-Some.cache_hand c.admit-may.new.cache_hand c.take_hand-cache_hand.result c.in-Some.is c.admit-may.ensures.same taken i,
              take (spare i) (moved.0 i),
            ))
            told.3,
        ap (λ s. s.me.0) told.4,
      ),
    )

pub returns-in-Err-clause-exact : goal.returns-in-Err-clause-exact
returns-in-Err-clause-exact g c plan there =
    let tags = g.T.Tagged.numbers in
    let l = c.args.self.now in
    let may : c.admit-may.result ≡ true = c.if-not-may.false in
    let moved = c.admit-may.ensures.moved may in
    let taken : Some c.admit-may.new.cache_hand ≡ Some c.take_hand-cache_hand.result = c.take_hand-cache_hand.ensures in
    let all = l.cache ++ c.args.list.now in
    let told = c.in-Err.ensures.exact plan there in
    let many : 3 * l.size / 2 < length all = omega (arith, c.requires.many, length-append l.cache c.args.list.now) in
    let spare : length c.admit-may.new.self - l.size ≡ spilled l.size all =
    ap (λ x. length x - l.size) moved.0 ∙ sym (spilled_some l.size (3 * l.size / 2) (length all) many) in (
      subst (λ o. AreOwnBuffers tags (view_in o) all) (sym c.in-Some.is) (c.admit-may.ensures.yours may),
      told.0 ∙ ((λ i. drop (c.len-before.ensures.value i) (moved.0 i)) ∙ drop-append_seam l.cache c.args.list.now),
      told.1 ∙ ((λ i. take (c.len-before.ensures.value i) (moved.0 i)) ∙ take-append_seam l.cache c.args.list.now),
      many,
      told.2,
      subst (λ (z : View g.row.T.Denot × List g.row.T.Denot). Spills tags g.row.N l.ring plan z.0 z.1 (Err told.2))
          (λ i. (
            view_later tags l.hand c.in-Some.cache_hand c.admit-may.new.cache_hand c.take_hand-cache_hand.result c.in-Some.is c.admit-may.ensures.same taken i,
            take (spare i) (moved.0 i),
          ))
          told.3,
      ap (λ s. s.me.0) told.4,
    )
