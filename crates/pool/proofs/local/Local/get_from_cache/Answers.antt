use Rattle.std.proofs.Common.{◌≡◌, ◌-◌, ◌++◌, refl, sym, ap, ◌∙◌, subst, rules, arith}
use Rattle.std.specs.Prelude.{length, take}
use Rattle.ringcore_laws.specs.FreeRings.{AreSingle}
use Rattle.fabric_laws.specs.declared.view.View.{View}
use Rattle.fabric.specs.CacheHands.{view_of_cache_hand}
use Rattle.fabric.specs.Settles.{AreOwnBuffers}
use Rattle.ringapi.specs.Holdings.{IsFreeRing}
use Rattle.pool_laws.specs.Hands.{view_in}
use Rattle.pool_laws.proofs.Requests.{first_own}
use Rattle.pool_laws.proofs.Kept.{hit_own, same_own, same_view}
use Rattle.ringapi.proofs.Singles.{single_take}
use Rattle.pool.proofs.local.Local.get_from_cache.Goals as goal

pub invariant_of-self-in-Some : goal.invariant_of-self-in-Some
invariant_of-self-in-Some g c =
    let tags = g.T.Tagged.numbers in
    let l = c.args.self.now in
    let cache = g.C.Store.items l.cache in
    let k = length cache - c.args.n in
    let hand = c.in-Some.cache_hand in
    let later = c.give.new.cache_hand in
    let free : IsFreeRing (view_of_cache_hand hand).plans l.ring = subst (λ o. IsFreeRing (view_in o).plans l.ring) c.in-Some.is l.free in
    let same = same_view tags hand later c.give.ensures.same in
    let own : AreOwnBuffers tags (view_of_cache_hand hand) cache = subst (λ o. AreOwnBuffers tags (view_in o) cache) c.in-Some.is (l.own, l.single) in
    let pool : (view_of_cache_hand later).pool ≡ (view_in l.hand).pool = ap (λ v. v.pool) same ∙ ap (λ o. (view_in o).pool) (sym c.in-Some.is) in
    record {
      here = refl;
      free = subst (λ (v : View g.row.T.Denot). IsFreeRing v.plans l.ring) (sym same) free;
      small = l.small;
      fits = l.fits;
      room = omega (arith, c.give.ensures.room, l.room);
      within = search rules;
      reach = c.give.ensures.reach (view_of_cache_hand later).pool ∙ (ap (g.C.Store.reach l.cache) pool ∙ l.reach);
      kept = c.give.ensures.kept;
      own = (same_own tags (view_of_cache_hand hand) (view_of_cache_hand later) (take k cache) (g.C.Store.items c.give.new.self) (ap (λ v. v.party) same) c.give.ensures.left
          (first_own tags (view_of_cache_hand hand) cache k own)).0;
      single = subst (AreSingle tags) (sym c.give.ensures.left) (single_take tags k cache l.single);
    }

pub returns-clause-own : goal.returns-clause-own
returns-clause-own g c =
    let tags = g.T.Tagged.numbers in
    let l = c.args.self.now in
    let cache = g.C.Store.items l.cache in
    let own : AreOwnBuffers tags (view_of_cache_hand c.in-Some.cache_hand) cache = subst (λ o. AreOwnBuffers tags (view_in o) cache) c.in-Some.is (l.own, l.single) in
    subst (λ v. AreOwnBuffers tags v ((g.I.Items.items c.give.new.into) ++ (g.C.Store.items c.give.new.self))) (sym (same_view tags c.in-Some.cache_hand c.give.new.cache_hand c.give.ensures.same))
    (hit_own tags (view_of_cache_hand c.in-Some.cache_hand) (length cache - c.args.n) cache (g.I.Items.items c.give.new.into) (g.C.Store.items c.give.new.self) c.give.ensures.moved
    c.give.ensures.left own)
