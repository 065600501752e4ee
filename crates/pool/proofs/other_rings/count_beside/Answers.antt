use Rattle.std.proofs.Common.{◌≡◌, ap, subst, sym, ◌∙◌}
use Rattle.fabric_laws.specs.Changes.{loaded}
use Rattle.fabric.specs.Counts.{CountsQueued}
use Rattle.fabric.specs.Hands.{view}
use Rattle.fabric.specs.CacheHands.{view_of_cache_hand}
use Rattle.fabric.specs.Settles.{AreOwnBuffers}
use Rattle.pool.proofs.other_rings.count_beside.Goals as goal

pub keep_back-requires : goal.keep_back-requires
keep_back-requires g c =
    let tags = g.T.Tagged.numbers in
    let k = c.args.cache_hand in
    let is : view c.whole_hand-hand.result ≡ view_of_cache_hand k = ap (λ s. s.me.0) (sym c.whole_hand-hand.ensures) in
    let after : view c.count-hand.result.0 ≡ loaded (loaded (view_of_cache_hand k)) = c.count-hand.ensures.view ∙ ap (λ v. loaded (loaded v)) is in
    record {
      own = subst (λ v. AreOwnBuffers tags v (g.C.Store.items c.args.cache.now)) (sym after) c.requires.own;
    }

pub returns-clause-view : goal.returns-clause-view
returns-clause-view g c =
    ap (λ s. s.me.0) c.keep_back.ensures.seat
    ∙ (c.count-hand.ensures.view ∙ ap (λ v. loaded (loaded v)) (let is : view c.whole_hand-hand.result ≡ view_of_cache_hand c.args.cache_hand = ap (λ s. s.me.0) (sym c.whole_hand-hand.ensures) in is))

pub returns-clause-found : goal.returns-clause-found
returns-clause-found g c plan there =
    let is : view c.whole_hand-hand.result ≡ view_of_cache_hand c.args.cache_hand = ap (λ s. s.me.0) (sym c.whole_hand-hand.ensures) in
    subst (λ v. CountsQueued g.T.Tagged.numbers c.args.ring plan v c.count-hand.result.1) is (c.count-hand.ensures.found plan there)
