use Rattle.std.proofs.Common.{◌-◌, Ok, Err, List, take, drop, sym, ap, ◌∙◌, subst}
use Rattle.ringcore_laws.specs.FreeRings.{AreSingle}
use Rattle.fabric_laws.specs.declared.view.View.{View}
use Rattle.fabric.specs.Hands.{view}
use Rattle.fabric.specs.CacheHands.{view_of_cache_hand}
use Rattle.pool_laws.specs.Requests.{Spills}
use Rattle.pool_laws.proofs.Requests.{first_own}
use Rattle.pool_laws.proofs.Kept.{own_kept, same_own}
use Rattle.ringapi.proofs.Singles.{single_take}
use Rattle.pool.proofs.bursts.shed.Goals as goal

pub keep_back-requires-in-Err : goal.keep_back-requires-in-Err
keep_back-requires-in-Err g c =
    let tags = g.T.Tagged.numbers in
    let v = view_of_cache_hand c.args.cache_hand in
    let cache = c.args.cache.now in
    let same = c.in-Err.ensures.party ∙ ap (λ s. s.me.0.party) (sym c.whole_hand-hand.ensures) in
    record {
      own = same_own tags v (view c.in-Err.hand) (take c.args.before cache) c.part.new.from same (c.part.ensures.left ∙ ap (take c.args.before) c.in-Err.ensures.back)
          (first_own tags v cache c.args.before (own_kept tags c.args.cache_hand cache c.requires.kept c.requires.single));
    }

pub returns-in-Ok-clause-exact : goal.returns-in-Ok-clause-exact
returns-in-Ok-clause-exact g c plan there =
    let cache = c.args.cache.now in (
      c.spill.ensures.left,
      c.in-Ok.ensures.done ∙ ap (λ n. drop (n - c.args.size) cache) c.len.ensures.value,
      c.in-Ok.hand,
      subst (λ (z : View g.row.T.Denot × List g.row.T.Denot). Spills g.T.Tagged.numbers g.row.N c.args.ring plan z.0 z.1 (Ok c.in-Ok.hand))
          (λ i. ((sym c.whole_hand-hand.ensures i).me.0, take (c.len.ensures.value i - c.args.size) cache)) (c.in-Ok.ensures.exact plan there),
      c.keep_back.ensures.seat,
    )

pub returns-in-Err-clause-single : goal.returns-in-Err-clause-single
returns-in-Err-clause-single g c =
    subst (AreSingle g.T.Tagged.numbers) (sym (c.part.ensures.left ∙ ap (take c.args.before) c.in-Err.ensures.back))
    (single_take g.T.Tagged.numbers c.args.before c.args.cache.now c.requires.single)

pub returns-in-Err-clause-exact : goal.returns-in-Err-clause-exact
returns-in-Err-clause-exact g c plan there =
    let cache = c.args.cache.now in (
      c.part.ensures.moved ∙ ap (drop c.args.before) c.in-Err.ensures.back,
      c.part.ensures.left ∙ ap (take c.args.before) c.in-Err.ensures.back,
      c.in-Err.hand,
      subst (λ (z : View g.row.T.Denot × List g.row.T.Denot). Spills g.T.Tagged.numbers g.row.N c.args.ring plan z.0 z.1 (Err c.in-Err.hand))
          (λ i. ((sym c.whole_hand-hand.ensures i).me.0, take (c.len.ensures.value i - c.args.size) cache)) (c.in-Err.ensures.exact plan there),
      c.keep_back-in-Err.ensures.seat,
    )
