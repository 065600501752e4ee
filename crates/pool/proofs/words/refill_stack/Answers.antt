use Rattle.std.proofs.Common.{◌+◌, ◌-◌, ◌≤◌, ◌++◌, IfOk, append-nil, length, take, ap, sym, subst, ◌∙◌, rules, arith}
use Rattle.std.proofs.lemmas.List.{length-take-le, with_items_is}
use Rattle.std.proofs.lemmas.Result.{IfErr-weaker}
use borrow.Rule.Slice.PartMut.{put_mid}
use Rattle.ringcore_laws.specs.FreeRings.{AreSingle}
use Rattle.fabric.specs.Hands.{view}
use Rattle.ringapi.specs.Holdings.{HasMore}
use Rattle.pool_laws.specs.Requests.{Refills}
use Rattle.pool.specs.Stacks.{stacked}
use Rattle.pool.proofs.Stacks.{added_is, front_kept, part_long, pushed_part}
use Rattle.pool.proofs.words.refill_stack.Goals as goal

pub returns-clause-pushed : goal.returns-clause-pushed
returns-clause-pushed g c =
    let s = c.args.cache.now in
    let n = c.args.missing + c.args.size in
    let at = c.as_mut_slice.result.now in
    let new = c.refill_slice-answer.new.into in
    let t = c.refill_slice-answer.result.1 in
    let ws = put_mid s.count (s.count + n - s.count) at new in
    let whole = with_items_is s.places ws (search rules) in
    let long = c.refill_slice-answer.ensures.long ∙ part_long s.places.items at new s.count n c.as_mut_slice.ensures.value s.fits c.requires.room in
    let is = ap (take (s.count + t)) whole ∙ pushed_part s.places.items at new s.count n c.as_mut_slice.ensures.value s.fits t long
    (omega (arith, long, c.refill_slice-answer.ensures.count)) in
    front_kept (stacked s) (take t new) _ is

pub returns-clause-back : goal.returns-clause-back
returns-clause-back g c =
    let s = c.args.cache.now in
    let n = c.args.missing + c.args.size in
    let at = c.as_mut_slice.result.now in
    let new = c.refill_slice-answer.new.into in
    let t = c.refill_slice-answer.result.1 in
    let ws = put_mid s.count (s.count + n - s.count) at new in
    let whole = with_items_is s.places ws (search rules) in
    let long = c.refill_slice-answer.ensures.long ∙ part_long s.places.items at new s.count n c.as_mut_slice.ensures.value s.fits c.requires.room in
    let is = ap (take (s.count + t)) whole ∙ pushed_part s.places.items at new s.count n c.as_mut_slice.ensures.value s.fits t long
    (omega (arith, long, c.refill_slice-answer.ensures.count)) in
    IfErr-weaker c.refill_slice-answer.result.0 _ _
    (λ e back. (back.0, is ∙ (ap (λ k. stacked s ++ take k new) back.1 ∙ append-nil (stacked s)))) c.refill_slice-answer.ensures.back

pub returns-clause-exact : goal.returns-clause-exact
returns-clause-exact g c plan there =
    let s = c.args.cache.now in
    let n = c.args.missing + c.args.size in
    let at = c.as_mut_slice.result.now in
    let new = c.refill_slice-answer.new.into in
    let t = c.refill_slice-answer.result.1 in
    let ws = put_mid s.count (s.count + n - s.count) at new in
    let whole = with_items_is s.places ws (search rules) in
    let long = c.refill_slice-answer.ensures.long ∙ part_long s.places.items at new s.count n c.as_mut_slice.ensures.value s.fits c.requires.room in
    let is = ap (take (s.count + t)) whole ∙ pushed_part s.places.items at new s.count n c.as_mut_slice.ensures.value s.fits t long
    (omega (arith, long, c.refill_slice-answer.ensures.count)) in
    let more = added_is (stacked s) (take t new) _ is in
    subst (λ l. Refills g.T.Tagged.numbers g.row.N c.args.ring plan c.args.size (view c.args.hand) c.args.missing c.refill_slice-answer.result.0 l)
    (sym more) (c.refill_slice-answer.ensures.exact plan there)

pub returns-clause-enough : goal.returns-clause-enough
returns-clause-enough g c =
    let s = c.args.cache.now in
    let n = c.args.missing + c.args.size in
    let at = c.as_mut_slice.result.now in
    let new = c.refill_slice-answer.new.into in
    let t = c.refill_slice-answer.result.1 in
    let ws = put_mid s.count (s.count + n - s.count) at new in
    let whole = with_items_is s.places ws (search rules) in
    let long = c.refill_slice-answer.ensures.long ∙ part_long s.places.items at new s.count n c.as_mut_slice.ensures.value s.fits c.requires.room in
    let is = ap (take (s.count + t)) whole ∙ pushed_part s.places.items at new s.count n c.as_mut_slice.ensures.value s.fits t long
    (omega (arith, long, c.refill_slice-answer.ensures.count)) in
    let more = added_is (stacked s) (take t new) _ is in
    let count = ap length more ∙ length-take-le t new c.refill_slice-answer.ensures.count in
    subst (λ k. IfOk c.refill_slice-answer.result.0 (λ _. c.args.missing ≤ k)) (sym count) c.refill_slice-answer.ensures.enough

pub returns-clause-length : goal.returns-clause-length
returns-clause-length g c =
    let s = c.args.cache.now in
    let n = c.args.missing + c.args.size in
    let at = c.as_mut_slice.result.now in
    let new = c.refill_slice-answer.new.into in
    let t = c.refill_slice-answer.result.1 in
    let ws = put_mid s.count (s.count + n - s.count) at new in
    let whole = with_items_is s.places ws (search rules) in
    let long = c.refill_slice-answer.ensures.long ∙ part_long s.places.items at new s.count n c.as_mut_slice.ensures.value s.fits c.requires.room in
    let is = ap (take (s.count + t)) whole ∙ pushed_part s.places.items at new s.count n c.as_mut_slice.ensures.value s.fits t long
    (omega (arith, long, c.refill_slice-answer.ensures.count)) in
    let more = added_is (stacked s) (take t new) _ is in
    let count = ap length more ∙ length-take-le t new c.refill_slice-answer.ensures.count in
    subst (λ k. IfOk c.refill_slice-answer.result.0 (λ _. k ≤ n)) (sym count) c.refill_slice-answer.ensures.length

pub returns-clause-more : goal.returns-clause-more
returns-clause-more g c =
    let s = c.args.cache.now in
    let n = c.args.missing + c.args.size in
    let at = c.as_mut_slice.result.now in
    let new = c.refill_slice-answer.new.into in
    let t = c.refill_slice-answer.result.1 in
    let ws = put_mid s.count (s.count + n - s.count) at new in
    let whole = with_items_is s.places ws (search rules) in
    let long = c.refill_slice-answer.ensures.long ∙ part_long s.places.items at new s.count n c.as_mut_slice.ensures.value s.fits c.requires.room in
    let is = ap (take (s.count + t)) whole ∙ pushed_part s.places.items at new s.count n c.as_mut_slice.ensures.value s.fits t long
    (omega (arith, long, c.refill_slice-answer.ensures.count)) in
    let more = added_is (stacked s) (take t new) _ is in
    subst (λ l. IfOk c.refill_slice-answer.result.0 (λ h. HasMore g.T.Tagged.numbers (view c.args.hand).party l (view h).party)) (sym more)
    c.refill_slice-answer.ensures.more

pub returns-clause-single : goal.returns-clause-single
returns-clause-single g c =
    let s = c.args.cache.now in
    let n = c.args.missing + c.args.size in
    let at = c.as_mut_slice.result.now in
    let new = c.refill_slice-answer.new.into in
    let t = c.refill_slice-answer.result.1 in
    let ws = put_mid s.count (s.count + n - s.count) at new in
    let whole = with_items_is s.places ws (search rules) in
    let long = c.refill_slice-answer.ensures.long ∙ part_long s.places.items at new s.count n c.as_mut_slice.ensures.value s.fits c.requires.room in
    let is = ap (take (s.count + t)) whole ∙ pushed_part s.places.items at new s.count n c.as_mut_slice.ensures.value s.fits t long
    (omega (arith, long, c.refill_slice-answer.ensures.count)) in
    let more = added_is (stacked s) (take t new) _ is in
    subst (λ l. IfOk c.refill_slice-answer.result.0 (λ _. AreSingle g.T.Tagged.numbers l)) (sym more) c.refill_slice-answer.ensures.single
