use Rattle.std.proofs.Common.{[], ◌≡◌, ◌<◌, ◌≤◌, ℕ, arith, length, rules, subst, sym, take}
use Rattle.std.proofs.lemmas.Option.{slice_get_within}
use Rattle.geom.specs.declared.plan.Side.TheVariants.{Put}
use Rattle.fabric.specs.Hands.{rings_of}
use Rattle.fabric.specs.InPlace.{placed_view}
use Rattle.fabric.specs.WholeCalls.{HasMoved, RefusesPut, StaysOpen}
use Rattle.fabric.specs.declared.hand.in_place.WholeFault.{WholeFault}
use Rattle.fabric.proofs.Settling.{taken_long}
use Rattle.capi.specs.Calls.{Moves, Waits}
use Rattle.capi.specs.Members.{Rings}
use Rattle.capi.specs.Spans.{call_limit, tags}
use Rattle.capi.proofs.Limits.{limit_small}
use Rattle.capi.proofs.Settled.{all_fit, few_in, moved_of, waits_of}
use Rattle.capi.proofs.rings.whole_calls.put_in.Goals as goal

pub overflow_cast-result : goal.overflow_cast-result
overflow_cast-result c =
    let port = c.args.port.now in
    let f = port.fabric.value in
    let ring = c.args.place.now.index in
    let words = c.args.words.now in
    let v = placed_view port.hand in
    let w = placed_view c.try_put_at.new.self in
    let most = c.longest-most.result in
    let r = c.in-Ok.reserved in
    let same : c.deref-2.result.now ≡ f = search rules in
    let there : ring < length (rings_of f) = slice_get_within (rings_of f) ring c.args.place.now.shape.plan c.requires.place.0 in
    let to : length words ≤ most → length words ≤ call_limit f ring Put = search (rules, same) in
    let moved : HasMoved tags f most c.args.how (length words) ring v Put r [] (take r.range.count words) w =
    subst (λ (z : Rings). HasMoved tags z most c.args.how (length words) ring v Put r [] (take r.range.count words) w)
    same c.in-Ok.ensures.done.1 in
    let few = few_in f most c.args.how (length words) ring v Put r there to moved.opened moved.start in
    omega (arith, few.0, few.1, limit_small f ring Put, c.count.ensures)

pub returns-in-Ok : goal.returns-in-Ok
returns-in-Ok c =
    let port = c.args.port.now in
    let f = port.fabric.value in
    let ring = c.args.place.now.index in
    let words = c.args.words.now in
    let v = placed_view port.hand in
    let w = placed_view c.try_put_at.new.self in
    let most = c.longest-most.result in
    let r = c.in-Ok.reserved in
    let same : c.deref-2.result.now ≡ f = search rules in
    let there : ring < length (rings_of f) = slice_get_within (rings_of f) ring c.args.place.now.shape.plan c.requires.place.0 in
    let to : length words ≤ most → length words ≤ call_limit f ring Put = search (rules, same) in
    let whole : HasMoved tags f most c.args.how (length words) ring v Put r [] (take r.range.count words) w =
    subst (λ (z : Rings). HasMoved tags z most c.args.how (length words) ring v Put r [] (take r.range.count words) w)
    same c.in-Ok.ensures.done.1 in
    let moved : Moves f (call_limit f ring Put) c.args.how (length words) ring Put v c.count.result c.left.result [] (take c.count.result words) w =
    subst (λ (z : ℕ × ℕ). Moves f (call_limit f ring Put) c.args.how (length words) ring Put v z.0 z.1 [] (take z.0 words) w)
    (λ i. (sym c.count.ensures i, sym c.left.ensures i))
    (moved_of f most c.args.how (length words) ring v Put r there to [] (take r.range.count words) w whole) in
    search (rules, there, moved)

pub returns-in-Err-Settle : goal.returns-in-Err-Settle
returns-in-Err-Settle c =
    let port = c.args.port.now in
    let f = port.fabric.value in
    let ring = c.args.place.now.index in
    let words = c.args.words.now in
    let v = placed_view port.hand in
    let h = c.try_put_at.new.self in
    let w = placed_view h in
    let most = c.longest-most.result in
    let r = c.in-Err-Settle.reserved in
    let k = length (take r.range.count words) in
    let same : c.deref-2.result.now ≡ f = search rules in
    let there : ring < length (rings_of f) = slice_get_within (rings_of f) ring c.args.place.now.shape.plan c.requires.place.0 in
    let to : length words ≤ most → length words ≤ call_limit f ring Put = search (rules, same) in
    let refused = subst (λ (e : WholeFault). RefusesPut tags c.deref-2.result.now most c.args.how (length words) ring v words h.span w e)
    c.in-Err-Settle.field-0-is c.in-Err-Settle.ensures.refused.0 in
    let open_still : StaysOpen tags f most c.args.how (length words) ring v Put r k [] (take r.range.count words) w c.in-Err-Settle._fault =
    subst (λ (z : Rings). StaysOpen tags z most c.args.how (length words) ring v Put r k [] (take r.range.count words) w c.in-Err-Settle._fault)
    same refused.1 in
    let few = few_in f most c.args.how (length words) ring v Put r there to open_still.opened open_still.start in
    let waits : Waits f (call_limit f ring Put) c.args.how (length words) ring Put v c.left-in-Err-Settle.result [] w =
    subst (λ (left : ℕ). Waits f (call_limit f ring Put) c.args.how (length words) ring Put v left [] w) (sym c.left-in-Err-Settle.ensures)
    (waits_of f most c.args.how (length words) ring v Put r there to k [] (take r.range.count words) w c.in-Err-Settle._fault
    c.requires.plain (λ mode. all_fit mode k r.range.count (taken_long r.range.count words few.0)) open_still) in
    search (rules, there, waits)
