use Rattle.std.proofs.Common.{[], ◌≡◌, ◌<◌, ◌≤◌, ◌++◌, ℕ, ap, drop, inl, length, refl, rules, subst, sym, take, ◌∙◌}
use Rattle.std.proofs.lemmas.Option.{slice_get_within}
use Rattle.geom.specs.declared.plan.Side.TheVariants.{Take}
use Rattle.fabric.specs.Hands.{rings_of}
use Rattle.fabric.specs.InPlace.{placed_view}
use Rattle.fabric.specs.WholeCalls.{HasMoved, RefusesTake, StaysOpen}
use Rattle.fabric.specs.declared.hand.in_place.WholeFault.{WholeFault}
use Rattle.capi.specs.Calls.{Moves, Waits}
use Rattle.capi.specs.Members.{Rings}
use Rattle.capi.specs.Spans.{call_limit, tags}
use Rattle.capi.proofs.Settled.{all_fit, moved_of, waits_of}
use Rattle.capi.proofs.rings.whole_calls.take_in.Goals as goal

pub returns-in-Ok : goal.returns-in-Ok
returns-in-Ok c =
    let port = c.args.port.now in
    let f = port.fabric.value in
    let ring = c.args.place.now.index in
    let before = c.args.words.now in
    let n = length before in
    let v = placed_view port.hand in
    let w = placed_view c.try_take_at.new.self in
    let most = c.longest-most.result in
    let r = c.in-Ok.reserved in
    let done = c.in-Ok.ensures.done in
    let shown = take r.range.count c.try_take_at.new.into in
    let same : c.deref-2.result.now ≡ f = search rules in
    let there : ring < length (rings_of f) = slice_get_within (rings_of f) ring c.args.place.now.shape.plan c.requires.place.0 in
    let to : n ≤ most → n ≤ call_limit f ring Take = search (rules, same) in
    let long : length shown ≡ c.count.result = done.2 ∙ sym c.count.ensures in
    let copied : c.try_take_at.new.into ≡ shown ++ drop c.count.result before = done.1 ∙ ap (λ k. shown ++ drop k before) (sym c.count.ensures) in
    let whole : HasMoved tags f most c.args.how n ring v Take r shown shown w =
    subst (λ (z : Rings). HasMoved tags z most c.args.how n ring v Take r shown shown w) same done.3 in
    let moved : Moves f (call_limit f ring Take) c.args.how n ring Take v c.count.result c.left.result shown shown w =
    subst (λ (z : ℕ × ℕ). Moves f (call_limit f ring Take) c.args.how n ring Take v z.0 z.1 shown shown w)
    (λ i. (sym c.count.ensures i, sym c.left.ensures i))
    (moved_of f most c.args.how n ring v Take r there to shown shown w whole) in
    search (rules, there, long, copied, moved)

pub returns-in-Err-Settle-clause-take : goal.returns-in-Err-Settle-clause-take
returns-in-Err-Settle-clause-take c =
    let port = c.args.port.now in
    let f = port.fabric.value in
    let ring = c.args.place.now.index in
    let before = c.args.words.now in
    let n = length before in
    let v = placed_view port.hand in
    let h = c.try_take_at.new.self in
    let after = c.try_take_at.new.into in
    let w = placed_view h in
    let most = c.longest-most.result in
    let r = c.in-Err-Settle.reserved in
    let same : c.deref-2.result.now ≡ f = search rules in
    let there : ring < length (rings_of f) = slice_get_within (rings_of f) ring c.args.place.now.shape.plan c.requires.place.0 in
    let to : n ≤ most → n ≤ call_limit f ring Take = search (rules, same) in
    let found = subst (λ (e : WholeFault). RefusesTake tags c.deref-2.result.now most c.args.how n ring v before after h.span w e)
    c.in-Err-Settle.field-0-is c.in-Err-Settle.ensures.refused in
    let copied = found.3 in
    let open_still : StaysOpen tags f most c.args.how n ring v Take r r.range.count found.1 [] w c.in-Err-Settle._fault =
    subst (λ (z : Rings). StaysOpen tags z most c.args.how n ring v Take r r.range.count found.1 [] w c.in-Err-Settle._fault)
    same found.4 in
    let waits : Waits f (call_limit f ring Take) c.args.how n ring Take v c.left-in-Err-Settle.result found.1 w =
    subst (λ (left : ℕ). Waits f (call_limit f ring Take) c.args.how n ring Take v left found.1 w) (sym c.left-in-Err-Settle.ensures)
    (waits_of f most c.args.how n ring v Take r there to r.range.count found.1 [] w c.in-Err-Settle._fault
    c.requires.plain (λ mode. all_fit mode r.range.count r.range.count refl) open_still) in
    inl (refl, found.1, copied, waits)
