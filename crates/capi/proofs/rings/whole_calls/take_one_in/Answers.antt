use Rattle.std.proofs.Common.{[], ◌≡◌, ◌<◌, ◌≤◌, ◌++◌, ℕ, ap, drop, inl, inr, length, refl, rules, subst, sym, take, ◌∙◌}
use Rattle.std.proofs.lemmas.Option.{slice_get_within}
use Rattle.geom.specs.declared.plan.How.TheVariants.{Bulk}
use Rattle.geom.specs.declared.plan.Side.TheVariants.{Take}
use Rattle.fabric.specs.Hands.{rings_of}
use Rattle.fabric.specs.InPlace.{placed_view}
use Rattle.fabric.specs.OneCalls.{RefusesTakeOne, with_left}
use Rattle.fabric.specs.WholeCalls.{HasMoved, StaysOpen}
use Rattle.fabric.specs.declared.hand.in_place.WholeFault.{WholeFault}
use Rattle.fabric.specs.declared.hand.in_place.WholeFault.TheVariants as whole
use Rattle.capi.specs.Calls.{Moves, Refuses, Waits}
use Rattle.capi.specs.Members.{Rings}
use Rattle.capi.specs.Spans.{call_limit, room_of, tags}
use Rattle.capi.proofs.Settled.{all_fit, moved_of, refused_one, waits_of}
use Rattle.capi.proofs.rings.whole_calls.take_one_in.Goals as goal

pub returns-in-Ok-clause-take : goal.returns-in-Ok-clause-take
returns-in-Ok-clause-take c =
    let f = c.args.port.now.fabric.value in
    let ring = c.args.place.now.index in
    let before = c.args.words.now in
    let n = length before in
    let w = placed_view c.try_take_one_at.new.self in
    let most = c.longest-most.result in
    let r = c.in-Ok.reserved in
    let done = c.in-Ok.ensures.done in
    let shown = take r.range.count c.try_take_one_at.new.into in
    let one = done.3 in
    let same : c.deref-2.result.now ≡ f = search rules in
    let there : ring < length (rings_of f) = slice_get_within (rings_of f) ring c.args.place.now.shape.plan c.requires.place.0 in
    let to : 1 ≤ most → 1 ≤ call_limit f ring Take = search (rules, same) in
    let long : length shown ≡ c.count.result = done.2 ∙ sym c.count.ensures in
    let copied : c.try_take_one_at.new.into ≡ shown ++ drop c.count.result before = done.1 ∙ ap (λ k. shown ++ drop k before) (sym c.count.ensures) in
    let whole : HasMoved tags f most Bulk 1 ring one.0 Take (with_left r one.1) shown shown w =
    subst (λ (z : Rings). HasMoved tags z most Bulk 1 ring one.0 Take (with_left r one.1) shown shown w) same one.3 in
    let moved : Moves f (call_limit f ring Take) Bulk n ring Take one.0 c.count.result one.1 shown shown w =
    subst (λ (z : ℕ × ℕ). Moves f (call_limit f ring Take) Bulk z.0 ring Take one.0 z.1 one.1 shown shown w)
    (λ i. (sym c.requires.one i, sym c.count.ensures i))
    (moved_of f most Bulk 1 ring one.0 Take (with_left r one.1) there to shown shown w whole) in
    (one.0, one.1, one.2, (shown, long, copied, moved))

pub returns-in-Err-Settle-clause-take : goal.returns-in-Err-Settle-clause-take
returns-in-Err-Settle-clause-take c =
    let f = c.args.port.now.fabric.value in
    let ring = c.args.place.now.index in
    let before = c.args.words.now in
    let n = length before in
    let v = placed_view c.args.port.now.hand in
    let h = c.try_take_one_at.new.self in
    let after = c.try_take_one_at.new.into in
    let w = placed_view h in
    let most = c.longest-most.result in
    let r = c.in-Err-Settle._reserved in
    let same : c.deref-2.result.now ≡ f = search rules in
    let there : ring < length (rings_of f) = slice_get_within (rings_of f) ring c.args.place.now.shape.plan c.requires.place.0 in
    let to : 1 ≤ most → 1 ≤ call_limit f ring Take = search (rules, same) in
    let one = subst (λ (e : WholeFault). RefusesTakeOne tags c.deref-2.result.now most ring v before after h.span w e)
    c.in-Err-Settle.field-0-is c.in-Err-Settle.ensures.refused in
    let shown = one.4 in
    let open_still : StaysOpen tags f most Bulk 1 ring one.0 Take (with_left r one.1) r.range.count shown [] w c.in-Err-Settle._fault =
    subst (λ (z : Rings). StaysOpen tags z most Bulk 1 ring one.0 Take (with_left r one.1) r.range.count shown [] w c.in-Err-Settle._fault)
    same one.7 in
    let waits : Waits f (call_limit f ring Take) Bulk n ring Take one.0 one.1 shown w =
    subst (λ (k : ℕ). Waits f (call_limit f ring Take) Bulk k ring Take one.0 one.1 shown w) (sym c.requires.one)
    (waits_of f most Bulk 1 ring one.0 Take (with_left r one.1) there to r.range.count shown [] w c.in-Err-Settle._fault
    c.requires.plain (λ mode. all_fit mode r.range.count r.range.count refl) open_still) in
    (one.0, one.1, one.2, inl (refl, shown, one.6, waits))

pub returns-in-Err-Start-clause-take : goal.returns-in-Err-Start-clause-take
returns-in-Err-Start-clause-take c =
    let f = c.args.port.now.fabric.value in
    let ring = c.args.place.now.index in
    let before = c.args.words.now in
    let v = placed_view c.args.port.now.hand in
    let h = c.try_take_one_at.new.self in
    let after = c.try_take_one_at.new.into in
    let w = placed_view h in
    let most = c.longest-most.result in
    let why = c.in-Err-Start.why in
    let same : c.deref-2.result.now ≡ f = search rules in
    let there : ring < length (rings_of f) = slice_get_within (rings_of f) ring c.args.place.now.shape.plan c.requires.place.0 in
    let to : 1 ≤ call_limit f ring Take → 1 ≤ most = search (rules, same) in
    let all = subst (λ (e : WholeFault). RefusesTakeOne tags c.deref-2.result.now most ring v before after h.span w e)
    c.in-Err-Start.field-0-is c.in-Err-Start.ensures.refused in
    let found = subst (λ (z : Rings). RefusesTakeOne tags z most ring v before after h.span w (whole.Start why)) same all in
    let refuses : Refuses f (call_limit f ring Take) Bulk (length before) ring Take found.0 c.fault_of.result (room_of why) w =
    subst (λ (k : ℕ). Refuses f (call_limit f ring Take) Bulk k ring Take found.0 c.fault_of.result (room_of why) w) (sym c.requires.one)
    (refused_one f most ring Take found.0 w why c.fault_of.result c.fault_of.ensures there to found.3.refused) in
    (found.0, room_of why, found.1, inr (found.2, refuses))
