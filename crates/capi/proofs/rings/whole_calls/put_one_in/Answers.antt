use Rattle.std.proofs.Common.{[], ◌∷◌, ◌≡◌, ◌<◌, ◌≤◌, ℕ, arith, inl, inr, length, refl, rules, subst, sym, take}
use Rattle.std.proofs.lemmas.Option.{slice_get_within}
use Rattle.geom.specs.declared.plan.How.TheVariants.{Bulk}
use Rattle.geom.specs.declared.plan.Side.TheVariants.{Put}
use Rattle.fabric.specs.Hands.{rings_of}
use Rattle.fabric.specs.InPlace.{placed_view}
use Rattle.fabric.specs.OneCalls.{RefusesPutOne, with_left}
use Rattle.fabric.specs.WholeCalls.{HasMoved, StaysOpen}
use Rattle.fabric.specs.declared.hand.in_place.WholeFault.{WholeFault}
use Rattle.fabric.specs.declared.hand.in_place.WholeFault.TheVariants as whole
use Rattle.fabric.proofs.Settling.{taken_long}
use Rattle.capi.specs.Calls.{Moves, Waits}
use Rattle.capi.specs.Members.{Rings}
use Rattle.capi.specs.Spans.{call_limit, room_of, tags}
use Rattle.capi.proofs.Limits.{limit_small}
use Rattle.capi.proofs.Settled.{all_fit, few_in, moved_of, refused_one, waits_of}
use Rattle.capi.proofs.rings.whole_calls.put_one_in.Goals as goal

pub overflow_cast-result : goal.overflow_cast-result
overflow_cast-result c =
    let f = c.args.port.now.fabric.value in
    let ring = c.args.place.now.index in
    let words = c.args.word ∷ [] in
    let w = placed_view c.try_put_one_at.new.self in
    let most = c.longest-most.result in
    let r = c.in-Ok.reserved in
    let same : c.deref-2.result.now ≡ f = search rules in
    let there : ring < length (rings_of f) = slice_get_within (rings_of f) ring c.args.place.now.shape.plan c.requires.place.0 in
    let to : 1 ≤ most → 1 ≤ call_limit f ring Put = search (rules, same) in
    let one = c.in-Ok.ensures.done.1 in
    let moved : HasMoved tags f most Bulk 1 ring one.0 Put (with_left r one.1) [] (take r.range.count words) w =
    subst (λ (z : Rings). HasMoved tags z most Bulk 1 ring one.0 Put (with_left r one.1) [] (take r.range.count words) w) same one.3 in
    let few = few_in f most Bulk 1 ring one.0 Put (with_left r one.1) there to moved.opened moved.start in
    omega (arith, few.0, few.1, limit_small f ring Put, c.count.ensures)

pub returns-in-Ok-clause-put : goal.returns-in-Ok-clause-put
returns-in-Ok-clause-put c =
    let f = c.args.port.now.fabric.value in
    let ring = c.args.place.now.index in
    let words = c.args.word ∷ [] in
    let w = placed_view c.try_put_one_at.new.self in
    let most = c.longest-most.result in
    let r = c.in-Ok.reserved in
    let same : c.deref-2.result.now ≡ f = search rules in
    let there : ring < length (rings_of f) = slice_get_within (rings_of f) ring c.args.place.now.shape.plan c.requires.place.0 in
    let to : 1 ≤ most → 1 ≤ call_limit f ring Put = search (rules, same) in
    let one = c.in-Ok.ensures.done.1 in
    let whole : HasMoved tags f most Bulk 1 ring one.0 Put (with_left r one.1) [] (take r.range.count words) w =
    subst (λ (z : Rings). HasMoved tags z most Bulk 1 ring one.0 Put (with_left r one.1) [] (take r.range.count words) w) same one.3 in
    let moved : Moves f (call_limit f ring Put) Bulk 1 ring Put one.0 c.count.result one.1 [] (take c.count.result words) w =
    subst (λ (k : ℕ). Moves f (call_limit f ring Put) Bulk 1 ring Put one.0 k one.1 [] (take k words) w) (sym c.count.ensures)
    (moved_of f most Bulk 1 ring one.0 Put (with_left r one.1) there to [] (take r.range.count words) w whole) in
    (one.0, one.1, one.2, moved)

pub returns-in-Err-Settle-clause-put : goal.returns-in-Err-Settle-clause-put
returns-in-Err-Settle-clause-put c =
    let f = c.args.port.now.fabric.value in
    let ring = c.args.place.now.index in
    let words = c.args.word ∷ [] in
    let v = placed_view c.args.port.now.hand in
    let h = c.try_put_one_at.new.self in
    let w = placed_view h in
    let most = c.longest-most.result in
    let r = c.in-Err-Settle._reserved in
    let same : c.deref-2.result.now ≡ f = search rules in
    let there : ring < length (rings_of f) = slice_get_within (rings_of f) ring c.args.place.now.shape.plan c.requires.place.0 in
    let to : 1 ≤ most → 1 ≤ call_limit f ring Put = search (rules, same) in
    let one = subst (λ (e : WholeFault). RefusesPutOne tags c.deref-2.result.now most ring v words h.span w e)
    c.in-Err-Settle.field-0-is c.in-Err-Settle.ensures.refused.0 in
    let k = length (take r.range.count words) in
    let open_still : StaysOpen tags f most Bulk 1 ring one.0 Put (with_left r one.1) k [] (take r.range.count words) w c.in-Err-Settle._fault =
    subst (λ (z : Rings). StaysOpen tags z most Bulk 1 ring one.0 Put (with_left r one.1) k [] (take r.range.count words) w c.in-Err-Settle._fault)
    same one.4 in
    let few = few_in f most Bulk 1 ring one.0 Put (with_left r one.1) there to open_still.opened open_still.start in
    let waits : Waits f (call_limit f ring Put) Bulk 1 ring Put one.0 one.1 [] w =
    waits_of f most Bulk 1 ring one.0 Put (with_left r one.1) there to k [] (take r.range.count words) w c.in-Err-Settle._fault
    c.requires.plain (λ mode. all_fit mode k r.range.count (taken_long r.range.count words few.0)) open_still in
    (one.0, one.1, one.2, inl (refl, waits))

pub returns-in-Err-Start-clause-put : goal.returns-in-Err-Start-clause-put
returns-in-Err-Start-clause-put c =
    let f = c.args.port.now.fabric.value in
    let ring = c.args.place.now.index in
    let words = c.args.word ∷ [] in
    let v = placed_view c.args.port.now.hand in
    let h = c.try_put_one_at.new.self in
    let w = placed_view h in
    let most = c.longest-most.result in
    let why = c.in-Err-Start.why in
    let same : c.deref-2.result.now ≡ f = search rules in
    let there : ring < length (rings_of f) = slice_get_within (rings_of f) ring c.args.place.now.shape.plan c.requires.place.0 in
    let to : 1 ≤ call_limit f ring Put → 1 ≤ most = search (rules, same) in
    let all = subst (λ (e : WholeFault). RefusesPutOne tags c.deref-2.result.now most ring v words h.span w e)
    c.in-Err-Start.field-0-is c.in-Err-Start.ensures.refused.0 in
    let found = subst (λ (z : Rings). RefusesPutOne tags z most ring v words h.span w (whole.Start why)) same all in
    (found.0, room_of why, found.1, inr (refused_one f most ring Put found.0 w why c.fault_of.result c.fault_of.ensures there to found.2.refused))
