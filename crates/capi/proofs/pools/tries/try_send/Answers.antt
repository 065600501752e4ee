use Rattle.fabric.specs.Hands.{rings_of}
use Rattle.fabric.proofs.Told.{ring_at}
use Rattle.pool.specs.Locals.{cache_of, hand_of}
use Rattle.capi.proofs.Attempts.{sent_count, unsent_keeps}
use Rattle.capi.proofs.pools.tries.try_send.Goals as goal

pub returns-in-Ok-clause-part : goal.returns-in-Ok-clause-part
returns-in-Ok-clause-part c =
    let known = ring_at (rings_of c.args.f.now) c.args.ring c.requires.ring in
    let l = c.args.local.now in
    let m = c.try_send_from_slice.new.self in
    sent_count c.args.how c.args.ring known.0 (hand_of l) (hand_of m) c.in-Ok.moved (cache_of l) c.args.items.now _ (c.in-Ok.ensures.exact known.0 known.1)

pub returns-in-Err-clause-kept : goal.returns-in-Err-clause-kept
returns-in-Err-clause-kept c =
    let known = ring_at (rings_of c.args.f.now) c.args.ring c.requires.ring in
    let l = c.args.local.now in
    let m = c.try_send_from_slice.new.self in
    unsent_keeps c.args.how c.args.ring known.0 (hand_of l) (hand_of m) (cache_of l) c.args.items.now c.args.items.now c.in-Err.why
    (c.in-Err.ensures.exact known.0 known.1)
