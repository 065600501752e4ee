use Rattle.std.proofs.Common.{◌≤◌, ◌++◌, ℕ, Err, length, refl, subst, sym}
use Rattle.ringcore_laws.specs.Sound.{holds, occurrences_in}
use Rattle.fabric.specs.Hands.{rings_of}
use Rattle.fabric.specs.Settles.{AreOwnBuffers}
use Rattle.fabric.proofs.Told.{ring_at}
use Rattle.pool_laws.specs.Beside.{Receives}
use Rattle.pool.specs.Locals.{cache_of, hand_of, view_of}
use Rattle.pool.proofs.Shown.{none_shown}
use Rattle.capi.specs.PoolMembers.{numbers_of}
use Rattle.capi.proofs.Attempts.{held_once, received_own, unreceived_keeps, view_kept}
use Rattle.capi.proofs.pools.tries.try_receive.Goals as goal

pub returns-in-Ok-clause-filled : goal.returns-in-Ok-clause-filled
returns-in-Ok-clause-filled c =
    let known = ring_at (rings_of c.args.f.now) c.args.ring c.requires.ring in
    let l = c.args.local.now in
    let m = c.try_receive_into_slice.new.self in
    let before = c.args.into.now in
    let reply = c.in-Ok.ensures.exact in
    let fits : (b : ℕ) → occurrences_in numbers_of b (cache_of l) ≤ holds numbers_of b (view_of l).party = l.own in
    let own = received_own c.args.how c.args.ring (length before) known.0 (hand_of l) (hand_of m) c.in-Ok.moved reply.0 (cache_of l)
    (held_once l.hand l.here) fits (reply.2 known.0 known.1) in
    record {
      shown = reply.0;
      front = reply.1;
      count = sym own.0;
      part = own.1;
      reply = record {
        seen = hand_of l;
        kept = view_kept (view_of l) (view_of l) refl;
        reply = reply.2;
      };
      own = subst (λ xs. AreOwnBuffers numbers_of (view_of m) (reply.0 ++ xs)) (sym c.in-Ok.ensures.same.1) own.2;
    }

pub returns-in-Err-clause-refused : goal.returns-in-Err-clause-refused
returns-in-Err-clause-refused c =
    let known = ring_at (rings_of c.args.f.now) c.args.ring c.requires.ring in
    let l = c.args.local.now in
    let m = c.try_receive_into_slice.new.self in
    let reply = c.in-Err.ensures.exact in
    let n = length c.args.into.now in
    let none = (unreceived_keeps c.args.how c.args.ring n known.0 (hand_of l) (hand_of m) reply.0 c.in-Err.why (reply.2 known.0 known.1)).0 in
    record {
      seen = hand_of l;
      kept = view_kept (view_of l) (view_of l) refl;
      reply = λ plan there. subst (λ xs. Receives numbers_of c.args.how 4096 c.args.ring plan (hand_of l) (hand_of m) n (Err c.in-Err.why) xs)
          none (reply.2 plan there);
    }

pub returns-in-Err-clause-kept : goal.returns-in-Err-clause-kept
returns-in-Err-clause-kept c =
    let known = ring_at (rings_of c.args.f.now) c.args.ring c.requires.ring in
    let reply = c.in-Err.ensures.exact in
    (unreceived_keeps c.args.how c.args.ring (length c.args.into.now) known.0 (hand_of c.args.local.now) (hand_of c.try_receive_into_slice.new.self)
    reply.0 c.in-Err.why (reply.2 known.0 known.1)).1

pub returns-in-Err-clause-back : goal.returns-in-Err-clause-back
returns-in-Err-clause-back c =
    let known = ring_at (rings_of c.args.f.now) c.args.ring c.requires.ring in
    let reply = c.in-Err.ensures.exact in
    none_shown reply.0 c.args.into.now c.try_receive_into_slice.new.into reply.1
    (unreceived_keeps c.args.how c.args.ring (length c.args.into.now) known.0 (hand_of c.args.local.now) (hand_of c.try_receive_into_slice.new.self)
    reply.0 c.in-Err.why (reply.2 known.0 known.1)).0
