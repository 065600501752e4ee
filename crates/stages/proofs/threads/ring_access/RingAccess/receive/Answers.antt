use Rattle.std.proofs.Common.{◌+◌, refl, subst, arith}
use Rattle.fabric.specs.Hands.{rings_of, view}
use Rattle.fabric.proofs.Told.{ring_at}
use Rattle.ringcore_laws.specs.Sound.{occurrences_in}
use Rattle.ringapi.specs.declared.answers.TakeAnswer.TheVariants as taken
use Rattle.ringapi.specs.Takes.{TakeHasTold}
use Rattle.ringapi.specs.Views.{by_burst}
use Rattle.run_one.proofs.Known.{if_err}
use Rattle.stages.proofs.Custody.{holds_some, take_kept, take_refused}
use Rattle.stages.proofs.threads.ring_access.RingAccess.receive.Goals as goal

pub returns-in-Done-clause-kept : goal.returns-in-Done-clause-kept
returns-in-Done-clause-kept g c others had =
    let tags = g.T.Tagged.numbers in
    let port = c.args.self.now in
    let hand = c.take_hand-hand.result in
    let items = c.take_burst_into.new.into in
    let known = ring_at (rings_of port.fabric.now) c.args.ring (omega (arith, c.requires.ring, port.rings.many)) in
    holds_some tags c.in-Done.hand (λ b. occurrences_in tags b items + others b)
    (take_kept tags 256 by_burst c.args.ring known.0 c.args.n (view hand) c.in-Done.hand c.in-Done.field-1 items
    (c.in-Done.ensures.exact known.0 known.1) hand.share.well others (had hand c.take_hand-hand.ensures))

pub returns-in-Refused : goal.returns-in-Refused
returns-in-Refused g c =
    let h = c.take_hand-hand.result in
    let k = c.in-Refused.hand in
    let items = c.take_burst_into.new.into in
    let tags = g.T.Tagged.numbers in
    let port = c.args.self.now in
    let known = ring_at (rings_of port.fabric.now) c.args.ring (omega (arith, c.requires.ring, port.rings.many)) in
    record {
      kept = λ others had. holds_some tags k (λ b. occurrences_in tags b items + others b)
          (take_refused tags 256 by_burst c.args.ring known.0 c.args.n (view h) k c.in-Refused.fault items
          (c.in-Refused.ensures.exact known.0 known.1) others (had h c.take_hand-hand.ensures));
      exact = if_err c.emptiness.result
          (λ e why. (
            h,
            k,
            refl,
            why.0,
            λ plan there.
                subst
                (λ fault. TakeHasTold {N = 256} g.T.Tagged.numbers by_burst c.args.n c.args.ring plan (view h) (taken.Refused k fault) items)
                why.1
                (c.in-Refused.ensures.exact plan there),
          ))
          c.emptiness.ensures;
    }
