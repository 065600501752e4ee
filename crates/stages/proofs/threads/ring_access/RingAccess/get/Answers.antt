use Rattle.std.proofs.Common.{◌+◌, sym, subst, arith}
use Rattle.std.specs.List.{flat_map}
use Rattle.burst.specs.Numbers.{AreDistinct}
use Rattle.fabric.specs.Hands.{rings_of, view}
use Rattle.fabric.proofs.Told.{ring_at}
use Rattle.ringcore_laws.specs.Sound.{occurrences_in}
use Rattle.ringapi.specs.Views.{by_bulk}
use Rattle.stages.proofs.Custody.{holds_some, take_kept, take_refused}
use Rattle.stages.proofs.threads.ring_access.RingAccess.get.Goals as goal

pub returns-in-Done : goal.returns-in-Done
returns-in-Done g c =
    let known = ring_at (rings_of c.args.self.now.fabric.now) 0 (omega (arith, c.args.self.now.rings.many)) in
    let tags = g.T.Tagged.numbers in
    let hand = c.take_hand-hand.result in
    let items = c.take_bulk_into.new.into in
    record {
      apart = (c.in-Done.ensures.exact known.0 known.1).2.1;
      kept = λ others had. holds_some tags c.in-Done.hand (λ b. occurrences_in tags b items + others b)
          (take_kept tags 256 by_bulk 0 known.0 c.args.n (view hand) c.in-Done.hand c.in-Done.field-1 items
          (c.in-Done.ensures.exact known.0 known.1) hand.share.well others (had hand c.take_hand-hand.ensures));
    }

pub returns-in_ok-emptiness-in-Refused : goal.returns-in_ok-emptiness-in-Refused
returns-in_ok-emptiness-in-Refused g c =
    let known = ring_at (rings_of c.args.self.now.fabric.now) 0 (omega (arith, c.args.self.now.rings.many)) in
    let none = (c.in-Refused.ensures.exact known.0 known.1).2.0 in
    let tags = g.T.Tagged.numbers in
    let hand = c.take_hand-hand.result in
    let items = c.take_bulk_into.new.into in
    record {
      apart = subst (λ ps. AreDistinct (flat_map tags ps)) (sym none) (λ b. omega arith);
      kept = λ others had. holds_some tags c.in-Refused.hand (λ b. occurrences_in tags b items + others b)
          (take_refused tags 256 by_bulk 0 known.0 c.args.n (view hand) c.in-Refused.hand c.in-Refused.fault items
          (c.in-Refused.ensures.exact known.0 known.1) others (had hand c.take_hand-hand.ensures));
    }

pub returns-in_err-emptiness-in-Refused : goal.returns-in_err-emptiness-in-Refused
returns-in_err-emptiness-in-Refused g c =
    let known = ring_at (rings_of c.args.self.now.fabric.now) 0 (omega (arith, c.args.self.now.rings.many)) in
    let none = (c.in-Refused.ensures.exact known.0 known.1).2.0 in
    let tags = g.T.Tagged.numbers in
    let hand = c.take_hand-hand.result in
    let items = c.take_bulk_into.new.into in
    record {
      apart = subst (λ ps. AreDistinct (flat_map tags ps)) (sym none) (λ b. omega arith);
      kept = λ others had. holds_some tags c.in-Refused.hand (λ b. occurrences_in tags b items + others b)
          (take_refused tags 256 by_bulk 0 known.0 c.args.n (view hand) c.in-Refused.hand c.in-Refused.fault items
          (c.in-Refused.ensures.exact known.0 known.1) others (had hand c.take_hand-hand.ensures));
    }
