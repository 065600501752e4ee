use Rattle.std.proofs.Common.{arith, ◌≡◌, ◌<◌, None, Some, ap, length, refl, replicate, slice_get, subst, sym, ◌∙◌}
use Rattle.std.proofs.lemmas.Option.{slice_get_within}
use Rattle.geom.specs.declared.plan.Side.TheVariants.{Take}
use Rattle.fabric_laws.specs.Kinds.{run}
use Rattle.fabric_laws.specs.Words.{slot_at}
use Rattle.fabric.specs.AtOnce.{IsRecent}
use Rattle.fabric.specs.Hands.{rings_of}
use Rattle.fabric.specs.Held.{HasSpan, none_in}
use Rattle.fabric.specs.Views.{span_of}
use Rattle.fabric.specs.declared.hand.in_place.OpenSpan.TheVariants as open_span
use Rattle.fabric.specs.declared.hand.in_place.Reserved.{Reserved}
use Rattle.fabric.proofs.OneCalls.{recent_settled}
use Rattle.fabric.proofs.Seats.{plan_of}
use Rattle.fabric.proofs.hand.in_place.HandInPlace.try_take_one_at.Goals as goal

pub invariant_of-self-in-Ok-settle_take : goal.invariant_of-self-in-Ok-settle_take
invariant_of-self-in-Ok-settle_take g c =
    let was = c.requires.idle in
    let done = c.in-Ok-settle_take.ensures.done in
    record {
      idle = λ _. (done.2, ap (λ z. z.party.span) done.1);
      put = λ q is. absurd (let u : open_span.Idle ≡ open_span.Put q = sym was ∙ is in cc);
      take = λ q is. absurd (let u : open_span.Idle ≡ open_span.Take q = sym was ∙ is in cc);
      held = λ q is. absurd (let u : open_span.Idle ≡ open_span.Held q = sym was ∙ is in cc);
      hts = λ q is. absurd (let u : open_span.Idle ≡ open_span.Held q = sym was ∙ is in cc);
      so = λ some. recent_settled c.open_one.new.recent c.move_out.new.share.seat.me.0 c.settle_take.new.share.seat.me.0 c.at-target.result.index
          c.in-Ok.range.count Take c.in-Ok.range.start _ done.1
          (subst (IsRecent c.open_one.new.recent) (sym c.move_out.ensures.seat.1) (c.in-Ok.ensures.recent some));
    }

pub invariant_of-self-in-Err-settle_take : goal.invariant_of-self-in-Err-settle_take
invariant_of-self-in-Err-settle_take g c =
    let r = c.at-target.result in
    let of = c.at-target.ensures in
    let ring = c.args.place.now.index in
    let range = c.in-Ok.range in
    let e = c.in-Err-settle_take.ensures in
    let h = c.in-Ok.ensures.started.2.1 in
    let moved = c.move_out.ensures in
    let here : Reserved = record { ring = ring; range = range } in
    let kept = e.refused.2.kept in
    let plans = kept.plans ∙ (ap (λ z. z.plans) moved.seat.1 ∙ h.seated.plans) in
    let known = plans ∙ ap rings_of of.of in
    record {
      idle = λ is. absurd (let u : open_span.Take here ≡ open_span.Idle = is in cc);
      put = λ q is. absurd (let u : open_span.Take here ≡ open_span.Put q = is in cc);
      take = λ q is.
          let same : here ≡ q = (let u : open_span.Take here ≡ open_span.Take q = is in cc) in
          subst (λ (z : Reserved). HasSpan g.row.N Take c.settle_take.new.share.seat z (none_in z)) same record {
            there = subst (λ n. ring < n) (ap length (sym known))
                (slice_get_within (rings_of c.args.fabric.now) ring _ c.requires.place.0);
            span = ap (λ p. p.span) kept.party ∙ (ap (λ z. z.party.span) moved.seat.1
                ∙ (h.span ∙ ap (λ i. Some (span_of i Take range.start range.count)) of.index));
            slots = λ plan at. e.refused.0 ∙ (moved.slots
                ∙ (λ i. run (slot_at (sym plans i) (of.index i) (plan_of r c.args.fabric.now ring of.of of.index plan (ap (λ ps. slice_get ps ring) (sym known) ∙ at) i))
                range.start (replicate range.count None)));
            many = λ _. ap length (e.shown ∙ ap (λ z. z.shown) moved.seat.1) ∙ h.full refl;
            fits = λ more. let long : g.row.N < c.args.most = omega (arith, more, h.fits) in omega (arith, h.fits, c.requires.small long);
          };
      held = λ q is. absurd (let u : open_span.Take here ≡ open_span.Held q = is in cc);
      hts = λ q is. absurd (let u : open_span.Take here ≡ open_span.Held q = is in cc);
      so = λ some. absurd (let z : 0 < 0 = some in omega (arith, z));
    }
