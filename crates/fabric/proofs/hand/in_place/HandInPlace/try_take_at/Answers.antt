use Rattle.std.proofs.Common.{arith, rules, ◌≡◌, ◌<◌, [], None, Some, ap, length, refl, replicate, slice_get, subst, sym, ◌∙◌}
use Rattle.std.proofs.lemmas.Option.{slice_get_within}
use Rattle.geom.specs.Extent.{range_of}
use Rattle.geom.specs.Plan.{mode_of}
use Rattle.geom.specs.declared.plan.Mode.TheVariants.{Hts}
use Rattle.fabric.specs.declared.plan.Shape.{Shape}
use Rattle.geom.specs.declared.plan.Side.TheVariants.{Take}
use Rattle.fabric_laws.specs.Kinds.{run}
use Rattle.fabric_laws.specs.Words.{slot_at}
use Rattle.fabric.specs.Hands.{rings_of}
use Rattle.fabric.specs.Held.{HasSpan, none_in}
use Rattle.fabric.specs.Views.{span_of}
use Rattle.fabric.specs.declared.hand.in_place.OpenSpan.TheVariants as open_span
use Rattle.fabric.specs.declared.hand.in_place.Reserved.{Reserved}
use Rattle.fabric.proofs.Seats.{front_of, plan_of, take_opened_at, unsettled_at}
use Rattle.fabric.proofs.hand.in_place.HandInPlace.try_take_at.Goals as goal

pub invariant_of-self-in-Err-settle_take : goal.invariant_of-self-in-Err-settle_take
invariant_of-self-in-Err-settle_take g c =
    let r = c.at-target.result in
    let of = c.at-target.ensures in
    let ring = c.args.place.now.index in
    let range = c.in-Ok.range in
    let e = c.in-Err-settle_take.ensures in
    let h = c.in-Ok.ensures.started in
    let here : Reserved = record { ring = ring; range = range } in
    let kept = e.refused.2.kept in
    let plans = kept.plans ∙ h.seated.plans in
    let known = plans ∙ ap rings_of of.of in
    record {
      idle = λ is. absurd (let u : open_span.Take here ≡ open_span.Idle = is in cc);
      put = λ q is. absurd (let u : open_span.Take here ≡ open_span.Put q = is in cc);
      take = λ q is.
          let same : here ≡ q = (let u : open_span.Take here ≡ open_span.Take q = is in cc) in
          subst (λ (z : Reserved). HasSpan g.row.N Take c.settle_take.new.share.seat z (none_in z)) same record {
            there = subst (λ n. ring < n) (ap length (sym known))
                (slice_get_within (rings_of c.args.fabric.now) ring _ c.requires.place.0);
            span = ap (λ p. p.span) kept.party ∙ (h.span ∙ ap (λ i. Some (span_of i Take range.start range.count)) of.index);
            slots = λ plan at. e.refused.0 ∙ (h.slots
                ∙ (λ i. run (slot_at (sym plans i) (of.index i) (plan_of r c.args.fabric.now ring of.of of.index plan (ap (λ ps. slice_get ps ring) (sym known) ∙ at) i))
                range.start (replicate range.count None)));
            many = λ _. ap length e.shown ∙ h.full refl;
            fits = λ more. let long : g.row.N < c.args.most = omega (arith, more, h.fits) in omega (arith, h.fits, c.requires.small long);
          };
      held = λ q is. absurd (let u : open_span.Take here ≡ open_span.Held q = is in cc);
      hts = λ q is. absurd (let u : open_span.Take here ≡ open_span.Held q = is in cc);
      so = λ some. absurd (let z : 0 < 0 = some in omega (arith, z));
    }

pub open_take-requires : goal.open_take-requires
open_take-requires g c =
    let counts = subst (λ (z : Shape). mode_of z.plan Take ≡ Hts → c.args.most < range_of z.plan.geometry) (sym c.at-target.ensures.shape) c.requires.counts in
    (omega (arith), (search, (c.args.self.now.idle c.requires.idle, (counts, (λ m few most. few, refl)))))

pub returns-in-Err-settle_take-clause-refused : goal.returns-in-Err-settle_take-clause-refused
returns-in-Err-settle_take-clause-refused g c =
    let r = c.at-target.result in
    let of = c.at-target.ensures in
    let f = c.args.fabric.now in
    let ring = c.args.place.now.index in
    let range = c.in-Ok.range in
    let e = c.in-Err-settle_take.ensures in
    let h = c.in-Ok.ensures.started in
    let copied = c.in-Ok.ensures.copied in
    let tags = g.T.Tagged.numbers in
    let w = c.open_take.new.share.seat in
    let n = length c.args.into.now in (
      refl,
      w.me.0.shown,
      h.full refl,
      search rules ∙ front_of w.me.0.shown c.args.into.now c.open_take.new.into.words.now c.open_take.new.into.count copied.0 copied.1.1 copied.1.2,
      record {
        opened = w.me.0;
        start = take_opened_at tags r f ring of.of of.index c.args.most c.args.how n c.args.self.now.share.seat.me.0 w range h;
        shows = (refl, e.shown);
        refused = unsettled_at tags r f ring of.of of.index Take range range.count [] w.me.0 c.settle_take.new.share.seat.me.0
            c.in-Err-settle_take.fault e.refused.2;
      },
    )
