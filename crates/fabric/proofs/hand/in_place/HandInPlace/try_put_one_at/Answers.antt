use Rattle.std.proofs.Common.{arith, ◌≡◌, ◌<◌, ◌≤◌, None, Some, ap, length, refl, replicate, slice_get, subst, sym, take, ◌∙◌}
use Rattle.std.proofs.lemmas.Option.{slice_get_within}
use Rattle.geom.specs.declared.plan.How.TheVariants.{Bulk}
use Rattle.geom.specs.declared.plan.Side.TheVariants.{Put, Take}
use Rattle.fabric_laws.specs.Kinds.{run}
use Rattle.fabric_laws.specs.Words.{slot_at}
use Rattle.fabric.specs.Hands.{OnRing, rings_of}
use Rattle.fabric.specs.Held.{HasSpan, none_in}
use Rattle.fabric.specs.Refused.{IsUnsettled}
use Rattle.fabric.specs.Views.{span_of}
use Rattle.fabric.specs.declared.hand.in_place.OpenSpan.TheVariants as open_span
use Rattle.fabric.specs.declared.hand.in_place.Reserved.{Reserved}
use Rattle.fabric.proofs.OneCalls.{opened_at, recent_settled, shown_kept}
use Rattle.fabric.proofs.Seats.{plan_of, unsettled_at}
use Rattle.fabric.proofs.Settling.{taken_long}
use Rattle.fabric.proofs.Slices.{granted_few}
use Rattle.fabric.proofs.hand.in_place.HandInPlace.try_put_one_at.Goals as goal

pub invariant_of-self-in-Ok-settle_put_first : goal.invariant_of-self-in-Ok-settle_put_first
invariant_of-self-in-Ok-settle_put_first g c =
    let was = c.requires.idle in
    let done = c.in-Ok-settle_put_first.ensures.done in
    record {
      idle = λ _. (done.2, ap (λ z. z.party.span) done.1);
      put = λ q is. absurd (let u : open_span.Idle ≡ open_span.Put q = sym was ∙ is in cc);
      take = λ q is. absurd (let u : open_span.Idle ≡ open_span.Take q = sym was ∙ is in cc);
      held = λ q is. absurd (let u : open_span.Idle ≡ open_span.Held q = sym was ∙ is in cc);
      hts = λ q is. absurd (let u : open_span.Idle ≡ open_span.Held q = sym was ∙ is in cc);
      so = λ some. recent_settled c.open_one.new.recent c.open_one.new.share.seat.me.0 c.settle_put_first.new.share.seat.me.0 c.at-target.result.index
          c.in-Ok.range.count Put c.in-Ok.range.start _ done.1 (c.in-Ok.ensures.recent some);
    }

pub invariant_of-self-in-Err-settle_put_first : goal.invariant_of-self-in-Err-settle_put_first
invariant_of-self-in-Err-settle_put_first g c =
    let r = c.at-target.result in
    let of = c.at-target.ensures in
    let ring = c.args.place.now.index in
    let range = c.in-Ok.range in
    let e = c.in-Err-settle_put_first.ensures in
    let h = c.in-Ok.ensures.started.2.1 in
    let here : Reserved = record { ring = ring; range = range } in
    let kept = e.refused.2.kept in
    let plans = kept.plans ∙ h.seated.plans in
    let known = plans ∙ ap rings_of of.of in
    record {
      idle = λ is. absurd (let u : open_span.Put here ≡ open_span.Idle = is in cc);
      put = λ q is.
          let same : here ≡ q = (let u : open_span.Put here ≡ open_span.Put q = is in cc) in
          subst (λ (z : Reserved). HasSpan g.row.N Put c.settle_put_first.new.share.seat z (none_in z)) same record {
            there = subst (λ n. ring < n) (ap length (sym known))
                (slice_get_within (rings_of c.args.fabric.now) ring _ c.requires.place.0);
            span = ap (λ p. p.span) kept.party ∙ (h.span ∙ ap (λ i. Some (span_of i Put range.start range.count)) of.index);
            slots = λ plan at. e.refused.0 ∙ (h.slots
                ∙ (λ i. run (slot_at (sym plans i) (of.index i) (plan_of r c.args.fabric.now ring of.of of.index plan (ap (λ ps. slice_get ps ring) (sym known) ∙ at) i))
                range.start (replicate range.count None)));
            many = λ is. absurd (let u : Put ≡ Take = is in cc);
            fits = λ more. let long : g.row.N < c.args.most = omega (arith, more, h.fits) in omega (arith, h.fits, c.requires.small long);
          };
      take = λ q is. absurd (let u : open_span.Put here ≡ open_span.Take q = is in cc);
      held = λ q is. absurd (let u : open_span.Put here ≡ open_span.Held q = is in cc);
      hts = λ q is. absurd (let u : open_span.Put here ≡ open_span.Held q = is in cc);
      so = λ some. absurd (let z : 0 < 0 = some in omega (arith, z));
    }

pub returns-in-Err-settle_put_first-clause-refused : goal.returns-in-Err-settle_put_first-clause-refused
returns-in-Err-settle_put_first-clause-refused g c =
    let tags = g.T.Tagged.numbers in
    let r = c.at-target.result in
    let of = c.at-target.ensures in
    let f = c.args.fabric.now in
    let ring = c.args.place.now.index in
    let range = c.in-Ok.range in
    let items = g.I.Items.items c.args.items.now in
    let e = c.in-Err-settle_put_first.ensures in
    let started = c.in-Ok.ensures.started in
    let h = started.2.1 in
    let v = c.open_one.new.share.seat.me.0 in
    let w = c.settle_put_first.new.share.seat.me.0 in
    let one : range.count ≤ 1 = subst (λ m. m ≤ 1) (sym h.starts.granted) (granted_few Bulk 1 _) in
    let long = taken_long range.count items (omega (arith, one, c.requires.one)) in (
      (
        started.0,
        started.2.0,
        started.1,
        refl,
        record {
          opened = v;
          start = opened_at tags r f ring of.of of.index Put c.args.most Bulk 1 started.0 c.open_one.new.share.seat (record range { left = started.2.0 }) h;
          shows = (h.empty refl, shown_kept tags _ _ _ _ _ _ v w c.in-Err-settle_put_first.fault e.refused.2.found ∙ h.empty refl);
          refused = subst (λ k. OnRing f ring (λ plan. IsUnsettled tags plan (span_of ring Put range.start range.count) k (take range.count items) v w
              c.in-Err-settle_put_first.fault)) (sym long)
              (unsettled_at tags r f ring of.of of.index Put range range.count (take range.count items) v w c.in-Err-settle_put_first.fault e.refused.2);
        },
      ),
      e.refused.1,
    )
