use Rattle.std.proofs.Common.{◌≡◌, ◌∙◌, ap, rules, subst, sym}
use Rattle.fabric.specs.Hands.{rings_of}
use Rattle.fabric.specs.Places.{IsPlaceOf}
use Rattle.fabric.specs.declared.hand.in_place.OpenSpan.TheVariants as open_span
use Rattle.capi.specs.Members.{ArePlain, Rings}
use Rattle.capi.proofs.EndCalls.{closed_ends}
use Rattle.capi.proofs.rings.splitting.split.Goals as goal

pub invariant_of-second : goal.invariant_of-second
invariant_of-second c =
    let m = c.args.member in
    let u = c.draw-member.result.0 in
    let f = c.in-Ok-try_clone.fabric.value in
    let same : f ≡ m.port.fabric.value = search rules in
    let like : f ≡ u.port.fabric.value = same ∙ ap (λ a. a.value) (sym c.draw-member.ensures.like.fabric) in
    record {
      plain = subst (λ (f' : Rings). ArePlain (rings_of f')) (sym same) m.plain;
      shows = λ r is. absurd (let z : open_span.Idle ≡ open_span.Take r = sym c.of.ensures.idle ∙ is in cc);
      puts = subst (λ (f' : Rings). IsPlaceOf f' u.put_at) (sym like) u.puts;
      takes = subst (λ (f' : Rings). IsPlaceOf f' u.take_at) (sym like) u.takes;
      ended = closed_ends f u.put_at c.closed-ends.result c.closed-ends.ensures.at c.closed-ends.ensures.closed
          (subst (λ (f' : Rings). IsPlaceOf f' u.put_at) (sym like) u.puts);
      spare = search rules;
    }
