use Rattle.std.proofs.Common.{◌≡◌, ◌<◌, Ok, ap, inr, length, refl, rules, subst, sym, ◌∙◌}
use Rattle.std.specs.Prelude.{slice_get}
use Rattle.fabric.specs.Hands.{rings_of}
use Rattle.fabric.specs.InPlace.{placed_view}
use Rattle.capi.specs.Counts.{Looks}
use Rattle.capi.specs.Members.{Rings}
use Rattle.capi.specs.Spans.{tags}
use Rattle.capi.proofs.rings.member_calls.look.Goals as goal

pub returns : goal.returns
returns c =
    let m = c.args.member.now in
    let there : c.args.ring < length (rings_of m.port.fabric.value) = search rules in
    let same : c.deref.result.now ≡ m.port.fabric.value = search rules in
    inr (
      there,
      record { fabric = refl; span = c.look_at.ensures.span; shown = refl; left = refl; ends = refl },
      subst (λ (f : Rings). Looks tags f c.args.ring c.args.side (placed_view m.port.hand) (placed_view c.look_at.new.hand) (Ok c.look_at.result)) same
          c.look_at.ensures.found,
    )

pub invariant_of-member-2 : goal.invariant_of-member-2
invariant_of-member-2 c =
    let m = c.args.member.now in
    let view = c.look_at.ensures.found.0 in (
      search rules,
      (
        m.plain,
        (
          λ r is hts.
              let span = sym c.look_at.ensures.span ∙ is in
              let shown = m.shows r span (λ plan at. hts plan (ap (λ w. slice_get w.plans r.ring) view ∙ at)) in
              (shown.0, shown.1 ∙ ap (λ w. w.shown) (sym view)),
          (m.puts, (m.takes, (m.ended, (m.spare, search)))),
        ),
      ),
    )
