-- Calls of ends, from what their steps did
use Rattle.std.proofs.Common.{◌≡◌, ◌<◌, ℕ, List, [], ◌∷◌, Ok, inl, inr, subst, sym, ◌∙◌}
use Rattle.geom.specs.declared.plan.How.TheVariants.{Burst}
use Rattle.geom.specs.declared.plan.Side.TheVariants.{Put, Take}
use Rattle.fabric.specs.Held.{span_at}
use Rattle.fabric.specs.Places.{IsPlaceOf}
use Rattle.fabric.specs.declared.place.Place.{Place}
use Rattle.fabric.specs.declared.hand.in_place.OpenSpan.{OpenSpan}
use Rattle.fabric.specs.declared.hand.in_place.OpenSpan.TheVariants as open_span
use Rattle.fabric.specs.declared.hand.in_place.Reserved.{Reserved}
use Rattle.capi.specs.Calls.{PutsOne, TakesOne}
use Rattle.capi.specs.Codes.{Outcome}
use Rattle.capi.specs.EndCalls.{NotTaken, PutsAlone, PutsHeld, PutsNext, TakesAlone, TakesHeld, TakesNextWord}
use Rattle.capi.specs.Ends.{AreEndsOf}
use Rattle.capi.specs.Members.{Rings}
use Rattle.capi.specs.declared.rings.end.Ends.{Ends}
use Rattle.capi.specs.declared.rings.end.EndState.TheVariants.{Closed, Holds}
use Rattle.capi.specs.Holding.{HasAdvanced, HoldsTake, OnHeld, TakesNext}
use Rattle.capi.specs.MemberCalls.{OpensPut}
use Rattle.capi.specs.RingCalls.{KeepsRings, OnIdle, SameMember, member_view}
use Rattle.capi.specs.declared.rings.member.Member.{Member}
use Rattle.capi.specs.declared.rings.word64.Word64.{Word64}
use Rattle.capi.proofs.Held.{put_next}

-- ends that aren't open stand at any ring of a set
pub closed_ends : (f : Rings) (at : Place) (e : Ends) → (e.put.at ≡ at) × (e.take.at ≡ at)
    → (e.put.state ≡ Closed) × (e.take.state ≡ Closed) → IsPlaceOf f at → AreEndsOf f e
closed_ends f at e ats shut place = (
  (subst (λ (p : Place). IsPlaceOf f p) (sym ats.0) place, λ n holds. absurd (let z : Closed ≡ Holds n = sym shut.0 ∙ holds in cc)),
  (subst (λ (p : Place). IsPlaceOf f p) (sym ats.1) place, λ n holds. absurd (let z : Closed ≡ Holds n = sym shut.1 ∙ holds in cc)),
)

module _ (ring : ℕ) (word : Word64) (m u : Member) where
  pub alone_put : (outcome : Outcome) → m.port.hand.span ≡ open_span.Idle → KeepsRings m u
      → PutsOne m.port.fabric.value ring (member_view m) word (member_view u) outcome → PutsAlone ring word m u outcome
  alone_put outcome idle keeps puts =
      subst (λ (s : OpenSpan). OnIdle s outcome (SameMember m u) (KeepsRings m u
      × PutsOne m.port.fabric.value ring (member_view m) word (member_view u) outcome)) (sym idle) (keeps, puts)

  pub advanced_put : (r rest : Reserved) (k : ℕ) → m.port.hand.span ≡ open_span.Put r → r.ring ≡ ring → 1 < r.range.count
      → KeepsRings m u → u.port.hand.span ≡ open_span.Put rest
      → HasAdvanced (span_at Put r) (word ∷ []) (member_view m) (member_view u) (span_at Put rest) → k ≡ 1
      → PutsNext ring word m.port.hand.span m u (Ok k)
  advanced_put r rest k here at more keeps still advanced one =
      subst (λ (s : OpenSpan). PutsNext ring word s m u (Ok k)) (sym here)
      (inr (inl (at, more, put_next (word ∷ []) m u r rest k here keeps still advanced one)))

  pub first_put : (mid : Member) (most k : ℕ) (outcome : Outcome) → m.port.hand.span ≡ open_span.Idle
      → OpensPut ring Burst most m mid (Ok k) → PutsNext ring word mid.port.hand.span mid u outcome
      → PutsHeld ring word most m.port.hand.span m u outcome
  first_put mid most k outcome idle opened next =
      subst (λ (s : OpenSpan). PutsHeld ring word most s m u outcome) (sym idle) (inr (mid, k, opened, next))

module _ (ring : ℕ) (before after : List Word64) (m u : Member) where
  pub alone_take : (outcome : Outcome) → m.port.hand.span ≡ open_span.Idle → KeepsRings m u
      → TakesOne m.port.fabric.value ring (member_view m) before after (member_view u) outcome
      → TakesAlone ring before after m u outcome
  alone_take outcome idle keeps takes =
      subst (λ (s : OpenSpan). OnIdle s outcome (NotTaken ring before after m u) (KeepsRings m u
      × TakesOne m.port.fabric.value ring (member_view m) before after (member_view u) outcome)) (sym idle) (keeps, takes)

  pub advanced_take : (r : Reserved) (k : ℕ) → m.port.hand.span ≡ open_span.Held r → r.ring ≡ ring → 1 < r.range.count
      → KeepsRings m u
      → TakesNext (SameMember m u) (span_at Take r) (member_view m) before after u.port.hand.span (member_view u) (Ok k)
      → TakesNextWord ring before after m.port.hand.span m u (Ok k)
  advanced_take r k held at more keeps next =
      subst (λ (s : OpenSpan). TakesNextWord ring before after s m u (Ok k)) (sym held)
      (inr (inl (
        at,
        more,
        subst (λ (s : OpenSpan). OnHeld s (Ok k) (SameMember m u × (after ≡ before)) (λ span. KeepsRings m u
            × TakesNext (SameMember m u) span (member_view m) before after u.port.hand.span (member_view u) (Ok k))) (sym held) (keeps, next),
      )))

  pub first_take : (mid : Member) (most k : ℕ) (outcome : Outcome) → m.port.hand.span ≡ open_span.Idle
      → HoldsTake ring Burst most m mid (Ok k) → TakesNextWord ring before after mid.port.hand.span mid u outcome
      → TakesHeld ring before after most m.port.hand.span m u outcome
  first_take mid most k outcome idle held next =
      subst (λ (s : OpenSpan). TakesHeld ring before after most s m u outcome) (sym idle) (inr (mid, k, held, next))
