-- Worked cases of calls on a side that is held, and what is none: each breaks one field of its definition
use Rattle.std.proofs.Common.{◌≡◌, ◌≢◌, ◌≤◌, ℕ, List, [], ◌∷◌, length, take, refl, sym, ap, ◌∙◌, inr, Ok, Err, arith}
use Rattle.geom.specs.declared.plan.How.{How}
use Rattle.geom.specs.declared.plan.Side.TheVariants.{Take}
use Rattle.ringcore_laws.specs.declared.protocol.Span.{Span}
use Rattle.fabric_laws.specs.Changes.{advanced, rest_of}
use Rattle.fabric_laws.specs.declared.view.View.{View}
use Rattle.fabric.specs.Held.{span_at}
use Rattle.fabric.specs.declared.hand.in_place.OpenSpan.{OpenSpan}
use Rattle.fabric.specs.declared.hand.in_place.OpenSpan.TheVariants as open_span
use Rattle.fabric.specs.declared.hand.in_place.Reserved.{Reserved}
use Rattle.capi.specs.Codes.{Outcome}
use Rattle.capi.specs.Holding.{HasAdvanced, IsHeldNow, OnHeld, Publishes, TakesLast, TakesNext}
use Rattle.capi.specs.Members.{Rings}
use Rattle.capi.specs.Spans.{HasReserved}
use Rattle.capi.specs.declared.rings.fault.Fault.TheVariants as fault
use Rattle.capi.specs.declared.rings.word64.Word64.{Word64}

-- a call of a hand that holds no take side, and one of a hand that does
not_held : (same : Type 0) (does : Span → Type 0) → same → OnHeld open_span.Idle (Err fault.NotOpen) same does
not_held same does s = (refl, s)

held : (same : Type 0) (does : Span → Type 0) (r : Reserved) (outcome : Outcome) → does (span_at Take r)
    → OnHeld (open_span.Held r) outcome same does
held same does r outcome done = done

idle_and_done : (same : Type 0) (does : Span → Type 0) → OnHeld open_span.Idle (Ok 1) same does → ⊥
idle_and_done same does is = absurd (let e : ◌≡◌ {A = Outcome} (Ok 1) (Err fault.NotOpen) = is.0 in cc)

-- advances that are none
module _ (span : Span) (words : List Word64) (v w : View Word64) (after : Span) where
  leaves_none_open : span.count ≤ length words → HasAdvanced span words v w after → ⊥
  leaves_none_open all is = absurd (omega (arith, all, is.fewer))

  publishes_others : w ≢ advanced span words v → HasAdvanced span words v w after → ⊥
  publishes_others other is = other is.view

  keeps_its_whole_span : after ≢ rest_of span (length words) → HasAdvanced span words v w after → ⊥
  keeps_its_whole_span other is = other is.rest

-- holds that are none
module _ (f : Rings) (how : How) (n ring : ℕ) (v : View Word64) (count left : ℕ) (at : OpenSpan) (w : View Word64) where
  holds_nothing : at ≡ open_span.Idle → IsHeldNow f how n ring v count left at w → ⊥
  holds_nothing none is = absurd (let e : open_span.Idle ≡ open_span.Held is.r = sym none ∙ is.held in cc)

  reserves_nothing : ((r : Reserved) → HasReserved f 4095 how n ring Take v (span_at Take r) left w.shown w → ⊥)
      → IsHeldNow f how n ring v count left at w → ⊥
  reserves_nothing none is = none is.r is.reserved

  tells_another_count : ((r : Reserved) → r.range.count ≢ count) → IsHeldNow f how n ring v count left at w → ⊥
  tells_another_count other is = other is.r is.many

  hides_words : length w.shown ≢ count → IsHeldNow f how n ring v count left at w → ⊥
  hides_words other is = other is.shown

module _ (same : Type 0) (span : Span) (v w : View Word64) where
  -- as many words as the span has positions: the last ones go by a finish, or a release
  put_of_all : (f : Rings) (words : List Word64) (at : OpenSpan) → same → span.count ≤ length words
      → Publishes same f span v words at w (Err fault.Count)
  put_of_all f words at s all = (s, inr (refl, all))

  take_of_all : (before : List Word64) (at : OpenSpan) → same → span.count ≤ length before
      → TakesNext same span v before before at w (Err fault.Count)
  take_of_all before at s all = (s, refl, refl, all)

  -- the next word is the first of those that are shown
  takes_another : (a b x z : Word64) (at : OpenSpan) → v.shown ≡ x ∷ b ∷ [] → z ≢ x
      → TakesNext same span v (a ∷ []) (z ∷ []) at w (Ok 1) → ⊥
  takes_another a b x z at shows other is = other (let e : z ∷ [] ≡ x ∷ [] = is.1 ∙ ap (take 1) shows in cc)

  -- a refused take leaves the array as it was
  writes_and_refuses : (a z : Word64) (at : OpenSpan) → a ≢ z → TakesNext same span v (a ∷ []) (z ∷ []) at w (Err fault.Count) → ⊥
  writes_and_refuses a z at other is = other (let e : z ∷ [] ≡ a ∷ [] = is.1 in cc)

  -- a release gives the side up
  still_held : (before after : List Word64) (r : Reserved) (count : ℕ)
      → TakesLast same span v before after (open_span.Held r) w (Ok count) → ⊥
  still_held before after r count is = absurd (let e : open_span.Held r ≡ open_span.Idle = is.3 in cc)
