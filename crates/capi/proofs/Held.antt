-- The next words of an open span: of a put that are published, and of a side that is held
use Rattle.std.proofs.Common.{◌≡◌, ℕ, List, Ok, length, refl, subst, sym, take}
use Rattle.geom.specs.declared.plan.Side.TheVariants.{Put, Take}
use Rattle.fabric.specs.Held.{span_at}
use Rattle.fabric.specs.declared.hand.in_place.OpenSpan.{OpenSpan}
use Rattle.fabric.specs.declared.hand.in_place.OpenSpan.TheVariants as open_span
use Rattle.fabric.specs.declared.hand.in_place.Reserved.{Reserved}
use Rattle.capi.specs.Holding.{AdvancesPut, AdvancesTake, HasAdvanced, OnHeld, Publishes, TakesNext}
use Rattle.capi.specs.RingCalls.{KeepsRings, OnPut, SameMember, member_view}
use Rattle.capi.specs.declared.rings.member.Member.{Member}
use Rattle.capi.specs.declared.rings.word64.Word64.{Word64}

pub put_next : (words : List Word64) (m u : Member) (r rest : Reserved) (k : ℕ) → m.port.hand.span ≡ open_span.Put r
    → KeepsRings m u → u.port.hand.span ≡ open_span.Put rest
    → HasAdvanced (span_at Put r) words (member_view m) (member_view u) (span_at Put rest) → k ≡ length words → AdvancesPut words m u (Ok k)
put_next words m u r rest k here keeps still advanced all =
    subst (λ (s : OpenSpan). OnPut s (Ok k) (SameMember m u) (λ span. KeepsRings m u
    × Publishes (SameMember m u) m.port.fabric.value span (member_view m) words u.port.hand.span (member_view u) (Ok k)))
    (sym here) (keeps, (all, rest, still, advanced))

pub taken_next : (before after : List Word64) (m u : Member) (r rest : Reserved) → m.port.hand.span ≡ open_span.Held r
    → KeepsRings m u → after ≡ take (length before) (member_view m).shown → u.port.hand.span ≡ open_span.Held rest
    → HasAdvanced (span_at Take r) (take (length before) (member_view m).shown) (member_view m) (member_view u) (span_at Take rest)
    → AdvancesTake before after m u (Ok (length before))
taken_next before after m u r rest held fabric all still advanced =
    subst (λ (s : OpenSpan). OnHeld s (Ok (length before)) (SameMember m u × (after ≡ before)) (λ span. KeepsRings m u
    × TakesNext (SameMember m u) span (member_view m) before after u.port.hand.span (member_view u) (Ok (length before))))
    (sym held) (fabric, (refl, all, rest, still, advanced))
