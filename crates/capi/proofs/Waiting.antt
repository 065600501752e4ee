-- A take whose span stays open, since an earlier one isn't settled
use Rattle.std.proofs.Common.{◌≡◌, ◌<◌, ◌++◌, ℕ, List, Err, drop, inl, inr, length, refl, subst, sym}
use Rattle.geom.specs.declared.plan.How.{How}
use Rattle.geom.specs.declared.plan.Side.TheVariants.{Take}
use Rattle.fabric.specs.Hands.{rings_of}
use Rattle.fabric.specs.declared.hand.in_place.OpenSpan.{OpenSpan}
use Rattle.fabric.specs.declared.hand.in_place.OpenSpan.TheVariants as open_span
use Rattle.capi.specs.Calls.{Takes, Waits}
use Rattle.capi.specs.MemberCalls.{TakesWords}
use Rattle.capi.specs.Spans.{call_limit}
use Rattle.capi.specs.RingCalls.{KeepsRings, OnIdle, SameMember, member_view}
use Rattle.capi.specs.declared.rings.fault.Fault.TheVariants as fault
use Rattle.capi.specs.declared.rings.member.Member.{Member}
use Rattle.capi.specs.declared.rings.word64.Word64.{Word64}

pub take_waits : (ring : ℕ) (how : How) (before after shown : List Word64) (m u : Member) → ring < length (rings_of m.port.fabric.value)
    → m.port.hand.span ≡ open_span.Idle → KeepsRings m u → after ≡ shown ++ drop (length shown) before
    → Waits m.port.fabric.value (call_limit m.port.fabric.value ring Take) how (length before) ring Take (member_view m) u.left shown (member_view u)
    → TakesWords ring how before after m u (Err fault.Pending)
take_waits ring how before after shown m u there idle fabric copied waits =
    inr (
      there,
      subst (λ (s : OpenSpan). OnIdle s (Err fault.Pending) (SameMember m u × (after ≡ before)) (KeepsRings m u
          × Takes m.port.fabric.value how ring (member_view m) before after u.left (member_view u) (Err fault.Pending)))
          (sym idle) (fabric, inl (refl, shown, copied, waits)),
    )
