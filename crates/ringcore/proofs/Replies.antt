-- The replies, at what was found
use Rattle.std.proofs.Common.{ℕ, ◌≡◌, ◌∙◌, ap, true}
use Rattle.std.specs.Prelude.{Option, Some, None, if◌then◌else◌}
use Rattle.geom.specs.declared.plan.Side.{Side}
use Rattle.geom.specs.declared.plan.How.{How}
use Rattle.geom.specs.declared.plan.RingPlan.{RingPlan}
use Rattle.ringcore_laws.specs.declared.contents.Item.{Item}
use Rattle.ringcore_laws.specs.declared.protocol.Observed.{Observed}
use Rattle.ringcore_laws.specs.Party.{is_on}
use Rattle.ringcore_laws.specs.RingSide.{RingSide}
use Rattle.ringcore_laws.specs.History.{reserve_seen, seen_on, both_seen}

pub reply_seen : (plan : RingPlan) (ring : ℕ) (side : Side) (how : How) (count : ℕ) (l : RingSide Item) (had : ℕ) (o : Option Observed) (s : Observed) (t : ℕ)
    → o ≡ Some s → is_on s.ring s.side ring side ≡ true → s.tail_seen ≡ Some t
    → reserve_seen plan side how count l had (seen_on ring side o) ≡ reserve_seen plan side how count l had (Some (s.looked_at, t))
reply_seen plan ring side how count l had o s t seen on tail =
    ap (λ v. reserve_seen plan side how count l had (seen_on ring side v)) seen
    ∙ (ap (λ b. reserve_seen plan side how count l had (if b then both_seen s.looked_at s.tail_seen else None)) on
    ∙ ap (λ v. reserve_seen plan side how count l had (both_seen s.looked_at v)) tail)
