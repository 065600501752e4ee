-- What each event keeps of the actors: soundness, the order of reservations, and that looks are true. It holds after
-- every right history
use Rattle.std.specs.Prelude.{ℕ, ◌*◌, ◌<◌, ◌≤◌, ◌≡◌, List, length, slice_get, slice_index_or, Some}
use Rattle.geom.specs.declared.plan.Mode.TheVariants.{Hts}
use Rattle.geom.specs.declared.plan.RingPlan.{RingPlan}
use Rattle.geom.specs.Extent.{range_of}
use Rattle.geom.specs.Plan.{mode_of}
use Rattle.ringcore_laws.specs.declared.protocol.Observed.{Observed}
use Rattle.ringcore_laws.specs.declared.party.Party.{Party}
use Rattle.ringcore_laws.specs.RingSide.{side_of}
use Rattle.ringcore_laws.specs.Sound.{Sound}
use Rattle.ringcore_laws.specs.HeadTailRule.{HeadTailRule, base}
use Rattle.ringcore_laws.specs.History.{Actor, tags, parties_of, other_side, position_of}

-- a look that is true: an HTS word with nothing reserved, and a tail that once was there
pub record TrueObserved {I : Type 0} (plans : List RingPlan) (parties : List (Party I)) (s : Observed) : Type 0 where
  pub known : s.ring < length plans
  pub whole : (plan : RingPlan) → slice_get plans s.ring ≡ Some plan → mode_of plan s.side ≡ Hts → (q : ℕ)
      × (s.looked_at ≡ q * range_of plan.geometry)
  pub tail_seen : (t : ℕ) → s.tail_seen ≡ Some t → t ≤ (side_of parties s.ring (other_side s.side)).len

-- a look is at or below the position that the own word of its side shows now
abbrev pub IsBehind : {I : Type 0} → List RingPlan → List (Party I) → Observed → Type 0
IsBehind plans parties s = (plan : RingPlan) → slice_get plans s.ring ≡ Some plan
    → position_of plan.geometry (mode_of plan s.side) s.looked_at ≤ base (mode_of plan s.side) (side_of parties s.ring s.side)

-- what each event keeps
pub record Invariant (plans : List RingPlan) (pool : ℕ) (actors : List Actor) : Type 0 where
  pub sound : Sound tags plans pool (parties_of actors)
  pub ruled : HeadTailRule plans (parties_of actors)
  pub observations : (k : ℕ) (d : Actor) (s : Observed) → k < length actors
      → (slice_index_or actors k d).observed ≡ Some s → TrueObserved plans (parties_of actors) s
