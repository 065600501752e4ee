-- How the open spans come after what is settled. With soundness, this is kept by each step
use Rattle.std.specs.Prelude.{ℕ, ◌+◌, ◌<◌, ◌≤◌, ◌≡◌, List, length, slice_get, slice_index_or, Some}
use Rattle.geom.specs.declared.plan.Mode.{Mode}
use Rattle.geom.specs.declared.plan.Mode.TheVariants.{Multi, Hts}
use Rattle.geom.specs.declared.plan.Side.{Side}
use Rattle.geom.specs.declared.plan.Side.TheVariants.{Put, Take}
use Rattle.geom.specs.declared.plan.RingPlan.{RingPlan}
use Rattle.geom.specs.Extent.{Extent, range_of}
use Rattle.geom.specs.Plan.{mode_of}
use Rattle.ringcore_laws.specs.declared.protocol.Span.{Span}
use Rattle.ringcore_laws.specs.declared.party.Party.{Party}
use Rattle.ringcore_laws.specs.RingSide.{RingSide, side_of}

module _ {I : Type 0} where
  -- The position that the own word of a side shows: on a multi side how far it is reserved, on an HTS side how far it
  -- is settled. It never goes back
  abbrev pub base : Mode → RingSide I → ℕ
  base Multi l = l.reach
  base Hts l = l.len

  -- a side of a ring: it reaches at least as far as it is settled, and on a multi side all positions from there up to
  -- its reach are reserved
  pub record RuledSide (e : Extent) (mode : Mode) (l : RingSide I) : Type 0 where
    pub behind : l.len ≤ l.reach
    pub last : l.reach ≤ e.last
    pub small : mode ≡ Hts → l.open_count < range_of e
    pub covered : mode ≡ Multi → (p : ℕ) → l.len ≤ p → p < l.reach → 0 < l.openers p

  -- an open span: on an HTS side it is the only one, and starts where the settled items end
  pub record RuledSpan (plans : List RingPlan) (parties : List (Party I)) (s : Span) : Type 0 where
    pub positive : 0 < s.count
    pub known : s.ring < length plans
    pub alone : (plan : RingPlan) → slice_get plans s.ring ≡ Some plan → mode_of plan s.side ≡ Hts
        → (s.start ≡ (side_of parties s.ring s.side).len) × (s.count ≡ (side_of parties s.ring s.side).open_count)

  pub record HeadTailRule (plans : List RingPlan) (parties : List (Party I)) : Type 0 where
    pub sides : (r : ℕ) (side : Side) (plan : RingPlan) → slice_get plans r ≡ Some plan
        → RuledSide plan.geometry (mode_of plan side) (side_of parties r side)
    pub room : (r : ℕ) (plan : RingPlan) → slice_get plans r ≡ Some plan
        → (side_of parties r Put).reach ≤ (side_of parties r Take).len + plan.geometry.capacity
    pub spans : (k : ℕ) (d : Party I) (s : Span) → k < length parties
        → (slice_index_or parties k d).span ≡ Some s → RuledSpan plans parties s
