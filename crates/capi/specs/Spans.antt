-- What calls on rings do to a hand, by its view
use Rattle.std.specs.Prelude.{◌≡◌, ℕ, ◌<◌, ◌≤◌, List, [], Option, None, Some, slice_get}
use Rattle.geom.specs.declared.plan.How.{How}
use Rattle.geom.specs.declared.plan.How.TheVariants.{Bulk, Burst}
use Rattle.geom.specs.declared.plan.Mode.{Mode}
use Rattle.geom.specs.declared.plan.Mode.TheVariants.{Hts, Multi}
use Rattle.geom.specs.declared.plan.RingPlan.{RingPlan}
use Rattle.geom.specs.declared.plan.Side.{Side}
use Rattle.geom.specs.Plan.{mode_of}
use Rattle.ringcore_laws.specs.declared.protocol.Span.{Span}
use Rattle.ringcore_laws.specs.Party.{with_open, with_settled}
use Rattle.fabric_laws.specs.declared.view.View.{View}
use Rattle.fabric.specs.declared.hand.StartFault.{StartFault}
use Rattle.fabric.specs.declared.hand.StartFault.TheVariants.{Busy, Contended, NoRoom, Worn, BadCount}
use Rattle.fabric.specs.Hands.{OnRing, rings_of}
use Rattle.fabric.specs.Starts.{RefusesStart, Starts}
use Rattle.fabric.specs.Views.{IsKept}
use Rattle.capi.specs.Members.{Rings}
use Rattle.capi.specs.declared.rings.fault.Fault.{Fault}
use Rattle.capi.specs.declared.rings.fault.Fault.TheVariants as fault
use Rattle.capi.specs.declared.rings.word64.Word64.{Word64}

-- words carry no buffer
abbrev pub tags : Word64 → List ℕ
tags word = []

-- how many words a call moves at most: on a multi side as many as any ring holds, on a head/tail-sync side as many as
-- its word counts
abbrev pub limit_of : Mode → ℕ
limit_of Multi = 1048575
limit_of Hts = 4095

abbrev pub limit_in : Option RingPlan → Side → ℕ
limit_in None side = 0
limit_in (Some plan) side = limit_of (mode_of plan side)

-- the same of a side of a ring
abbrev pub call_limit : Rings → ℕ → Side → ℕ
call_limit f ring side = limit_in (slice_get (rings_of f) ring) side

-- how many positions are reserved for n words: by bulk all, by burst at most as many
abbrev pub IsAsked : How → ℕ → ℕ → Type 0
IsAsked Bulk n count = count ≡ n
IsAsked Burst n count = count ≤ n

-- calls that move at most `most` words
module _ (f : Rings) (most : ℕ) (how : How) (n ring : ℕ) (side : Side) (v : View Word64) where
  -- The hand reserved a span of the side; of a take with these words. `left` positions more are free, or queued
  pub record HasReserved (span : Span) (left : ℕ) (shown : List Word64) (w : View Word64) : Type 0 where
    pub started : OnRing f ring (λ plan. Starts tags how n ring side plan v span.start span.count left shown w)
    pub at : (span.ring ≡ ring) × (span.side ≡ side)
    pub party : w.party ≡ with_open v.party span
    pub some : 0 < span.count
    pub few : span.count ≤ n
    pub fits : n ≤ most
    pub asked : IsAsked how n span.count

  -- it reserved none, for this reason
  pub record WasRefused (why : StartFault) (w : View Word64) : Type 0 where
    pub found : OnRing f ring (λ plan. RefusesStart tags most how n ring side plan v w why)
    pub kept : IsKept v w

-- the fault for a refused start
abbrev pub start_fault : StartFault → Fault
start_fault (Busy x) = fault.Again
start_fault (Contended x) = fault.Again
start_fault (NoRoom left) = fault.NoRoom
start_fault Worn = fault.Worn
start_fault BadCount = fault.Count

-- how many positions were free, or words queued, as a refused start found
abbrev pub room_of : StartFault → ℕ
room_of (Busy x) = 0
room_of (Contended x) = 0
room_of (NoRoom left) = left
room_of Worn = 0
room_of BadCount = 0

-- the open span was settled with these words, at its first positions
pub record HasSettled (span : Span) (words : List Word64) (v w : View Word64) : Type 0 where
  pub party : w.party ≡ with_settled v.party span words
  pub plans : w.plans ≡ v.plans
  pub pool : w.pool ≡ v.pool
  pub parts : w.parts ≡ v.parts

-- the span is open as before, and the settle found an earlier span of the side, a multi one, that isn't settled
pub record IsEarly (f : Rings) (span : Span) (v w : View Word64) : Type 0 where
  pub multi : OnRing f span.ring (λ plan. mode_of plan span.side ≡ Multi)
  pub tail : ℕ
  pub below : tail < span.start
  pub lost : w.lost ≡ Some tail
  pub kept : IsKept v w
