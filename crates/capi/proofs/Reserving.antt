-- Spans that a start reserved, and starts that were refused
use Rattle.std.proofs.Common.{◌≡◌, ◌<◌, arith, ℕ, List, length}
use Rattle.std.proofs.lemmas.Bool.Decides.{nat_tests}
use Rattle.geom.specs.declared.plan.How.{How}
use Rattle.geom.specs.declared.plan.How.TheVariants.{Bulk, Burst}
use Rattle.geom.specs.declared.plan.Side.{Side}
use Rattle.geom.specs.Plan.{granted, mode_of}
use Rattle.ringcore_laws.specs.declared.protocol.Span.{Span}
use Rattle.ringcore_laws.specs.History.{position_of, room_by_look}
use Rattle.ringcore_laws.specs.Party.{with_open}
use Rattle.fabric_laws.specs.declared.view.View.{View}
use Rattle.fabric.specs.Hands.{OnRing, rings_of}
use Rattle.fabric.specs.Starts.{MayStart, Starts}
use Rattle.fabric.proofs.Told.{granted_few, ring_at}
use Rattle.capi.specs.Members.{Rings}
use Rattle.capi.specs.Spans.{HasReserved, IsAsked, tags}
use Rattle.capi.specs.declared.rings.word64.Word64.{Word64}

found_room_of : (how : How) (n room count : ℕ) → count ≡ granted how n room → 0 < count → IsAsked how n count
found_room_of Bulk n room count is some = grind (arith, nat_tests)
found_room_of Burst n room count is some = omega (arith, is)

module _ (f : Rings) (most : ℕ) (how : How) (n ring : ℕ) (side : Side) (v : View Word64) where
  pub reserved_of : (span : Span) (left : ℕ) (shown : List Word64) (w : View Word64) → ring < length (rings_of f)
      → span.ring ≡ ring → span.side ≡ side
      → OnRing f ring (λ plan. Starts tags how n ring side plan v span.start span.count left shown w)
      → OnRing f ring (λ plan. MayStart tags most n side plan v) → w.party ≡ with_open v.party span
      → HasReserved f most how n ring side v span left shown w
  reserved_of span left shown w there at on starts may opened =
      let p = ring_at (rings_of f) ring there in
      let plan = p.0 in
      let s = starts plan p.1 in
      let room = room_by_look side plan.geometry.capacity (position_of plan.geometry (mode_of plan side) s.word) s.tail in
      record {
        started = starts;
        at = (at, on);
        party = opened;
        some = s.positive;
        few = omega (arith, s.granted, granted_few how n room);
        fits = (may plan p.1).1;
        asked = found_room_of how n room span.count s.granted s.positive;
      }
