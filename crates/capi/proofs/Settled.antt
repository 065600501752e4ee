-- Settles of open spans, and whole calls
use Rattle.std.proofs.Common.{◌≡◌, ◌<◌, ◌≤◌, ◌⊎◌, arith, ℕ, List, Option, [], ◌∷◌, Bool, true, false, inl, inr, length, refl, ap, subst, sym, ◌∙◌}
use Rattle.std.specs.Prelude.{slice_get}
use Rattle.std.specs.List.{flat_map}
use Rattle.geom.specs.declared.plan.How.{How}
use Rattle.geom.specs.declared.plan.How.TheVariants.{Bulk}
use Rattle.geom.specs.declared.plan.Mode.{Mode}
use Rattle.geom.specs.declared.plan.Mode.TheVariants.{Hts, Multi}
use Rattle.geom.specs.declared.plan.RingPlan.{RingPlan}
use Rattle.geom.specs.declared.plan.Side.{Side}
use Rattle.geom.specs.Plan.{mode_of}
use Rattle.ringcore_laws.specs.declared.protocol.Span.{Span}
use Rattle.ringcore_laws.specs.Sound.{occurrences_in}
use Rattle.fabric_laws.specs.declared.view.View.{View}
use Rattle.fabric_laws.specs.Changes.{settled}
use Rattle.fabric.specs.declared.hand.SettleFault.{SettleFault}
use Rattle.fabric.specs.declared.hand.SettleFault.TheVariants.{BadCount, NotYet, NotYours}
use Rattle.fabric.specs.declared.hand.StartFault.{StartFault}
use Rattle.fabric.specs.declared.hand.StartFault.TheVariants as start
use Rattle.fabric.specs.declared.hand.in_place.Reserved.{Reserved}
use Rattle.fabric.specs.Advances.{RefusesAdvance}
use Rattle.fabric.specs.Hands.{OnRing, rings_of}
use Rattle.fabric.specs.Held.{span_at}
use Rattle.fabric.specs.Refused.{IsRefused, IsUnsettled}
use Rattle.fabric.specs.Settles.{AreNotYours, IsCount}
use Rattle.fabric.specs.Starts.{RefusesStart}
use Rattle.fabric.specs.WholeCalls.{HasMoved, HasOpen, StaysOpen}
use Rattle.fabric.proofs.Told.{ring_at}
use Rattle.capi.specs.Calls.{Moves, Refuses, Waits}
use Rattle.capi.specs.Members.{ArePlain, Rings}
use Rattle.capi.specs.Spans.{HasReserved, HasSettled, IsEarly, call_limit, limit_in, limit_of, room_of, start_fault, tags}
use Rattle.capi.specs.declared.rings.fault.Fault.{Fault}
use Rattle.capi.specs.declared.rings.word64.Word64.{Word64}
use Rattle.capi.proofs.Reserving.{reserved_of}

-- words carry no buffer
none_carried : (b : ℕ) (words : List Word64) → occurrences_in tags b words ≡ 0
none_carried b [] = refl
none_carried b (x ∷ words) = none_carried b words

pub none_tagged : (words : List Word64) → flat_map tags words ≡ []
none_tagged [] = refl
none_tagged (x ∷ words) = none_tagged words

not_none : (n k : ℕ) → n < k → k ≡ 0 → ⊥
not_none n k low none = omega (arith, low, none)

true_false : (b : Bool) → b ≡ true → b ≡ false → ⊥
true_false true e h = let z : false ≡ true = sym h in cc
true_false false e h = let z : false ≡ true = e in cc

yours : (plan : RingPlan) (v : View Word64) (words : List Word64) → plan.free ≡ false → AreNotYours tags plan v words → ⊥
yours plan v words plain (inl x) = not_none _ _ x.1 (none_carried x.0 words)
yours plan v words plain (inr x) = true_false plan.free x.0 plain

-- an advance of a put by fewer words than the span has positions isn't refused
pub advances : (plan : RingPlan) (k count : ℕ) (words : List Word64) (v w : View Word64) (e : SettleFault) → plan.free ≡ false
    → k < count → RefusesAdvance tags plan k count words v w e → ⊥
advances plan k count words v w BadCount plain fewer refused = omega (arith, fewer, refused.0)
advances plan k count words v w NotYours plain fewer refused = yours plan v words plain refused.1
advances plan k count words v w (NotYet x) plain fewer refused = refused

pub all_fit : (mode : Mode) (k count : ℕ) → k ≡ count → IsCount mode k count
all_fit Multi k count all = all
all_fit Hts k count all = omega (arith, all)

-- a settle of as many words as may be is refused for one reason: an earlier span of the side isn't settled
module _ (f : Rings) (ring k : ℕ) (side : Side) (r : Reserved) (words : List Word64) (v w : View Word64) (at : r.ring ≡ ring)
    (there : ring < length (rings_of f)) (plain : ArePlain (rings_of f)) (fits : OnRing f ring (λ plan. IsCount (mode_of plan side) k r.range.count)) where
  pub early_of : (e : SettleFault)
      → OnRing f ring (λ plan. IsUnsettled tags plan (span_at side r) k words v w e) → IsEarly f (span_at side r) v w
  early_of BadCount refused =
      let p = ring_at (rings_of f) ring there in
      absurd ((refused p.0 p.1).found.0 (fits p.0 p.1))
  early_of NotYours refused =
      let p = ring_at (rings_of f) ring there in
      absurd (yours p.0 v words (plain ring p.0 p.1) (refused p.0 p.1).found.1)
  early_of (NotYet x) refused =
      let p = ring_at (rings_of f) ring there in
      let is = refused p.0 p.1 in
      record {
        multi = λ plan on. (refused plan (sym (ap (slice_get (rings_of f)) at) ∙ on)).found.0;
        tail = x;
        below = is.found.2;
        lost = ap (λ (u : View Word64). u.lost) is.found.3;
        kept = is.kept;
      }

pub settled_of : (span : Span) (words : List Word64) (v w : View Word64) → w ≡ settled span words v → HasSettled span words v w
settled_of span words v w is = record {
  party = ap (λ (u : View Word64). u.party) is;
  plans = ap (λ (u : View Word64). u.plans) is;
  pool = ap (λ (u : View Word64). u.pool) is;
  parts = ap (λ (u : View Word64). u.parts) is;
}

-- whole calls that reserved at most `most` positions, which makes no difference to this count
module _ (f : Rings) (most : ℕ) (how : How) (n ring : ℕ) (v : View Word64) (side : Side) (r : Reserved) (there : ring < length (rings_of f))
    (fits : n ≤ most → n ≤ call_limit f ring side) where
  reserved_in : (w : View Word64) → HasOpen tags f most how n ring v side r w
      → HasReserved f (call_limit f ring side) how n ring side v (span_at side r) r.range.left w.shown w
  reserved_in w h =
      reserved_of f (call_limit f ring side) how n ring side v (span_at side r) r.range.left w.shown w there h.at refl h.starts
      (λ plan at. ((h.may plan at).0, fits (h.may plan at).1, (h.may plan at).2)) h.party

  pub few_in : (w : View Word64) → HasOpen tags f most how n ring v side r w → (r.range.count ≤ n) × (n ≤ call_limit f ring side)
  few_in w h = let is = reserved_in w h in (is.few, is.fits)

  -- a whole call that was made, and one whose span stays open
  pub moved_of : (shown words : List Word64) (u : View Word64) → HasMoved tags f most how n ring v side r shown words u
      → Moves f (call_limit f ring side) how n ring side v r.range.count r.range.left shown words u
  moved_of shown words u m = record {
    span = span_at side r;
    opened = m.opened;
    reserved = subst (λ (l : List Word64). HasReserved f (call_limit f ring side) how n ring side v (span_at side r) r.range.left l m.opened) m.shows
        (reserved_in m.opened m.start);
    many = refl;
    settled = settled_of (span_at side r) words m.opened u m.settle;
  }

  pub waits_of : (k : ℕ) (shown words : List Word64) (u : View Word64) (e : SettleFault) → ArePlain (rings_of f)
      → ((mode : Mode) → IsCount mode k r.range.count) → StaysOpen tags f most how n ring v side r k shown words u e
      → Waits f (call_limit f ring side) how n ring side v r.range.left shown u
  waits_of k shown words u e plain all s = record {
    span = span_at side r;
    opened = s.opened;
    reserved = subst (λ (l : List Word64). HasReserved f (call_limit f ring side) how n ring side v (span_at side r) r.range.left l s.opened) s.shows.0
        (reserved_in s.opened s.start);
    early = early_of f ring k side r words s.opened u s.start.at there plain (λ plan _. all (mode_of plan side)) e s.refused;
  }

-- a refusal says the same by another limit that a count of `n` keeps
bad_count : (most limit n : ℕ) (X : Type 0) → n ≤ limit → (n ≤ limit → n ≤ most) → (n ≡ 0) ⊎ ((most < n) ⊎ X) → (n ≡ 0) ⊎ ((limit < n) ⊎ X)
bad_count most limit n X fits to (inl none) = inl none
bad_count most limit n X fits to (inr (inl more)) = absurd (omega (arith, more, to fits))
bad_count most limit n X fits to (inr (inr few)) = inr (inr few)

by_limit : (most limit : ℕ) (how : How) (n ring : ℕ) (side : Side) (plan : RingPlan) (v w : View Word64) (e : StartFault) → n ≤ limit
    → (n ≤ limit → n ≤ most) → RefusesStart tags most how n ring side plan v w e → RefusesStart tags limit how n ring side plan v w e
by_limit most limit how n ring side plan v w (start.Busy x) fits to refused = refused
by_limit most limit how n ring side plan v w (start.Contended x) fits to refused = refused
by_limit most limit how n ring side plan v w (start.NoRoom left) fits to refused = refused
by_limit most limit how n ring side plan v w start.Worn fits to refused = refused
by_limit most limit how n ring side plan v w start.BadCount fits to refused = (bad_count most limit n _ fits to refused.0, refused.1)

limit_some : (m : Mode) → 1 ≤ limit_of m
limit_some Multi = omega arith
limit_some Hts = omega arith

-- a start of one position that was refused
pub refused_one : (f : Rings) (most ring : ℕ) (side : Side) (v w : View Word64) (e : StartFault) (why : Fault) → why ≡ start_fault e
    → ring < length (rings_of f) → (1 ≤ call_limit f ring side → 1 ≤ most) → OnRing f ring (λ plan. IsRefused tags most Bulk 1 ring side plan v w e)
    → Refuses f (call_limit f ring side) Bulk 1 ring side v why (room_of e) w
refused_one f most ring side v w e why is there to refused =
    let p = ring_at (rings_of f) ring there in
    let some : 1 ≤ call_limit f ring side = subst (λ (o : Option RingPlan). 1 ≤ limit_in o side) (sym p.1) (limit_some (mode_of p.0 side)) in
    record {
      reason = e;
      named = is;
      found = refl;
      refused = record {
        found = λ plan at. by_limit most (call_limit f ring side) Bulk 1 ring side plan v w e some to (refused plan at).steps;
        kept = (refused p.0 p.1).kept;
      };
    }
