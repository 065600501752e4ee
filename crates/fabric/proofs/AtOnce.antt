-- Reserving one position at once
use Rattle.std.proofs.Common.{◌≡◌, ◌≢◌, ℕ, ◌+◌, ◌-◌, ◌%◌, ◌<◌, ◌≤◌, inl, inr, List, [], ◌++◌, length, map, replicate, refl, sym, ap, ◌∙◌, subst, arith, append-nil}
use Rattle.std.proofs.Common.{Option, Some, None}
use Rattle.std.proofs.lemmas.Bool.Decides.{eqb_tells, nat_tests}
use Rattle.std.specs.Prelude.{slice_get}
use mathlib.Core.Option.{none}
use Rattle.atomic_table.specs.Table.{step}
use Rattle.atomic_table.specs.declared.shared.Seat.{Seat}
use Rattle.geom.specs.declared.plan.How.{How}
use Rattle.geom.specs.declared.plan.How.TheVariants.{Bulk}
use Rattle.geom.specs.declared.plan.Mode.TheVariants.{Hts}
use Rattle.geom.specs.declared.plan.RingPlan.{RingPlan}
use Rattle.geom.specs.declared.plan.Side.{Side}
use Rattle.geom.specs.declared.plan.Side.TheVariants.{Put, Take}
use Rattle.geom.specs.Extent.{range_of}
use Rattle.geom.specs.Plan.{granted, mode_of}
use Rattle.ringcore_laws.specs.declared.protocol.Observed.{Observed}
use Rattle.ringcore_laws.specs.FreeRings.{AreSingle}
use Rattle.ringcore_laws.specs.History.{position_of, room_by_look}
use Rattle.ringcore_laws.specs.Party.{with_open}
use Rattle.ringcore_laws.proofs.Laws.{same_plan}
use Rattle.fabric_laws.specs.declared.view.View.{View}
use Rattle.fabric_laws.specs.Changes.{loaded, looked, reserved, view_after_room}
use Rattle.fabric_laws.specs.Kinds.{at_once_tells, reserve_tells}
use Rattle.fabric_laws.specs.Words.{own_at}
use Rattle.fabric_laws.proofs.Lanes.{own_same}
use Rattle.fabric.specs.declared.hand.recent.Recent.{Recent}
use Rattle.fabric.specs.declared.ring.Positions.{Positions}
use Rattle.fabric.specs.declared.ring.Ring.{Ring}
use Rattle.fabric.specs.AtOnce.{FoundRoomLast, HasReservedOne, HasStartedOne, IsRecent, tail_in, word_in}
use Rattle.fabric.specs.OpenSpans.{HasStarted}
use Rattle.fabric.specs.Rings.{HasReserved, IsSameSeat, IsSeated, slot_values, slots_of}
use Rattle.fabric.specs.Starts.{MayStart, Starts}
use Rattle.fabric.specs.Views.{HasFoundRoom, span_of}
use Rattle.fabric.proofs.Calls.{reserved_as, told_ring}
use Rattle.fabric.proofs.Starting.{GoesOn}

-- what room was found last, as a fact of one tail, and back
pub found_room_of : {T : Type 0} (ring : ℕ) (side : Side) (v : View T) → FoundRoomLast ring side v → HasFoundRoom ring side (tail_in v.observed) v
found_room_of ring side v is = (
  record { ring = ring; side = side; looked_at = word_in v.observed; tail_seen = Some (tail_in v.observed) },
  is,
  refl,
  refl,
  refl,
)

pub found_room_last : {T : Type 0} (ring : ℕ) (side : Side) (word tail : ℕ) (v : View T)
    → v.observed ≡ Some record { ring = ring; side = side; looked_at = word; tail_seen = Some tail } → FoundRoomLast ring side v × (tail_in v.observed ≡ tail)
found_room_last ring side word tail v is = (
  is ∙ ap (λ (z : Option Observed). Some record { ring = ring; side = side; looked_at = word_in z; tail_seen = Some (tail_in z) }) (sym is),
  ap tail_in is,
)

-- what a hand remembers is so, if it is so of one side
pub recent_at : {T : Type 0} (m : Recent) (v : View T) (ring : ℕ) (side : Side) (plan : RingPlan) → m.own ≡ own_at ring side
    → slice_get v.plans ring ≡ Some plan → FoundRoomLast ring side v
    → m.left ≤ room_by_look side plan.geometry.capacity (position_of plan.geometry (mode_of plan side) m.word) (tail_in v.observed)
    → (mode_of plan side ≡ Hts → m.word % range_of plan.geometry ≡ 0) → IsRecent m v
recent_at m v ring side plan own at asked room whole ring' side' plan' own' at' =
    let to = own_same ring side ring' side' (sym own ∙ own') in
    let is_plan : plan ≡ plan' = same_plan (sym at ∙ (ap (slice_get v.plans) to.0 ∙ at')) in (
      subst (λ (z : ℕ × Side). FoundRoomLast z.0 z.1 v) (λ k. (to.0 k, to.1 k)) asked,
      subst (λ (z : Side × RingPlan). m.left ≤ room_by_look z.0 z.1.geometry.capacity (position_of z.1.geometry (mode_of z.1 z.0) m.word) (tail_in v.observed))
          (λ k. (to.1 k, is_plan k)) room,
      subst (λ (z : Side × RingPlan). mode_of z.1 z.0 ≡ Hts → m.word % range_of z.1.geometry ≡ 0) (λ k. (to.1 k, is_plan k)) whole,
    )

-- more room by a later tail
pub room_grows : (side : Side) (capacity start a b : ℕ) → a ≤ b → 0 < room_by_look side capacity start a → 0 < room_by_look side capacity start b
room_grows Put capacity start a b le h = omega (arith, le, h)
room_grows Take capacity start a b le h = omega (arith, le, h)

-- one position less, by a later tail
room_after : (side : Side) (capacity start a b m n : ℕ) → a ≤ b → n ≡ m - 1 → m ≤ room_by_look side capacity start a
    → n ≤ room_by_look side capacity (start + 1) b
room_after Put capacity start a b m n le is h = omega (arith, le, is, h)
room_after Take capacity start a b m n le is h = omega (arith, le, is, h)

-- what a start leaves, from the position after it on
rest_is : (side : Side) (capacity start count tail left : ℕ) → left ≡ room_by_look side capacity start tail - count
    → left ≤ room_by_look side capacity (start + count) tail
rest_is Put capacity start count tail left is = omega (arith, is)
rest_is Take capacity start count tail left is = omega (arith, is)

one_granted : (room : ℕ) → 0 < room → granted Bulk 1 room ≡ 1
one_granted room some = grind (arith, nat_tests)

module _ {T : Type 0} {N : ℕ} {S : Type 0} (tags : T → List ℕ) (r : Ring T N S) (side : Side) (word slots i : ℕ) (s t : Seat (Option T) (View T))
    (seat : IsSeated r s) (at : i ≡ own_at r.index side) where
  abbrev plan : RingPlan
  plan = r.shape.now.plan

  abbrev start : ℕ
  start = position_of plan.geometry (mode_of plan side) word

  -- what the exchange tells of the slots and the view, by side
  has_reserved : (x : ℕ) (u : View T) → u.plans ≡ s.me.0.plans → x ≡ word → reserve_tells tags side (step slots i word (word + 1) none) (u, s.me.1) x t.me
      → HasReserved tags r side start 1 (record s { me = (u, s.me.1) }) t
  has_reserved x u same hit tells = by_side side refl at tells
    where
      known : slice_get u.plans r.index ≡ Some plan
      known = told_ring u.plans r.fabric.now.plan.rings.items r.index plan (same ∙ seat.plans) r.in_plan.0

      by_side : (d : Side) → side ≡ d → i ≡ own_at r.index d → reserve_tells tags d (step slots i word (word + 1) none) (u, s.me.1) x t.me
          → HasReserved tags r d (position_of plan.geometry (mode_of plan d) word) 1 (record s { me = (u, s.me.1) }) t
      by_side Put e own put =
          let won = (put r.index 1 plan own refl known).0 hit in
          let shown : t.me.0.shown ≡ [] = ap (λ (z : View T). z.shown) won.0 in
          record {
            view = won.0 ∙ ap (λ l. reserved (span_of r.index Put (position_of plan.geometry plan.put word) 1) l u) (sym shown);
            slots = won.1 ∙ reserved_as u.plans r.fabric.now.plan.rings.items r.index plan (position_of plan.geometry plan.put word) (replicate 1 None) s.me.1 (same ∙ seat.plans);
            empty = λ _. shown;
            full = λ is. absurd (let z : Put ≡ Take = is in cc);
            single = λ is _. absurd (let z : Put ≡ Take = is in cc);
          }
      by_side Take e own take =
          let won = (take r.index 1 plan own refl known).0 hit in
          let items : List T = won.0 in
          let shown : t.me.0.shown ≡ items = ap (λ (z : View T). z.shown) won.2 in
          record {
            view = won.2 ∙ ap (λ l. reserved (span_of r.index Take (position_of plan.geometry plan.take word) 1) l u) (sym shown);
            slots = won.3 ∙ reserved_as u.plans r.fabric.now.plan.rings.items r.index plan (position_of plan.geometry plan.take word) (map Some items) s.me.1 (same ∙ seat.plans)
                ∙ ap (λ l. slots_of r (position_of plan.geometry plan.take word) (map Some l) ++ s.me.1) (sym shown);
            empty = λ is. absurd (let z : Take ≡ Put = is in cc);
            full = λ _. ap length shown ∙ won.1;
            single = λ _ free. subst (AreSingle tags) (sym shown) (won.4 free);
          }

  pub reserved_one : (x n : ℕ) → HasFoundRoom r.index side n s.me.0 → (mode_of plan side ≡ Hts → word % range_of plan.geometry ≡ 0)
      → at_once_tells tags (step slots i word (word + 1) none) s.me x t.me → x ≡ word → HasReservedOne tags r side word s t
  reserved_one x n asked whole tells hit =
      let known : slice_get s.me.0.plans r.index ≡ Some plan = told_ring s.me.0.plans r.fabric.now.plan.rings.items r.index plan seat.plans r.in_plan.0 in
      let won = (tells r.index side plan asked.0 n at known asked.1 asked.2 asked.3 asked.4).0 hit in
      let u : View T = view_after_room won.0 (looked r.index side word s.me.0) in
      record {
        tail = won.0;
        seen = u;
        found = record { view = refl; own = won.2; other = won.3; whole = whole; room = won.4 };
        more = λ m other.
            let same : asked.0 ≡ other.0 = same_plan (sym asked.1 ∙ other.1) in
            let is : n ≡ m = same_plan (sym asked.4 ∙ (ap (λ (z : Observed). z.tail_seen) same ∙ other.4)) in
            omega (arith, is, won.1);
        reserved = has_reserved x u refl hit won.5;
      }

  module _ (same : IsSameSeat s t) where
    -- the hand goes on, with a span or with one more load
    pub goes_on : (x : ℕ) → (x ≡ word → HasReservedOne tags r side word s t) → (x ≢ word → (t.me.0 ≡ loaded s.me.0) × (t.me.1 ≡ s.me.1)) → GoesOn s.me.0 t.me.0
    goes_on x won lost = elim (eqb_tells x word) [
      | inl hit ↦
          let h = won hit.1 in
          let view = h.reserved.view in
          record {
            parts = ap (λ z. z.parts) view ∙ ap (λ z. z.parts) h.found.view;
            pool = ap (λ z. z.pool) view ∙ ap (λ z. z.pool) h.found.view;
            party = inr (
              span_of r.index side start 1,
              ap (λ z. z.party) view ∙ ap (λ (z : View T). with_open z.party (span_of r.index side start 1)) h.found.view,
            );
          }
      | inr miss ↦
          let is = (lost miss.1).0 in
          record { parts = ap (λ z. z.parts) is; pool = ap (λ z. z.pool) is; party = inl (ap (λ z. z.party) is) }
    ]

    module _ (h : HasReservedOne tags r side word s t) where
      -- what it remembers then is so
      pub recent_on : (recent next : Recent) → recent.own ≡ own_at r.index side → next.own ≡ recent.own → recent.word ≡ word
          → position_of plan.geometry (mode_of plan side) next.word ≡ start + 1
          → (mode_of plan side ≡ Hts → next.word % range_of plan.geometry ≡ 0) → next.left ≡ recent.left - 1 → 0 < recent.left
          → IsRecent recent s.me.0 → IsRecent next t.me.0
      recent_on recent next own same_own from further whole less some is =
          let plans : t.me.0.plans ≡ s.me.0.plans = ap (λ z. z.plans) h.reserved.view ∙ ap (λ z. z.plans) h.found.view in
          let known : slice_get s.me.0.plans r.index ≡ Some plan = told_ring s.me.0.plans r.fabric.now.plan.rings.items r.index plan seat.plans r.in_plan.0 in
          let old = is r.index side plan own known in
          let saw : ℕ = tail_in s.me.0.observed in
          let there : recent.left ≤ room_by_look side plan.geometry.capacity start saw =
          subst (λ (w : ℕ). recent.left ≤ room_by_look side plan.geometry.capacity (position_of plan.geometry (mode_of plan side) w) saw) from old.1 in
          let now = found_room_last r.index side word h.tail t.me.0 (ap (λ z. z.observed) h.reserved.view ∙ ap (λ z. z.observed) h.found.view) in
          let room : next.left ≤ room_by_look side plan.geometry.capacity (position_of plan.geometry (mode_of plan side) next.word) (tail_in t.me.0.observed) =
          subst (λ (z : ℕ × ℕ). next.left ≤ room_by_look side plan.geometry.capacity z.0 z.1) (λ k. (sym further k, sym now.1 k))
          (room_after side plan.geometry.capacity start saw h.tail recent.left next.left (h.more saw (found_room_of r.index side s.me.0 old.0)) less there) in
          recent_at next t.me.0 r.index side plan (same_own ∙ own) (ap (λ l. slice_get l r.index) plans ∙ known) now.0 room whole

      pub started_one : (most n : ℕ) (range : Positions) → range.start ≡ start → range.count ≡ 1 → s.me.1 ≡ [] → HasFoundRoom r.index side n s.me.0
          → 0 < room_by_look side plan.geometry.capacity start n → start < plan.geometry.last → MayStart tags most 1 side plan s.me.0
          → HasStartedOne tags most side r s.me.0 t range
      started_one most n range first one no_slots asked room low may = (
        room_by_look side plan.geometry.capacity start h.tail - 1,
        record {
          seated = record {
            table = same.0 ∙ seat.table;
            plans = ap (λ z. z.plans) h.reserved.view ∙ (ap (λ z. z.plans) h.found.view ∙ seat.plans);
            pool = ap (λ z. z.pool) h.reserved.view ∙ (ap (λ z. z.pool) h.found.view ∙ seat.pool);
            alive = subst (λ z. 0 < z) (sym (ap (λ z. z.parts) h.reserved.view ∙ ap (λ z. z.parts) h.found.view)) seat.alive;
          };
          starts = subst (λ (z : ℕ × ℕ). Starts tags Bulk 1 r.index side plan s.me.0 z.0 z.1 (room_by_look side plan.geometry.capacity start h.tail - 1) t.me.0.shown t.me.0)
              (λ k. (sym first k, sym one k)) record {
                word = word;
                tail = h.tail;
                seen = h.seen;
                found = h.found;
                first = refl;
                granted = sym (one_granted (room_by_look side plan.geometry.capacity start h.tail) more);
                positive = omega arith;
                last = omega (arith, low);
                rest = refl;
                view = h.reserved.view;
                single = h.reserved.single;
              };
          span = ap (λ z. z.party.span) h.reserved.view ∙ ap (λ (z : ℕ × ℕ). Some (span_of r.index side z.0 z.1)) at_range;
          party = ap (λ z. z.party) h.reserved.view ∙ (ap (λ (z : View T). with_open z.party (span_of r.index side start 1)) h.found.view
              ∙ ap (λ (z : ℕ × ℕ). with_open s.me.0.party (span_of r.index side z.0 z.1)) at_range);
          slots = h.reserved.slots ∙ (ap (λ l. slots_of r start (slot_values side 1 t.me.0.shown) ++ l) no_slots
              ∙ (append-nil (slots_of r start (slot_values side 1 t.me.0.shown))
              ∙ ap (λ (z : ℕ × ℕ). slots_of r z.0 (slot_values side z.1 t.me.0.shown)) at_range));
          empty = h.reserved.empty;
          full = λ take. h.reserved.full take ∙ sym one;
          fits = omega (arith, one, may.1);
          may = may;
        },
      )
        where
          more : 0 < room_by_look side plan.geometry.capacity start h.tail
          more = room_grows side plan.geometry.capacity start n h.tail (h.more n asked) room

          at_range : ◌≡◌ {A = ℕ × ℕ} (start, 1) (range.start, range.count)
          at_range k = (sym first k, sym one k)

-- what a hand remembers after a start is so
pub recent_started : {T : Type 0} {N : ℕ} {S : Type 0} (tags : T → List ℕ) (most n : ℕ) (how : How) (side : Side) (r : Ring T N S) (v : View T)
    (s : Seat (Option T) (View T)) (range : Positions) (m : Recent) → HasStarted tags most how n side r v s range → m.own ≡ own_at r.index side
    → position_of r.shape.now.plan.geometry (mode_of r.shape.now.plan side) m.word ≡ range.start + range.count
    → (mode_of r.shape.now.plan side ≡ Hts → m.word % range_of r.shape.now.plan.geometry ≡ 0) → m.left ≡ range.left → IsRecent m s.me.0
recent_started tags most n how side r v s range m h own there whole left =
    let plan : RingPlan = r.shape.now.plan in
    let starts = h.starts in
    let known : slice_get s.me.0.plans r.index ≡ Some plan = told_ring s.me.0.plans r.fabric.now.plan.rings.items r.index plan h.seated.plans r.in_plan.0 in
    let now = found_room_last r.index side starts.word starts.tail s.me.0 (ap (λ z. z.observed) starts.view ∙ ap (λ z. z.observed) starts.found.view) in
    let room : m.left ≤ room_by_look side plan.geometry.capacity (position_of plan.geometry (mode_of plan side) m.word) (tail_in s.me.0.observed) =
    subst (λ (z : ℕ × ℕ × ℕ). z.0 ≤ room_by_look side plan.geometry.capacity z.1 z.2) (λ k. (sym left k, sym there k, sym now.1 k))
    (rest_is side plan.geometry.capacity range.start range.count starts.tail range.left starts.rest) in
    recent_at m s.me.0 r.index side plan own known now.0 room whole
