-- Worked cases of what a hand remembers, and of puts and takes of one item; and what is none
use Rattle.std.proofs.Common.{◌≡◌, ◌≢◌, ◌<◌, ◌≤◌, ◌+◌, ◌-◌, ◌*◌, ◌%◌, ◌^◌, ◌∙◌, ℕ, false, List, [], ◌∷◌, Option, Some, None, inl, inr, refl, sym, ap, arith, subst}
use Rattle.std.specs.Prelude.{slice_get}
use Rattle.atomic_table.specs.declared.shared.Seat.{Seat}
use Rattle.geom.specs.declared.plan.Mode.{Mode}
use Rattle.geom.specs.declared.plan.Mode.TheVariants.{Hts, Multi}
use Rattle.geom.specs.declared.plan.RingPlan.{RingPlan}
use Rattle.geom.specs.declared.plan.Side.{Side}
use Rattle.geom.specs.declared.plan.Side.TheVariants.{Put, Take}
use Rattle.ringcore_laws.specs.declared.protocol.Observed.{Observed}
use Rattle.fabric_laws.specs.declared.view.View.{View}
use Rattle.fabric_laws.specs.Changes.{loaded, settled}
use Rattle.fabric_laws.specs.Words.{own_at}
use Rattle.fabric.specs.AtOnce.{HasReservedOne, IsLoaded, IsRecent, tail_in}
use Rattle.fabric.specs.Held.{span_at}
use Rattle.fabric.specs.OneCalls.{MovesOne, RefusesPutOne, RefusesTakeOne}
use Rattle.fabric.specs.Views.{HasFoundRoom}
use Rattle.fabric.specs.declared.fabric.Fabric.{Fabric}
use Rattle.fabric.specs.declared.hand.SettleFault.{SettleFault}
use Rattle.fabric.specs.declared.hand.StartFault.{StartFault}
use Rattle.fabric.specs.declared.hand.in_place.OpenSpan.{OpenSpan}
use Rattle.fabric.specs.declared.hand.in_place.OpenSpan.TheVariants as open_span
use Rattle.fabric.specs.declared.hand.in_place.Reserved.{Reserved}
use Rattle.fabric.specs.declared.hand.in_place.WholeFault.TheVariants.{Start, Settle}
use Rattle.fabric.specs.declared.ring.Ring.{Ring}
use Rattle.fabric.proofs.AtOnce.{found_room_last, recent_at}

-- a ring of eight slots for seven items
abbrev ring : Mode → RingPlan
ring mode = record {
  geometry = record { size = 8; capacity = 7; last = 2 ^ 44 - 1; count_bits = 20 };
  put = mode;
  take = mode;
  free = false;
}

-- a put looked at position 4 while the take side was settled up to 2: five were free. It took one, and four are left
abbrev seen : Side → ℕ → ℕ → Option Observed
seen side word tail = Some record { ring = 0; side = side; looked_at = word; tail_seen = Some tail }

module _ {T : Type 0} (v : View T) where
  after_a_put : v.plans ≡ ring Multi ∷ [] → v.observed ≡ seen Put 4 2 → IsRecent record { own = own_at 0 Put; word = 5; left = 4 } v
  after_a_put plans saw =
      let asked = found_room_last 0 Put 4 2 v saw in
      recent_at _ v 0 Put (ring Multi) refl (ap (λ l. slice_get l 0) plans) asked.0
      (subst (λ (t : ℕ). 4 ≤ 7 + t - 5) (sym asked.1) (omega arith)) (λ hts. absurd (let e : Multi ≡ Hts = hts in cc))

  -- it doesn't leave five, nor does a word with a reservation say anything
  five_left : v.plans ≡ ring Multi ∷ [] → v.observed ≡ seen Put 4 2 → IsRecent record { own = own_at 0 Put; word = 5; left = 5 } v → ⊥
  five_left plans saw is =
      let room = (is 0 Put (ring Multi) refl (ap (λ l. slice_get l 0) plans)).1 in
      let few : 5 ≤ 7 + 2 - 5 = subst (λ (t : ℕ). 5 ≤ 7 + t - 5) (ap tail_in saw) room in
      absurd (omega (arith, few))

  of_a_reserved_word : v.plans ≡ ring Hts ∷ [] → IsRecent record { own = own_at 0 Put; word = 5 * 2 ^ 20 + 1; left = 1 } v → ⊥
  of_a_reserved_word plans is =
      let whole : (5 * 2 ^ 20 + 1) % 2 ^ 20 ≡ 0 = (is 0 Put (ring Hts) refl (ap (λ l. slice_get l 0) plans)).2 refl in
      absurd (let e : 1 ≡ 0 = whole in omega (arith, e))

  -- what a take saw says nothing of the put side
  of_another_side : v.plans ≡ ring Multi ∷ [] → v.observed ≡ seen Take 4 6 → IsRecent record { own = own_at 0 Put; word = 5; left = 1 } v → ⊥
  of_another_side plans saw is =
      let asked = (is 0 Put (ring Multi) refl (ap (λ l. slice_get l 0) plans)).0 in
      absurd (let e : ◌≡◌ {A = Option Side} (Some Take) (Some Put) = ap side_in (sym saw ∙ asked) in cc)
    where
      side_in : Option Observed → Option Side
      side_in None = None
      side_in (Some o) = Some o.side

  -- a hand that made a step, or two loads, has made more than one load
  two_loads : IsLoaded v (loaded (loaded v)) → ⊥
  two_loads (inl is) = absurd (let e : v.loads + 1 + 1 ≡ v.loads = ap (λ z. z.loads) is in omega (arith, e))
  two_loads (inr is) = absurd (let e : v.loads + 1 + 1 ≡ v.loads + 1 = ap (λ z. z.loads) is in omega (arith, e))

  a_step : (w : View T) → w.steps ≢ v.steps → IsLoaded v w → ⊥
  a_step w other (inl is) = other (ap (λ z. z.steps) is)
  a_step w other (inr is) = other (ap (λ z. z.steps) is)

-- a span of one position that isn't: of two; or by a tail that is behind the one that the hand knew
module _ {T : Type 0} {N : ℕ} {S : Type 0} (tags : T → List ℕ) (r : Ring T N S) (side : Side) (word : ℕ) (s t : Seat (Option T) (View T)) where
  shows_an_item_to_put : (x : T) (xs : List T) → side ≡ Put → t.me.0.shown ≡ x ∷ xs → HasReservedOne tags r side word s t → ⊥
  shows_an_item_to_put x xs put shows is = absurd (let e : ◌≡◌ {A = List T} [] (x ∷ xs) = sym (is.reserved.empty put) ∙ shows in cc)

  sees_an_older_tail : (n : ℕ) (h : HasReservedOne tags r side word s t) → HasFoundRoom r.index side n s.me.0 → h.tail < n → ⊥
  sees_an_older_tail n h asked older = absurd (omega (arith, older, h.more n asked))

module _ {T : Type 0} {N : ℕ} {S : Type 0} (tags : T → List ℕ) (f : Fabric T N S) (most here : ℕ) (v u : View T) where
  -- puts and takes of one item that moved others, or left a span
  with_other_items : (side : Side) (r : Reserved) (shown items : List T) → ((opened : View T) → u ≢ settled (span_at side r) items opened)
      → MovesOne tags f most here v side r shown items u → ⊥
  with_other_items side r shown items other is = other is.3.opened is.3.settle

  refused_with_a_span : (items : List T) (r : Reserved) (e : StartFault) → RefusesPutOne tags f most here v items (open_span.Put r) u (Start e) → ⊥
  refused_with_a_span items r e is = absurd (let z : ◌≡◌ {A = OpenSpan} (open_span.Put r) open_span.Idle = is.2.idle in cc)

  unsettled_without_a_span : (before after : List T) (r : Reserved) (e : SettleFault)
      → RefusesTakeOne tags f most here v before after open_span.Idle u (Settle r e) → ⊥
  unsettled_without_a_span before after r e is = absurd (let z : ◌≡◌ {A = OpenSpan} open_span.Idle (open_span.Take r) = is.3 in cc)

  refused_and_written : (x y : T) (span : OpenSpan) (e : StartFault) → x ≢ y
      → RefusesTakeOne tags f most here v (x ∷ []) (y ∷ []) span u (Start e) → ⊥
  refused_and_written x y span e other is = other (let z : y ∷ [] ≡ x ∷ [] = is.2 in cc)
