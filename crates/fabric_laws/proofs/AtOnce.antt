-- A Reserve at once keeps a fabric consistent: it is a Look, a Room and a Reserve at one moment, or a load
use Rattle.std.proofs.Common.{◌≡◌, ℕ, ◌+◌, ◌/◌, ◌%◌, ◌<◌, ◌≤◌, List, length, set, get_or, sym, refl, ap, ◌∙◌, subst}
use Rattle.std.proofs.Common.{arith, eq-eqb, set-set, eqb, true}
use Rattle.std.specs.Prelude.{slice_get, Option, Some, None}
use mathlib.Core.Option.{some, none}
use lib.ListN.{get_elem?}
use lib.Seq.{set-get_or}
use prog.Atomic.{either}
use Rattle.atomic_table.specs.Table.{Me, step, keeps, carried_after, homes_after, Allows}
use Rattle.atomic_table.proofs.Lists.{exchanged, set_here}
use Rattle.geom.specs.declared.plan.Mode.TheVariants.{Hts}
use Rattle.geom.specs.declared.plan.Side.{Side}
use Rattle.geom.specs.declared.plan.Side.TheVariants.{Put, Take}
use Rattle.geom.specs.declared.plan.RingPlan.{RingPlan}
use Rattle.geom.specs.Extent.{range_of}
use Rattle.geom.proofs.Words.{word_whole}
use Rattle.geom.specs.Plan.{mode_of}
use Rattle.ringcore_laws.specs.declared.party.Party.{Party}
use Rattle.ringcore_laws.specs.declared.protocol.Observed.{Observed}
use Rattle.ringcore_laws.specs.RingSide.{side_of}
use Rattle.ringcore_laws.specs.FreeRings.{buffers_had}
use Rattle.ringcore_laws.specs.History.{other_side, position_of, room_by_look}
use Rattle.ringcore_laws.proofs.Laws.{same_plan}
use Rattle.fabric_laws.specs.declared.view.View.{View}
use Rattle.fabric_laws.specs.Rule.{IsConsistent, parties_of_views}
use Rattle.fabric_laws.specs.Words.{own_at}
use Rattle.fabric_laws.specs.Changes.{loaded, looked, view_after_room}
use Rattle.fabric_laws.specs.Kinds.{HasRoom, ReadsBack, at_once_tells, reserve_tells}
use Rattle.fabric_laws.proofs.Lanes.{own_same}
use Rattle.fabric_laws.proofs.Loads.{look_reads, looked_true, room_found, room_true}
use Rattle.fabric_laws.proofs.Reserves.{Goes, reserves_put, reserves_take}
use Rattle.fabric_laws.proofs.Slots.{some_below}
use Rattle.fabric_laws.proofs.Steps.{St, stays}
use Rattle.fabric_laws.proofs.Views.{parties_same}

module _ {T : Type 0} (tags : T → List ℕ) (plans : List RingPlan) (pool : ℕ) where
  -- the hand looks at a side and asks for room, with no step between
  module _ (s : St T) (c : IsConsistent tags plans pool s) (id : ℕ) (v : View T) (here : get_elem? s.views id ≡ some v) (alive : 0 < v.parts)
      (r : ℕ) (side : Side) (plan : RingPlan) (at : slice_get plans r ≡ Some plan)
      (whole : mode_of plan side ≡ Hts → get_or s.words (own_at r side) 0 % range_of plan.geometry ≡ 0) where
    abbrev word : ℕ
    word = get_or s.words (own_at r side) 0

    abbrev seen : Observed
    seen = record { ring = r; side = side; looked_at = word; tail_seen = None }

    abbrev once : View T
    once = looked r side word v

    abbrev s1 : St T
    s1 = record { words = s.words; homes = s.homes; views = set s.views id once }

    c1 : IsConsistent tags plans pool s1
    c1 =
        subst (λ (ws : List ℕ). IsConsistent tags plans pool record { words = ws; homes = s.homes; views = set s.views id once }) (set-get_or s.words (own_at r side) 0)
        (stays tags plans pool s c (own_at r side) id v once here alive refl refl refl refl
        (looked_true tags plans pool s c id v here alive r plan at side
        (λ hts. (word / range_of plan.geometry, omega (arith, whole hts, word_whole plan.geometry word)))))

    here1 : get_elem? s1.views id ≡ some once
    here1 = set_here s.views id once (some_below s.views id v here)

    abbrev tail1 : ℕ
    tail1 = (side_of (parties_of_views s1.views) r (other_side side)).len

    abbrev twice : View T
    twice = view_after_room tail1 once

    abbrev s2 : St T
    s2 = record { words = s.words; homes = s.homes; views = set s1.views id twice }

    pub c2 : IsConsistent tags plans pool s2
    c2 =
        subst (λ (ws : List ℕ). IsConsistent tags plans pool record { words = ws; homes = s.homes; views = set s1.views id twice }) (set-get_or s.words (own_at r side) 0)
        (stays tags plans pool s1 c1 (own_at r side) id once twice here1 alive refl refl refl refl
        (room_true tags plans pool s1 c1 id once here1 alive r side plan at seen refl refl refl))

    pub here2 : get_elem? s2.views id ≡ some twice
    here2 = set_here s1.views id twice (some_below s1.views id once here1)

    -- no further than it saw before
    pub tail_grows : (o : Observed) (t : ℕ) → v.observed ≡ Some o → o.ring ≡ r → o.side ≡ side → o.tail_seen ≡ Some t → t ≤ tail1
    tail_grows o t old on_ring on_side saw =
        let before : t ≤ (side_of (parties_of_views s.views) r (other_side side)).len =
        subst (λ (z : ℕ × Side). t ≤ (side_of (parties_of_views s.views) z.0 (other_side z.1)).len) (λ k. (on_ring k, on_side k))
        (((c.views id v here).observed o old).0.tail_seen t saw) in
        subst (λ (ps : List (Party T)). t ≤ (side_of ps r (other_side side)).len) (sym (parties_same s.views id v once here refl)) before

    pub reads : ReadsBack r side (position_of plan.geometry (mode_of plan side) word) v
    reads = (look_reads tags plans pool s c id v here alive r plan at side).0

    pub finds : ReadsBack r (other_side side) tail1 v × (v.party.span ≡ None → HasRoom tags side plan (position_of plan.geometry (mode_of plan side) word) tail1 v)
    finds =
        let got = room_found tags plans pool s1 c1 id once here1 alive r side plan at seen refl refl refl in
        (got.0, λ idle. by_side side (got.3 idle))
      where
        by_side : (d : Side) → HasRoom tags d plan (position_of plan.geometry (mode_of plan side) word) tail1 once
            → HasRoom tags d plan (position_of plan.geometry (mode_of plan side) word) tail1 v
        by_side Put room = room
        by_side Take room = tt

  module _ (slots id : ℕ) (me : Me (Option T) (View T)) (r : ℕ) (side : Side) (plan : RingPlan) (n : ℕ) (at : slice_get plans r ≡ Some plan)
      (alive : 0 < me.0.parts) (idle : me.0.party.span ≡ None) (positive : 0 < n) (small : mode_of plan side ≡ Hts → n < range_of plan.geometry)
      (few : side ≡ Put → plan.free ≡ true → n ≤ buffers_had tags pool me.0.party) where
    -- a reservation of either side, after a look and a question for room
    reserves : (o : Observed) (t : ℕ) → me.0.observed ≡ Some o → o.ring ≡ r → o.side ≡ side → o.tail_seen ≡ Some t
        → let start = position_of plan.geometry (mode_of plan side) o.looked_at in n ≤ room_by_look side plan.geometry.capacity start t
        → start + n ≤ plan.geometry.last
        → Allows (IsConsistent tags plans pool) slots id me (own_at r side) (λ y. either (eqb y o.looked_at) (o.looked_at + n) y)
        (reserve_tells tags side (step slots (own_at r side) o.looked_at (o.looked_at + n) none) me)
    reserves o t seen on_ring on_side tail room low = by_side side refl
      where
        by_side : (d : Side) → side ≡ d
            → Allows (IsConsistent tags plans pool) slots id me (own_at r d) (λ y. either (eqb y o.looked_at) (o.looked_at + n) y)
            (reserve_tells tags d (step slots (own_at r d) o.looked_at (o.looked_at + n) none) me)
        by_side Put e =
            let there : n ≤ room_by_look Put plan.geometry.capacity (position_of plan.geometry plan.put o.looked_at) t =
            subst (λ (d : Side). n ≤ room_by_look d plan.geometry.capacity (position_of plan.geometry (mode_of plan d) o.looked_at) t) e room in
            reserves_put tags plans pool slots id me r plan o t n at alive idle seen on_ring tail positive (on_side ∙ e) (omega (arith, there, positive))
            (subst (λ (d : Side). position_of plan.geometry (mode_of plan d) o.looked_at + n ≤ plan.geometry.last) e low)
            (λ h. small (ap (mode_of plan) e ∙ h)) (few e)
        by_side Take e =
            let there : n ≤ room_by_look Take plan.geometry.capacity (position_of plan.geometry plan.take o.looked_at) t =
            subst (λ (d : Side). n ≤ room_by_look d plan.geometry.capacity (position_of plan.geometry (mode_of plan d) o.looked_at) t) e room in
            reserves_take tags plans pool slots id me r plan o t n at alive idle seen on_ring tail positive (on_side ∙ e) (omega (arith, there, positive))
            (subst (λ (d : Side). position_of plan.geometry (mode_of plan d) o.looked_at + n ≤ plan.geometry.last) e low)
            (λ h. small (ap (mode_of plan) e ∙ h))

  module _ (slots id : ℕ) (me : Me (Option T) (View T)) (r : ℕ) (side : Side) (plan : RingPlan) (n : ℕ) (at : slice_get plans r ≡ Some plan)
      (alive : 0 < me.0.parts) (idle : me.0.party.span ≡ None) (positive : 0 < n) (small : mode_of plan side ≡ Hts → n < range_of plan.geometry)
      (few : side ≡ Put → plan.free ≡ true → n ≤ buffers_had tags pool me.0.party) where
    module _ (o : Observed) (t g : ℕ) (old : me.0.observed ≡ Some o) (on_ring : o.ring ≡ r) (on_side : o.side ≡ side) (saw : o.tail_seen ≡ Some t)
        (whole : mode_of plan side ≡ Hts → g % range_of plan.geometry ≡ 0)
        (room : n ≤ room_by_look side plan.geometry.capacity (position_of plan.geometry (mode_of plan side) g) t)
        (low : position_of plan.geometry (mode_of plan side) g + n ≤ plan.geometry.last) where
      abbrev i : ℕ
      i = own_at r side

      abbrev tells : ℕ → Me (Option T) (View T) → Type 0
      tells = at_once_tells tags (step slots i g (g + n) none) me

      -- it finds the word that it expects
      wins : (s : St T) (c : IsConsistent tags plans pool s) → length s.homes ≡ slots → (here : get_elem? s.views id ≡ some me.0)
          → get_or s.words i 0 < 18446744073709551616
          → get_or s.words i 0 ≡ g → Goes tags plans pool s i id me tells (g + n)
      wins s c many here fits hit =
          let v : View T = me.0 in
          let y : ℕ = get_or s.words i 0 in
          let whole' : mode_of plan side ≡ Hts → y % range_of plan.geometry ≡ 0 = λ h. ap (λ x. x % range_of plan.geometry) hit ∙ whole h in
          let now : ℕ = tail1 s c id v here alive r side plan at whole' in
          let saw' : View T = twice s c id v here alive r side plan at whole' in
          let more : t ≤ now = tail_grows s c id v here alive r side plan at whole' o t old on_ring on_side saw in
          let there : n ≤ room_by_look side plan.geometry.capacity (position_of plan.geometry (mode_of plan side) y) now =
          subst (λ (z : ℕ). n ≤ room_by_look side plan.geometry.capacity (position_of plan.geometry (mode_of plan side) z) now) (sym hit)
          (grows side plan.geometry.capacity (position_of plan.geometry (mode_of plan side) g) more room) in
          let seen : Observed = record { ring = r; side = side; looked_at = y; tail_seen = Some now } in
          let won =
          reserves slots id (saw', me.1) r side plan n at alive idle positive small few seen now refl refl refl refl there
          (subst (λ (z : ℕ). position_of plan.geometry (mode_of plan side) z + n ≤ plan.geometry.last) (sym hit) low)
          (s2 s c id v here alive r side plan at whole') (c2 s c id v here alive r side plan at whole') many
          (here2 s c id v here alive r side plan at whole') fits in
          let w : View T = won.0 in
          let to : List (ℕ × Option T) = carried_after me.1 won.1 in
          let number : either (eqb y y) (y + n) y ≡ g + n = ap (λ b. either b (y + n) y) (eq-eqb y y refl) ∙ ap (λ z. z + n) hit in
          let views : set (s2 s c id v here alive r side plan at whole').views id w ≡ set s.views id w =
          set-set (set s.views id (looked r side y v)) id saw' w ∙ set-set s.views id (looked r side y v) w in (
            w,
            won.1,
            won.2,
            subst (λ (z : ℕ × List (View T)). IsConsistent tags plans pool
                record { words = set s.words i z.0; homes = homes_after s.homes me.1 won.1; views = z.1 }) (λ k. (number k, views k)) won.3,
            λ q side' plan' o' t' e at' seen' ring' side_is saw_it. (
              λ _.
                  let same_o : o ≡ o' = same_plan (sym old ∙ seen') in
                  let ring : r ≡ q = (own_same r side q side' e).0 in
                  let across : side ≡ side' = (own_same r side q side' e).1 in
                  let told : slice_get plans q ≡ Some plan' = ap (λ (l : List RingPlan). slice_get l q) (sym (c.told id v here alive).0) ∙ at' in
                  let is : plan ≡ plan' = same_plan (sym at ∙ (ap (slice_get plans) ring ∙ told)) in
                  let same_t : t ≡ t' = same_plan (sym saw ∙ (ap (λ (z : Observed). z.tail_seen) same_o ∙ saw_it)) in
                  let facts =
                  subst (λ (z : ℕ × Side × RingPlan × ℕ × ℕ). let at_start = position_of z.2.geometry (mode_of z.2 z.1) z.4 in
                  (z.3 ≤ now) × ReadsBack z.0 z.1 at_start v × ReadsBack z.0 (other_side z.1) now v
                  × HasRoom tags z.1 z.2 at_start now v
                  × reserve_tells tags z.1 (step slots i z.4 (z.4 + n) none) (view_after_room now (looked z.0 z.1 z.4 v), me.1) y (w, to))
                  (λ k. (ring k, across k, is k, same_t k, hit k)) (
                    more,
                    reads s c id v here alive r side plan at whole',
                    (finds s c id v here alive r side plan at whole').0,
                    (finds s c id v here alive r side plan at whole').1 idle,
                    won.4,
                  ) in
                  (now, facts.0, facts.1, facts.2, facts.3, facts.4),
              λ miss. absurd (miss hit),
            ),
          )
        where
          grows : (d : Side) (capacity start : ℕ) {a b : ℕ} → a ≤ b → n ≤ room_by_look d capacity start a → n ≤ room_by_look d capacity start b
          grows Put capacity start le h = omega (arith, le, h)
          grows Take capacity start le h = omega (arith, le, h)

      pub reserves_at_once : Allows (IsConsistent tags plans pool) slots id me i (λ y. either (eqb y g) (g + n) y) tells
      reserves_at_once s c many here fits =
          exchanged (get_or s.words i 0) g (g + n) (Goes tags plans pool s i id me tells) (wins s c many here fits)
          (λ miss.
          let k = c.views id me.0 here in (
            loaded me.0,
            keeps,
            tt,
            stays tags plans pool s c i id me.0 (loaded me.0) here alive refl refl refl refl record { observed = k.observed; shown = k.shown; ends = k.ends },
            λ q side' plan' o' t' e at' seen' ring' side_is saw_it. (λ hit. absurd (miss hit), λ _. (refl, refl)),
          ))
