-- A won Reserve keeps a fabric consistent, on each side and in each mode
use Rattle.std.proofs.Common.{◌≡◌, ℕ, ◌+◌, ◌<◌, ◌≤◌, ◌≢◌, ◌⊎◌, inl, inr, List, [], ◌++◌, length, map, set, get_or, take, drop, sym, refl, ap, ◌∙◌, subst}
use Rattle.std.proofs.Common.{le_trans, arith, append-nil, replicate, false, true, eqb}
use Rattle.std.specs.Prelude.{slice_get, slice_index_or, slice_set, Option, Some, None}
use mathlib.Core.Option.{some, none}
use mathlib.Core.Option as maybe
use lib.ListN.{get_elem?}
use prog.Atomic.{either}
use Rattle.std.proofs.lemmas.List.{length-drop, length-set, length-take}
use Rattle.std.proofs.lemmas.Option.{slice_get_within}
use Rattle.atomic_table.specs.Table.{Act, Me, Valid, step, stepped, keeps, carried_after, Allows}
use Rattle.atomic_table.proofs.Lists.{at_set, exchanged}
use Rattle.geom.specs.declared.plan.Mode.{Mode}
use Rattle.geom.specs.declared.plan.Mode.TheVariants.{Multi, Hts}
use Rattle.geom.specs.declared.plan.Side.{Side}
use Rattle.geom.specs.declared.plan.Side.TheVariants.{Put, Take}
use Rattle.geom.specs.declared.plan.RingPlan.{RingPlan}
use Rattle.geom.specs.Extent.{Extent, range_of}
use Rattle.geom.specs.Plan.{mode_of}
use Rattle.ringcore_laws.specs.declared.party.Party.{Party}
use Rattle.ringcore_laws.specs.declared.protocol.Observed.{Observed}
use Rattle.ringcore_laws.specs.declared.protocol.Span.{Span}
use Rattle.ringcore_laws.specs.Moves.{limit, reserved_by}
use Rattle.ringcore_laws.specs.RingSide.{RingSide, side_of, listed}
use Rattle.ringcore_laws.specs.HeadTailRule.{base}
use Rattle.ringcore_laws.specs.FreeRings.{buffers_had}
use Rattle.ringcore_laws.specs.History.{other_side, own_word, position_of}
use Rattle.ringcore_laws.specs.Party.{is_on, with_open}
use Rattle.ringcore_laws.specs.Sound.{SoundRing}
use Rattle.ringcore_laws.proofs.SideLaws.{Reserves, reserves}
use Rattle.ringcore_laws.proofs.RingLaws.{length-listed, reserved_on, takes_le_puts}
use Rattle.ringcore_laws.proofs.Laws.{off_put, off_ring, off_take, on_own, reserve_keeps, reserved_other, reserved_own, same_listed, same_or_not, same_plan}
use Rattle.ringcore_laws.proofs.HeadTailLaws.{IsNext, next_above, on_or_off, orderly_reserved, other_side_reserved}
use Rattle.ringcore_laws.proofs.HistoryLaws.{is_next}
use Rattle.ringcore_laws.proofs.FreeKept.{free_opened, singles_drop}
use Rattle.fabric_laws.specs.declared.view.View.{View}
use Rattle.fabric_laws.specs.Rule.{AreWords, AtHome, IsConsistent, IsTrueView, parties_of_views}
use Rattle.fabric_laws.specs.Words.{own_at, slot_at, tail_at}
use Rattle.fabric_laws.specs.Changes.{missed, reserved}
use Rattle.fabric_laws.specs.Kinds.{reserve_put_tells, reserve_take_tells, run}
use Rattle.fabric_laws.proofs.Cells.{cell_of, get_dropped, get_taken, length-cells, length-many, many_alike}
use Rattle.fabric_laws.proofs.Homes.{home_put_reserved, home_take_reserved, rings_apart, run_apart}
use Rattle.fabric_laws.proofs.Lanes.{own_inside, own_no_tail, own_same, word_else, word_set}
use Rattle.fabric_laws.proofs.Loads.{lost}
use Rattle.fabric_laws.proofs.Singles.{singles_queued}
use Rattle.fabric_laws.proofs.Slots.{emptied, emptied_else, length-emptied, some_below, takes_all, takes_carried, takes_homes, takes_valid}
use Rattle.fabric_laws.proofs.Steps.{St, built, ring_sound, side_ruled, span_within, told_on, word_is}
use Rattle.fabric_laws.proofs.Truths.{GoOn, observed_on, true_on}
use Rattle.fabric_laws.proofs.Views.{parties_set, party_here, party_within}

-- the own word after a reservation: this many positions more
pub word_reserved : {I : Type 0} (e : Extent) (mode : Mode) (l : RingSide I) (span : Span) → IsNext mode l span.start
    → own_word e mode (reserved_on l span) ≡ own_word e mode l + span.count
word_reserved e Multi l span next = omega (arith, next.multi refl)
word_reserved e Hts l span next = omega (arith, next.hts refl)

base_reserved : {I : Type 0} (mode : Mode) (l : RingSide I) (span : Span) → base mode l ≤ base mode (reserved_on l span)
base_reserved Multi l span = omega arith
base_reserved Hts l span = omega arith

module _ {T : Type 0} (tags : T → List ℕ) (plans : List RingPlan) (pool : ℕ) (s : St T) (c : IsConsistent tags plans pool s)
    (id : ℕ) (v : View T) (here : get_elem? s.views id ≡ some v) (alive : 0 < v.parts) (idle : v.party.span ≡ None) where
  abbrev parties : List (Party T)
  parties = parties_of_views s.views

  lt : id < length parties
  lt = party_within s.views id v here

  mine : slice_index_or parties id v.party ≡ v.party
  mine = party_here s.views id v v.party here

  idle' : (slice_index_or parties id v.party).span ≡ None
  idle' = ap (λ (p : Party T). p.span) mine ∙ idle

  -- the hand reserves a span, and takes its slots with these values; for a take it sees these items
  module _ (span : Span) (plan : RingPlan) (at : slice_get plans span.ring ≡ Some plan) (ys : List (Option T)) (items : List T)
      (positive : 0 < span.count) (next : IsNext (mode_of plan span.side) (side_of parties span.ring span.side) span.start)
      (low : span.start + span.count ≤ plan.geometry.last) (within : span.start + span.count ≤ limit plan.geometry parties span.ring span.side)
      (small : mode_of plan span.side ≡ Hts → span.count < range_of plan.geometry)
      (few : span.side ≡ Put → plan.free ≡ true → span.count ≤ buffers_had tags pool v.party)
      (many : length ys ≡ span.count)
      (shows : span.side ≡ Take → items ≡ take span.count (drop span.start (listed (side_of parties span.ring Put)))) where
    abbrev after : List (Party T)
    after = reserved_by parties id v.party span

    abbrev own : RingSide T
    own = side_of parties span.ring span.side

    change : (r : ℕ) (side : Side) → Reserves (side_of parties r side) (side_of after r side) r side span
    change r side = reserves parties id v.party span r side lt idle'

    spare : plan.geometry.capacity < plan.geometry.size
    spare = (c.fitting.spare span.ring plan at)

    above : (own.len ≤ span.start) × ((p : ℕ) → span.start ≤ p → own.openers p ≡ 0)
    above = next_above parties span.ring span.side plan.geometry (mode_of plan span.side) span.start (side_ruled tags plans pool s c span.ring plan at span.side) next

    -- the sides after: the own one, and any other
    own_after : side_of after span.ring span.side ≡ reserved_on own span
    own_after = reserved_own own (side_of after span.ring span.side) span (change span.ring span.side)

    other_after : (r : ℕ) (side : Side) → ((r ≡ span.ring) × (side ≡ span.side)) ⊎ (side_of after r side ≡ side_of parties r side)
    other_after r side = other_side_reserved parties id v.party span r side lt idle'

    listed_after : (r : ℕ) → listed (side_of after r Put) ≡ listed (side_of parties r Put)
    listed_after r = same_listed (side_of after r Put) (side_of parties r Put) (change r Put).items_at (change r Put).len

    goes_on : GoOn plans parties after
    goes_on = record {
      len = λ r side. omega (arith, (change r side).len);
      base = λ r side plan' at'. elim (other_after r side) [
        | inl same ↦
            subst (λ (z : ℕ × Side). base (mode_of plan' z.1) (side_of parties z.0 z.1) ≤ base (mode_of plan' z.1) (side_of after z.0 z.1))
            (λ k. (sym same.0 k, sym same.1 k))
            (subst (λ (l : RingSide T). base (mode_of plan' span.side) own ≤ base (mode_of plan' span.side) l) (sym own_after)
            (base_reserved (mode_of plan' span.side) own span))
        | inr same ↦ omega (arith, ap (base (mode_of plan' side)) same)
      ];
      more = λ r plan' at'. ([], listed_after r ∙ sym (append-nil (listed (side_of parties r Put))));
    }

    abbrev words' : List ℕ
    words' = set s.words (own_at span.ring span.side) (get_or s.words (own_at span.ring span.side) 0 + span.count)

    untouched : (r : ℕ) (side : Side) → is_on span.ring span.side r side ≡ false → side_of after r side ≡ side_of parties r side
    untouched r side off = reserved_other (side_of parties r side) (side_of after r side) r side span (change r side) off

    words_after : AreWords plans words' after
    words_after = record {
      own = λ r side plan' at'. by_name r side plan' at' (on_or_off span.ring r span.side side);
      tail = λ r side plan' at' multi.
          word_else s.words (own_at span.ring span.side) (tail_at r side) (get_or s.words (own_at span.ring span.side) 0 + span.count)
          (λ e. own_no_tail span.ring span.side r side (sym e)) ∙ (c.words.tail r side plan' at' multi ∙ sym (change r side).len);
    }
      where
        by_name : (r : ℕ) (side : Side) (plan' : RingPlan) → slice_get plans r ≡ Some plan'
            → ((r ≡ span.ring) × (side ≡ span.side)) ⊎ (is_on span.ring span.side r side ≡ false)
            → get_or words' (own_at r side) 0 ≡ own_word plan'.geometry (mode_of plan' side) (side_of after r side)
        by_name r side plan' at' (inl this) =
            let is : plan ≡ plan' = same_plan (sym at ∙ (ap (slice_get plans) (sym this.0) ∙ at')) in
            subst (λ (z : ℕ × Side × RingPlan). get_or words' (own_at z.0 z.1) 0 ≡ own_word z.2.geometry (mode_of z.2 z.1) (side_of after z.0 z.1))
            (λ k. (sym this.0 k, sym this.1 k, is k))
            (word_set s.words (own_at span.ring span.side) (get_or s.words (own_at span.ring span.side) 0 + span.count)
            (omega (arith, own_inside span.ring (length plans) span.side (slice_get_within plans span.ring plan at), c.word_count))
            ∙ (ap (λ n. n + span.count) (word_is tags plans pool s c span.ring plan at span.side)
            ∙ (sym (word_reserved plan.geometry (mode_of plan span.side) own span next) ∙ ap (own_word plan.geometry (mode_of plan span.side)) (sym own_after))))
        by_name r side plan' at' (inr off) =
            word_else s.words (own_at span.ring span.side) (own_at r side) (get_or s.words (own_at span.ring span.side) 0 + span.count)
            (λ e. let this = own_same r side span.ring span.side e in
            (let t : true ≡ false = sym (on_own span.ring span.side) ∙ ((λ k. is_on span.ring span.side (sym this.0 k) (sym this.1 k)) ∙ off) in cc))
            ∙ (c.words.own r side plan' at' ∙ ap (own_word plan'.geometry (mode_of plan' side)) (sym (untouched r side off)))

    abbrev homes' : List (maybe.Option (Option T))
    homes' = emptied s.homes (run (slot_at plans span.ring plan) span.start ys)

    -- the slots of another ring are unchanged
    elsewhere : (r : ℕ) (plan' : RingPlan) → slice_get plans r ≡ Some plan' → r ≢ span.ring → (p : ℕ)
        → get_elem? homes' (slot_at plans r plan' p) ≡ get_elem? s.homes (slot_at plans r plan' p)
    elsewhere r plan' at' apart p =
        emptied_else (slot_at plans span.ring plan) s.homes span.start ys (slot_at plans r plan' p)
        (λ k lt'. rings_apart plans r span.ring plan' plan p (span.start + k) at' at apart (omega (arith, (c.fitting.spare r plan' at')))
        (omega (arith, spare)))

    homes_after : (r : ℕ) (plan' : RingPlan) → slice_get plans r ≡ Some plan' → AtHome plans homes' (side_of after r Put) (side_of after r Take) r plan'
    homes_after r plan' at' = elim (same_or_not r span.ring) [
      | inl same ↦
          let is : plan ≡ plan' = same_plan (sym at ∙ (ap (slice_get plans) (sym same) ∙ at')) in
          subst (λ (z : ℕ × RingPlan). AtHome plans homes' (side_of after z.0 Put) (side_of after z.0 Take) z.0 z.1) (λ k. (sym same k, is k))
          (by_side span.side refl)
      | inr apart ↦
          let old = c.homes r plan' at' in
          subst (λ (l : RingSide T). AtHome plans homes' l (side_of after r Take) r plan') (sym (untouched r Put (off_ring span.ring r span.side Put apart)))
          (subst (λ (l : RingSide T). AtHome plans homes' (side_of parties r Put) l r plan')
          (sym (untouched r Take (off_ring span.ring r span.side Take apart))) record {
            full = λ p x le free is. elsewhere r plan' at' apart p ∙ old.full p x le free is;
            vacant = λ p le free lt'. elsewhere r plan' at' apart p ∙ old.vacant p le free lt';
          })
    ]
      where
        ring : SoundRing plan.geometry (side_of parties span.ring Put) (side_of parties span.ring Take)
        ring = ring_sound tags plans pool s c span.ring plan at

        by_side : (d : Side) → span.side ≡ d → AtHome plans homes' (side_of after span.ring Put) (side_of after span.ring Take) span.ring plan
        by_side Put e =
            let mine : side_of after span.ring Put ≡ reserved_on (side_of parties span.ring Put) span =
            subst (λ (z : Side). side_of after span.ring z ≡ reserved_on (side_of parties span.ring z) span) e own_after in
            let opposite = untouched span.ring Take (ap (λ z. is_on span.ring z span.ring Take) e ∙ off_take span.ring span.ring) in
            subst (λ (l : RingSide T). AtHome plans homes' l (side_of after span.ring Take) span.ring plan) (sym mine)
            (subst (λ (l : RingSide T). AtHome plans homes' (reserved_on (side_of parties span.ring Put) span) l span.ring plan) (sym opposite)
            (home_put_reserved plans s.homes (side_of parties span.ring Put) (side_of parties span.ring Take) span.ring plan ring spare
            (c.homes span.ring plan at) span ys many
            (subst (λ (z : Side). (side_of parties span.ring z).len ≤ span.start) e above.0)
            (subst (λ (z : Side). span.start + span.count ≤ limit plan.geometry parties span.ring z) e within)))
        by_side Take e =
            let mine : side_of after span.ring Take ≡ reserved_on (side_of parties span.ring Take) span =
            subst (λ (z : Side). side_of after span.ring z ≡ reserved_on (side_of parties span.ring z) span) e own_after in
            let opposite = untouched span.ring Put (ap (λ z. is_on span.ring z span.ring Put) e ∙ off_put span.ring span.ring) in
            subst (λ (l : RingSide T). AtHome plans homes' l (side_of after span.ring Take) span.ring plan) (sym opposite)
            (subst (λ (l : RingSide T). AtHome plans homes' (side_of parties span.ring Put) l span.ring plan) (sym mine)
            (home_take_reserved plans s.homes (side_of parties span.ring Put) (side_of parties span.ring Take) span.ring plan ring spare
            (c.homes span.ring plan at) span ys many
            (subst (λ (z : Side). (side_of parties span.ring z).len ≤ span.start) e above.0)
            (subst (λ (z : Side). span.start + span.count ≤ limit plan.geometry parties span.ring z) e within)))

    -- what the hand itself knows
    own_true : IsTrueView plans after (reserved span items v)
    own_true =
        let k = c.views id v here in
        record {
          observed = λ o e. observed_on plans parties after o goes_on (k.observed o e);
          shown = λ span' busy taking.
              let is : span ≡ span' = same_plan busy in
              subst (λ (z : Span). items ≡ take z.count (drop z.start (listed (side_of after z.ring Put)))) is
              (shows (ap (λ (z : Span). z.side) is ∙ taking)
              ∙ ap (λ l. take span.count (drop span.start l)) (sym (listed_after span.ring)));
          ends = λ j x e. le_trans (k.ends j x e) (goes_on.len x.ring x.side);
        }

    pub reserve_stays : IsConsistent tags plans pool record { words = words'; homes = homes'; views = set s.views id (reserved span items v) }
    reserve_stays =
        built tags plans pool record { words = words'; homes = homes'; views = set s.views id (reserved span items v) } after
        (parties_set s.views id (reserved span items v) ∙ ap (λ (p : Party T). slice_set parties id (with_open p span)) (sym mine))
        c.fitting
        (reserve_keeps tags plans pool parties id v.party span plan c.sound lt idle' at spare record { behind = above.0; above = above.1; room = within })
        (orderly_reserved plans parties id v.party span plan c.ruled lt idle' at positive (slice_get_within plans span.ring plan at) next low within small)
        (free_opened tags plans pool parties c.free id v.party span plan lt idle' at (λ put free. omega (arith, few put free, ap (buffers_had tags pool) mine)))
        (length-set s.words (own_at span.ring span.side) (get_or s.words (own_at span.ring span.side) 0 + span.count) ∙ c.word_count)
        words_after
        (length-emptied s.homes (run (slot_at plans span.ring plan) span.start ys) ∙ c.home_count)
        homes_after
        (λ j u e. elim (at_set s.views id j (reserved span items v) u e) [
          | inl new ↦ subst (IsTrueView plans after) new.1 own_true
          | inr old ↦ true_on plans parties after u goes_on (span_within tags plans pool s c j u old.1) (c.views j u old.1)
        ])
        (told_on tags plans pool s c id v (reserved span items v) here alive refl refl refl)

module _ {T : Type 0} (tags : T → List ℕ) (plans : List RingPlan) (pool : ℕ) where
  -- the state and the hand after a step on the word i, which found y and left x
  abbrev pub Goes : St T → ℕ → ℕ → Me (Option T) (View T) → (ℕ → Me (Option T) (View T) → Type 0) → ℕ → Type 0
  Goes s i id me then x =
      (w : View T) × (a : Act (Option T)) × Valid s.homes me.1 a × IsConsistent tags plans pool (stepped s i x id me.1 w a)
      × then (get_or s.words i 0) (w, carried_after me.1 a)

  module _ (slots id : ℕ) (me : Me (Option T) (View T)) (r : ℕ) (plan : RingPlan) (o : Observed) (t n : ℕ)
      (at : slice_get plans r ≡ Some plan) (alive : 0 < me.0.parts) (idle : me.0.party.span ≡ None) (seen : me.0.observed ≡ Some o) (on_ring : o.ring ≡ r)
      (tail : o.tail_seen ≡ Some t)
      (positive : 0 < n) where
    -- if the word is still the one looked at, the next span of the side starts there
    next_is : (s : St T) (c : IsConsistent tags plans pool s) → get_elem? s.views id ≡ some me.0 → (side : Side) → o.side ≡ side
        → get_or s.words (own_at r side) 0 ≡ o.looked_at
        → IsNext (mode_of plan side) (side_of (parties_of_views s.views) r side) (position_of plan.geometry (mode_of plan side) o.looked_at)
    next_is s c here side on_side hit =
        let k = (c.views id me.0 here).observed o seen in
        is_next plan.geometry (mode_of plan side) (side_of (parties_of_views s.views) r side) o.looked_at (sym (word_is tags plans pool s c r plan at side) ∙ hit)
        (λ hts. k.0.whole plan (ap (slice_get plans) on_ring ∙ at) (ap (mode_of plan) on_side ∙ hts)) (side_ruled tags plans pool s c r plan at side).small

    seen_tail : (s : St T) (c : IsConsistent tags plans pool s) → get_elem? s.views id ≡ some me.0
        → t ≤ (side_of (parties_of_views s.views) r (other_side o.side)).len
    seen_tail s c here =
        subst (λ (z : ℕ). t ≤ (side_of (parties_of_views s.views) z (other_side o.side)).len) on_ring
        (((c.views id me.0 here).observed o seen).0.tail_seen t tail)

    pub reserves_put : o.side ≡ Put → position_of plan.geometry plan.put o.looked_at + n ≤ plan.geometry.capacity + t → position_of plan.geometry plan.put o.looked_at + n ≤ plan.geometry.last
        → (plan.put ≡ Hts → n < range_of plan.geometry) → (plan.free ≡ true → n ≤ buffers_had tags pool me.0.party)
        → Allows (IsConsistent tags plans pool) slots id me (own_at r Put) (λ y. either (eqb y o.looked_at) (o.looked_at + n) y)
        (reserve_put_tells (step slots (own_at r Put) o.looked_at (o.looked_at + n) none) me)
    reserves_put on_side room low small few s c _ here _ =
        let i : ℕ = own_at r Put in
        let y : ℕ = get_or s.words i 0 in
        let v : View T = me.0 in
        let start : ℕ = position_of plan.geometry plan.put o.looked_at in
        let span : Span = record { ring = r; side = Put; start = start; count = n } in
        let ys : List (Option T) = replicate n None in
        let slot : ℕ → ℕ = slot_at plans r plan in
        let k = seen_tail s c here in
        let behind : t ≤ (side_of (parties_of_views s.views) r Take).len =
        subst (λ (z : Side). t ≤ (side_of (parties_of_views s.views) r (other_side z)).len) on_side k in
        exchanged y o.looked_at (o.looked_at + n) (Goes s i id me (reserve_put_tells (step slots i o.looked_at (o.looked_at + n) none) me))
        (λ hit.
        let next = next_is s c here Put on_side hit in
        let first = next_above (parties_of_views s.views) r Put plan.geometry plan.put start (side_ruled tags plans pool s c r plan at Put) next in
        let ring = ring_sound tags plans pool s c r plan at in
        let spare = (c.fitting.spare r plan at) in
        let won =
        reserve_stays tags plans pool s c id v here alive idle span plan at ys [] positive next low (omega (arith, room, behind)) small (λ _. few)
        (length-many {X = Option T} n None)
        (λ e. absurd (let u : Put ≡ Take = e in cc)) in (
          reserved span [] v,
          takes_all (run slot start ys),
          takes_valid slot s.homes me.1 start ys
              (run_apart plans r plan start (length ys) (omega (
                arith,
                length-many {X = Option T} n None,
                room,
                behind,
                first.0,
                takes_le_puts plan.geometry (side_of (parties_of_views s.views) r Put) (side_of (parties_of_views s.views) r Take) ring,
                spare,
              )))
              (λ j z e.
              let is_none : z ≡ None = many_alike n None j z e in
              let lt : j < n = omega (arith, some_below ys j z e, length-many {X = Option T} n None) in
              subst (λ (u : Option T). get_elem? s.homes (slot (start + j)) ≡ some (some u)) (sym is_none)
              ((c.homes r plan at).vacant (start + j) (omega (arith, first.0)) (first.1 (start + j) (omega arith)) (omega (arith, lt, room, behind, spare)))),
          subst (λ (z : ℕ × List (maybe.Option (Option T))). IsConsistent tags plans pool
              record { words = set s.words i z.0; homes = z.1; views = set s.views id (reserved span [] v) })
              (λ j. (ap (λ m. m + n) hit j, sym (takes_homes s.homes me.1 (run slot start ys)) j)) won,
          λ q m plan' e f at'.
              let to : r ≡ q = (own_same r Put q Put e).0 in
              let count : n ≡ m = omega (arith, f) in
              let told = (c.told id v here alive).0 in
              let is : plan ≡ plan' = same_plan (sym at ∙ (ap (slice_get plans) to ∙ (ap (λ (l : List RingPlan). slice_get l q) (sym told) ∙ at'))) in (
                λ _. (
                  λ j. reserved record { ring = to j; side = Put; start = position_of (is j).geometry (is j).put o.looked_at; count = count j } [] v,
                  takes_carried me.1 (run slot start ys) ∙ (λ j. run (slot_at (sym told j) (to j) (is j)) (position_of (is j).geometry (is j).put o.looked_at)
                      (replicate (count j) None) ++ me.1),
                ),
                λ miss. absurd (miss hit),
              ),
        ))
        (λ miss. (missed y v, keeps, tt, lost tags plans pool s c i id v here alive, λ q m plan' e f at'. ((λ hit. absurd (miss hit)), λ _. (refl, refl))))

    pub reserves_take : o.side ≡ Take → position_of plan.geometry plan.take o.looked_at + n ≤ t → position_of plan.geometry plan.take o.looked_at + n ≤ plan.geometry.last
        → (plan.take ≡ Hts → n < range_of plan.geometry)
        → Allows (IsConsistent tags plans pool) slots id me (own_at r Take) (λ y. either (eqb y o.looked_at) (o.looked_at + n) y)
        (reserve_take_tells tags (step slots (own_at r Take) o.looked_at (o.looked_at + n) none) me)
    reserves_take on_side room low small s c _ here _ =
        let i : ℕ = own_at r Take in
        let y : ℕ = get_or s.words i 0 in
        let v : View T = me.0 in
        let start : ℕ = position_of plan.geometry plan.take o.looked_at in
        let span : Span = record { ring = r; side = Take; start = start; count = n } in
        let slot : ℕ → ℕ = slot_at plans r plan in
        let k = seen_tail s c here in
        let behind : t ≤ (side_of (parties_of_views s.views) r Put).len =
        subst (λ (z : Side). t ≤ (side_of (parties_of_views s.views) r (other_side z)).len) on_side k in
        let published : List T = listed (side_of (parties_of_views s.views) r Put) in
        let items : List T = take n (drop start published) in
        let ys : List (Option T) = map Some items in
        exchanged y o.looked_at (o.looked_at + n) (Goes s i id me (reserve_take_tells tags (step slots i o.looked_at (o.looked_at + n) none) me))
        (λ hit.
        let next = next_is s c here Take on_side hit in
        let first = next_above (parties_of_views s.views) r Take plan.geometry plan.take start (side_ruled tags plans pool s c r plan at Take) next in
        let ring = ring_sound tags plans pool s c r plan at in
        let spare = (c.fitting.spare r plan at) in
        let long : length items ≡ n =
        omega (
          arith,
          length-take n (drop start published),
          length-drop start published,
          length-listed (side_of (parties_of_views s.views) r Put) ring.published,
          room,
          behind,
        ) in
        let won = reserve_stays tags plans pool s c id v here alive idle span plan at ys items positive next low (omega (arith, room, behind)) small
        (λ e. absurd (let u : Take ≡ Put = e in cc)) (length-cells items ∙ long) (λ _. refl) in (
          reserved span items v,
          takes_all (run slot start ys),
          takes_valid slot s.homes me.1 start ys
              (run_apart plans r plan start (length ys) (omega (arith, length-cells items, long, room, behind, first.0, ring.within_capacity, spare)))
              (λ j z e.
              let cell = cell_of items j z e in
              let lt : j < n = omega (arith, slice_get_within items j cell.0 cell.2, long) in
              subst (λ (u : Option T). get_elem? s.homes (slot (start + j)) ≡ some (some u)) (sym cell.1)
              ((c.homes r plan at).full (start + j) cell.0 (omega (arith, first.0)) (first.1 (start + j) (omega arith))
              (sym (get_taken n (drop start published) j lt ∙ get_dropped start published j) ∙ cell.2))),
          subst (λ (z : ℕ × List (maybe.Option (Option T))). IsConsistent tags plans pool
              record { words = set s.words i z.0; homes = z.1; views = set s.views id (reserved span items v) })
              (λ j. (ap (λ m. m + n) hit j, sym (takes_homes s.homes me.1 (run slot start ys)) j)) won,
          λ q m plan' e f at'.
              let to : r ≡ q = (own_same r Take q Take e).0 in
              let count : n ≡ m = omega (arith, f) in
              let told = (c.told id v here alive).0 in
              let is : plan ≡ plan' = same_plan (sym at ∙ (ap (slice_get plans) to ∙ (ap (λ (l : List RingPlan). slice_get l q) (sym told) ∙ at'))) in (
                λ _. (
                  items,
                  long ∙ count,
                  λ j. reserved record { ring = to j; side = Take; start = position_of (is j).geometry (is j).take o.looked_at; count = count j } items v,
                  takes_carried me.1 (run slot start ys) ∙ (λ j. run (slot_at (sym told j) (to j) (is j)) (position_of (is j).geometry (is j).take o.looked_at) ys ++ me.1),
                  λ free. singles_queued tags n start (side_of (parties_of_views s.views) r Take).len published first.0
                      (singles_drop tags (side_of (parties_of_views s.views) r Take).len published
                      (c.free.singles r plan at (ap (λ (p : RingPlan). p.free) is ∙ free))),
                ),
                λ miss. absurd (miss hit),
              ),
        ))
        (λ miss. (missed y v, keeps, tt, lost tags plans pool s c i id v here alive, λ q m plan' e f at'. ((λ hit. absurd (miss hit)), λ _. (refl, refl))))
