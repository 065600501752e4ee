-- Every history in which each reply is the one to its step is sound after each event
use Rattle.std.proofs.Common.{ℕ, zero, suc, ◌+◌, ◌-◌, ◌*◌, ◌/◌, ◌<◌, ◌≤◌, ◌≢◌, ◌≡◌, ◌⊎◌, inl, inr, List, [], ◌∷◌, length, take, drop, refl, ap, sym, subst, ◌∙◌}
use Rattle.std.proofs.Common.{arith, true, false, Bool}
use Rattle.std.specs.Prelude.{slice_get, slice_set, slice_index_or, Option, Some, None, is_some, not, ◌&&◌, ◌||◌, ◌==◌, nat_lt, if◌then◌else◌}
use Rattle.std.specs.List.{list_all, flat_map, filter}
use Rattle.std.proofs.lemmas.List.{length-set, length-take, length-drop, get_or-set_other, get_or-set_same}
use Rattle.std.proofs.lemmas.List.Sums.{sum_by-cons}
use Rattle.std.proofs.lemmas.Option.{slice_get_within, get_or_from_slice_get}
use Rattle.std.proofs.lemmas.Bool.Decides.{nat_tests}
use Rattle.std.proofs.lemmas.Nat.{same_from_place}
use Rattle.geom.specs.declared.plan.Mode.{Mode}
use Rattle.geom.specs.declared.plan.Mode.TheVariants.{Multi, Hts}
use Rattle.geom.specs.declared.plan.Side.{Side}
use Rattle.geom.specs.declared.plan.Side.TheVariants.{Put, Take}
use Rattle.geom.specs.declared.plan.How.{How}
use Rattle.geom.specs.declared.plan.How.TheVariants.{Bulk, Burst}
use Rattle.geom.specs.declared.plan.RingPlan.{RingPlan}
use Rattle.geom.specs.Extent.{Extent, range_of}
use Rattle.geom.specs.Plan.{mode_of, granted}
use Rattle.geom.specs.Fit.{AllFitAny, FitsAny}
use Rattle.geom.proofs.Words.{position_back}
use Rattle.ringcore_laws.specs.declared.contents.Item.{Item}
use Rattle.ringcore_laws.specs.declared.protocol.Step.{Step}
use Rattle.ringcore_laws.specs.declared.protocol.Step.TheVariants.{Look, Room, Reserve, SettlePut, SettleTake, Stash, Unstash}
use Rattle.ringcore_laws.specs.declared.protocol.Reply.{Reply}
use Rattle.ringcore_laws.specs.declared.protocol.Reply.TheVariants.{Seen, Granted, Done, Busy, Contended, NoRoom, NotYet, Worn, NoSpan, BadCount, NotYours}
use Rattle.ringcore_laws.specs.declared.protocol.Span.{Span}
use Rattle.ringcore_laws.specs.declared.party.Party.{Party}
use Rattle.ringcore_laws.specs.Party.{is_on, with_open, with_settled}
use Rattle.ringcore_laws.specs.Moves.{limit, reserved_by, settled_by}
use Rattle.ringcore_laws.specs.RingSide.{RingSide, side_of, listed}
use Rattle.ringcore_laws.specs.Sound.{Sound, SoundRing, holds, queue, occurrences, occurrences_in}
use Rattle.ringcore_laws.specs.HeadTailRule.{HeadTailRule}
use Rattle.ringcore_laws.specs.declared.protocol.Observed.{Observed}
use Rattle.ringcore_laws.specs.History.{Actor, Event, tags, after_step, reply_to, reply_to_one, actor_reply, on_ring, after, one_stepped, parties_of}
use Rattle.ringcore_laws.specs.History.{look_reply, room_reply, reserve_reply, room_by_look, sees, with_tail, buffers_of_actor, is_bad_reserve, own_word}
use Rattle.ringcore_laws.specs.History.{position_of, is_busy, other_side, put_reply, take_reply, IsRun, StaysSound, is_bad_settle, may_put, is_held, is_cached}
use Rattle.ringcore_laws.specs.History.{earlier_open, settled_span, reserve_seen, seen_on, both_seen}
use Rattle.ringcore_laws.specs.Invariant.{Invariant, TrueObserved}
use Rattle.ringcore_laws.proofs.SideLaws.{reserves, settles_side_of}
use Rattle.ringcore_laws.proofs.Laws.{reserve_keeps, put_keeps, take_keeps, same_plan, times_in_is}
use Rattle.ringcore_laws.proofs.RingLaws.{takes_le_puts, below_or_not, length-listed, held_cases}
use Rattle.ringcore_laws.proofs.HeadTailLaws.{orderly_reserved, orderly_settled, IsNext, next_above, first_in_line, on_or_off, own_span}

-- a span or a look on a side has that ring and side
pub on_true : (ring r : ℕ) (side s : Side) → is_on ring side r s ≡ true → (r ≡ ring) × (s ≡ side)
on_true ring r side s on = elim (on_or_off ring r side s) [ inl own ↦ own | inr off ↦ absurd (let h : true ≡ false = sym on ∙ off in cc) ]

-- an own word that is the word looked at shows where the next span starts
pub is_next : {I : Type 0} (e : Extent) (mode : Mode) (l : RingSide I) (word : ℕ) → own_word e mode l ≡ word
    → (mode ≡ Hts → (q : ℕ) × (word ≡ q * range_of e)) → (mode ≡ Hts → l.open_count < range_of e) → IsNext mode l (position_of e mode word)
is_next e Multi l word won whole small = record { multi = λ _. sym won; hts = λ h. absurd (let h' : Multi ≡ Hts = h in cc) }
is_next e Hts l word won whole small =
    let q = (whole refl).0 in
    let is : word ≡ q * range_of e = (whole refl).1 in
    let lt = small refl in
    let both : l.len * range_of e + l.open_count ≡ q * range_of e + 0 = omega (arith, won) in
    let same = same_from_place l.len l.open_count q 0 (range_of e) lt (omega arith) both in
    let start : word / range_of e ≡ q = ap (λ n. n / range_of e) (let whole_word : word ≡ q * range_of e + 0 = omega arith in whole_word) ∙ position_back e q 0 (omega arith) in
    record { multi = λ h. absurd (let h' : Hts ≡ Multi = h in cc); hts = λ _. (omega (arith, same.0), omega (arith, same.1)) }

-- how a settle's count fits its span
pub settle_fits : (mode : Mode) (count reserved : ℕ) → is_bad_settle mode count reserved ≡ false → (count ≤ reserved) × (mode ≡ Multi → count ≡ reserved)
settle_fits Multi count reserved ok = let e : count ≡ reserved = grind (arith, nat_tests) in (omega arith, λ _. e)
settle_fits Hts count reserved ok = (grind (arith, nat_tests), λ h. absurd (let h' : Hts ≡ Multi = h in cc))

pub not_false : (b : Bool) → not b ≡ false → b ≡ true
not_false true h = refl
not_false false h = absurd (let h' : true ≡ false = h in cc)

pub and_true : (b c : Bool) → (b && c) ≡ true → (b ≡ true) × (c ≡ true)
and_true true c h = (refl, h)
and_true false c h = absurd (let h' : false ≡ true = h in cc)

abbrev if_one : Bool → ℕ
if_one t = if t then 1 else 0

zero_if : (t : Bool) → t ≡ false → if_one t ≡ 0
zero_if true h = absurd (let h' : true ≡ false = h in cc)
zero_if false h = refl

-- a number in a list has what all numbers of the list have
pub passes : (p : ℕ → Bool) (numbers : List ℕ) (b : ℕ) → list_all p numbers ≡ true → 0 < occurrences b numbers → p b ≡ true
passes p [] b all some = absurd (omega arith)
passes p (x ∷ xs) b all some =
    let both = and_true (p x) (list_all p xs) all in
    let count = sum_by-cons (λ n. if n == b then 1 else 0) x xs in
    by_test (x == b) refl both.0 count (λ more. passes p xs b both.1 more)
  where
    by_test : (t : Bool) → (x == b) ≡ t → p x ≡ true → occurrences b (x ∷ xs) ≡ (if x == b then 1 else 0) + occurrences b xs
        → (0 < occurrences b xs → p b ≡ true) → p b ≡ true
    by_test true e here count rest = let same : x ≡ b = grind (arith, nat_tests) in ap p (sym same) ∙ here
    by_test false e here count rest = rest (omega (arith, zero_if (x == b) e))

-- what may be put is owned
pub may_put_owned : (free : Bool) (a : Actor) (items : List Item) → may_put free a items ≡ true → (b : ℕ) → occurrences_in tags b items ≤ holds tags b a.party
may_put_owned free a items ok b =
    let numbers = flat_map tags items in
    let first =
    and_true (list_all (is_held a) numbers && list_all (λ n. occurrences n numbers == 1) numbers) (not free || list_all (λ x. length (tags x) == 1) items)
    ok in
    let both = and_true (list_all (is_held a) numbers) (list_all (λ n. occurrences n numbers == 1) numbers) first.0 in
    elim (below_or_not 0 (occurrences b numbers)) [
      | inl some ↦
          let mine = and_true (holds tags b a.party == 1) (not (is_cached a b)) (passes (is_held a) numbers b both.0 some) in
          let once = passes (λ n. occurrences n numbers == 1) numbers b both.1 some in
          let one : holds tags b a.party ≡ 1 = eqb_is (holds tags b a.party) 1 mine.0 in
          let one' : occurrences b numbers ≡ 1 = eqb_is (occurrences b numbers) 1 once in
          omega (arith, times_in_is tags b items)
      | inr none ↦ omega (arith, times_in_is tags b items)
    ]
  where
    eqb_is : (m n : ℕ) → (m == n) ≡ true → m ≡ n
    eqb_is m n h = grind (arith, nat_tests)

-- a choice has what both its values have
pub if_cases : {X : Type 0} (P : X → Type 0) (b : Bool) (x y : X) → (b ≡ true → P x) → (b ≡ false → P y) → P (if b then x else y)
if_cases P true x y yes_case no_case = yes_case refl
if_cases P false x y yes_case no_case = no_case refl

party_of : Actor → Party Item
party_of a = a.party

-- the parties after one actor changed
pub parties_set : (actors : List Actor) (i : ℕ) (a : Actor) → parties_of (slice_set actors i a) ≡ slice_set (parties_of actors) i a.party
parties_set [] i a = refl
parties_set (x ∷ xs) zero a = refl
parties_set (x ∷ xs) (suc i) a = ap (λ v. x.party ∷ v) (parties_set xs i a)

pub parties_at : (actors : List Actor) (i : ℕ) (d : Actor) → i < length actors
    → slice_index_or (parties_of actors) i d.party ≡ (slice_index_or actors i d).party
parties_at [] i d lt = absurd (omega arith)
parties_at (x ∷ xs) zero d lt = refl
parties_at (x ∷ xs) (suc i) d lt = parties_at xs i d (omega arith)

pub parties_length : (actors : List Actor) → length (parties_of actors) ≡ length actors
parties_length [] = refl
parties_length (x ∷ xs) = ap suc (parties_length xs)

pub parties_unchanged : (actors : List Actor) (i : ℕ) (d a : Actor) → i < length actors → a.party ≡ (slice_index_or actors i d).party
    → parties_of (slice_set actors i a) ≡ parties_of actors
parties_unchanged [] i d a lt same = refl
parties_unchanged (x ∷ xs) zero d a lt same = ap (λ v. v ∷ parties_of xs) same
parties_unchanged (x ∷ xs) (suc i) d a lt same = ap (λ v. x.party ∷ v) (parties_unchanged xs i d a (omega arith) same)

module _ (plans : List RingPlan) (pool : ℕ) (actors : List Actor) (i : ℕ) (a : Actor) (lt : i < length actors)
    (at : (d : Actor) → slice_index_or actors i d ≡ a) (k : Invariant plans pool actors) where
  -- the observations of all, if one actor's is new and no tail went back
  observations_after : (b : Actor) (parties : List (Party Item))
      → ((r : ℕ) (side : Side) → (side_of (parties_of actors) r side).len ≤ (side_of parties r side).len)
      → ((s : Observed) → b.observed ≡ Some s → TrueObserved plans parties s)
      → (j : ℕ) (d : Actor) (s : Observed) → j < length (slice_set actors i b) → (slice_index_or (slice_set actors i b) j d).observed ≡ Some s
      → TrueObserved plans parties s
  observations_after b parties grows new j d s lt' seen = elim (same_or_not' j i) [
    | inl same ↦
        new s (sym (ap (λ (v : ℕ). (slice_index_or (slice_set actors i b) v d).observed) same
        ∙ ap (λ (v : Actor). v.observed) (get_or-set_same actors i b d lt)) ∙ seen)
    | inr apart ↦
        let old =
        k.observations j d s (subst (λ (v : ℕ). j < v) (length-set actors i b) lt')
        (sym (ap (λ (v : Actor). v.observed) (get_or-set_other actors i j b d apart)) ∙ seen) in
        record { known = old.known; whole = old.whole; tail_seen = λ t h. omega (arith, old.tail_seen t h, grows s.ring (other_side s.side)) }
  ]
    where
      same_or_not' : (x y : ℕ) → (x ≡ y) ⊎ (x ≢ y)
      same_or_not' x y = grind arith

  -- an actor whose spans and buffers are unchanged
  same_party : (b : Actor) → b.party ≡ a.party → ((s : Observed) → b.observed ≡ Some s → TrueObserved plans (parties_of actors) s)
      → Invariant plans pool (slice_set actors i b)
  same_party b same new =
      let e = parties_unchanged actors i a b lt (same ∙ ap party_of' (sym (at a))) in
      record {
        sound = subst (λ (v : List (Party Item)). Sound tags plans pool v) (sym e) k.sound;
        ruled = subst (λ (v : List (Party Item)). HeadTailRule plans v) (sym e) k.ruled;
        observations =
            subst (λ (v : List (Party Item)). (j : ℕ) (d : Actor) (s : Observed) → j < length (slice_set actors i b)
            → (slice_index_or (slice_set actors i b) j d).observed ≡ Some s → TrueObserved plans v s) (sym e)
            (observations_after b (parties_of actors) (λ r side. omega arith) new);
      }
    where
      party_of' : Actor → Party Item
      party_of' v = v.party

  old_sight : (s : Observed) → a.observed ≡ Some s → TrueObserved plans (parties_of actors) s
  old_sight s h = k.observations i a s lt (ap (λ (v : Actor). v.observed) (at a) ∙ h)

  -- nothing changed
  unchanged : Invariant plans pool (slice_set actors i a)
  unchanged = same_party a refl old_sight

  -- the look is gone
  lookless : Invariant plans pool (slice_set actors i record { party = a.party; observed = None; cached = a.cached })
  lookless = same_party record { party = a.party; observed = None; cached = a.cached } refl (λ s h. absurd (let h' : None ≡ Some s = h in cc))

  look_kept : (ring : ℕ) (side : Side) (plan : RingPlan) → slice_get plans ring ≡ Some plan
      → Invariant plans pool (slice_set actors i (after_step a (Look ring side) (look_reply plan.geometry (mode_of plan side) (side_of (parties_of actors) ring side) a)))
  look_kept ring side plan there =
      if_cases P (is_some a.party.span) NoSpan (if is_busy mode l then Busy (own_word plan.geometry mode l) else Seen (own_word plan.geometry mode l)) (λ _. unchanged)
      (λ _. if_cases P (is_busy mode l) (Busy (own_word plan.geometry mode l)) (Seen (own_word plan.geometry mode l)) (λ _. lookless)
      (λ idle. same_party record {
        party = a.party;
        observed = Some record { ring = ring; side = side; looked_at = own_word plan.geometry mode l; tail_seen = None };
        cached =
            a.cached;
      } refl
      (λ s h. subst (λ (v : Observed). TrueObserved plans (parties_of actors) v) (same_plan h) record {
        known = slice_get_within plans ring plan there;
        whole = λ plan' h' hts.
            let e : plan' ≡ plan = same_plan (sym h' ∙ there) in
            let found = whole mode (ap (λ (v : RingPlan). mode_of v side) (sym e) ∙ hts) idle in
            (found.0, found.1 ∙ ap (λ (v : RingPlan). found.0 * range_of v.geometry) (sym e));
        tail_seen = λ t h'. absurd (let h'' : None ≡ Some t = h' in cc);
      })))
    where
      mode : Mode
      mode = mode_of plan side

      l : RingSide Item
      l = side_of (parties_of actors) ring side

      P : Reply → Type 0
      P r = Invariant plans pool (slice_set actors i (after_step a (Look ring side) r))

      whole : (m : Mode) → m ≡ Hts → is_busy m l ≡ false → (q : ℕ) × (own_word plan.geometry m l ≡ q * range_of plan.geometry)
      whole Multi h idle = absurd (let h' : Multi ≡ Hts = h in cc)
      whole Hts h idle = (l.len, let none : l.open_count ≡ 0 = grind (arith, nat_tests) in omega arith)

  room_kept : (ring : ℕ) (side : Side) → Invariant plans pool
      (slice_set actors i (after_step a (Room ring side) (room_reply ring side (side_of (parties_of actors) ring (other_side side)) a)))
  room_kept ring side =
      if_cases P (is_some a.party.span) NoSpan (if sees ring side a.observed then Seen other.len else NoSpan) (λ _. unchanged)
      (λ _. if_cases P (sees ring side a.observed) (Seen other.len) NoSpan (λ seen. by_sight a.observed refl seen) (λ _. unchanged))
    where
      other : RingSide Item
      other = side_of (parties_of actors) ring (other_side side)

      P : Reply → Type 0
      P r = Invariant plans pool (slice_set actors i (after_step a (Room ring side) r))

      by_sight : (o : Option Observed) → a.observed ≡ o → sees ring side o ≡ true
          → Invariant plans pool (slice_set actors i record { party = a.party; observed = with_tail a.observed other.len; cached = a.cached })
      by_sight None h seen = absurd (let h' : false ≡ true = seen in cc)
      by_sight (Some s) h seen =
          same_party record { party = a.party; observed = with_tail a.observed other.len; cached = a.cached } refl
          (λ s' h'. subst (λ (v : Observed). TrueObserved plans (parties_of actors) v) (same_plan (sym (ap (λ v. with_tail v other.len) h) ∙ h'))
          (let old = old_sight s h in
          let on = on_true s.ring ring s.side side seen in
          record {
            known = old.known;
            whole = old.whole;
            tail_seen =
                λ t is. omega (
                  arith,
                  same_plan is,
                  ap (λ (v : ℕ). (side_of (parties_of actors) v (other_side side)).len) on.0,
                  ap (λ (v : Side). (side_of (parties_of actors) s.ring (other_side v)).len) on.1,
                );
          }))

  -- a span is reserved
  reserved_kept : (ring : ℕ) (side : Side) (plan : RingPlan) (start count : ℕ) → slice_get plans ring ≡ Some plan → FitsAny plan pool → a.party.span ≡ None
      → 0 < count
      → IsNext (mode_of plan side) (side_of (parties_of actors) ring side) start → start + count ≤ plan.geometry.last
      → start + count ≤ limit plan.geometry (parties_of actors) ring side
      → Invariant plans pool (slice_set actors i record {
        party =
            with_open a.party record { ring = ring; side = side; start = start; count = count };
        observed = None;
        cached = a.cached;
      })
  reserved_kept ring side plan start count there fit idle some next last room = record {
    sound = subst (λ (v : List (Party Item)). Sound tags plans pool v) (sym is_new)
        (reserve_keeps tags plans pool parties i a.party span plan k.sound lt' idle' there fit.extent.spare
        (record { behind = above.0; above = above.1; room = room }));
    ruled = subst (λ (v : List (Party Item)). HeadTailRule plans v) (sym is_new)
        (orderly_reserved plans parties i a.party span plan k.ruled lt' idle' there some (slice_get_within plans ring plan there) next last room small);
    observations = observations_after b (parties_of (slice_set actors i b))
        (λ r s. omega (arith, ap (λ (v : List (Party Item)). (side_of v r s).len) is_new, (reserves parties i a.party span r s lt' idle').len))
        (λ s h. absurd (let h' : None ≡ Some s = h in cc));
  }
    where
      parties : List (Party Item)
      parties = parties_of actors

      span : Span
      span = record { ring = ring; side = side; start = start; count = count }

      b : Actor
      b = record { party = with_open a.party span; observed = None; cached = a.cached }

      here : slice_index_or parties i a.party ≡ a.party
      here = parties_at actors i a lt ∙ ap (λ (v : Actor). v.party) (at a)

      lt' : i < length parties
      lt' = omega (arith, parties_length actors)

      idle' : (slice_index_or parties i a.party).span ≡ None
      idle' = ap (λ (v : Party Item). v.span) here ∙ idle

      is_new : parties_of (slice_set actors i b) ≡ reserved_by parties i a.party span
      is_new = parties_set actors i b ∙ ap (λ (v : Party Item). slice_set parties i (with_open v span)) (sym here)

      above : ((side_of parties ring side).len ≤ start) × ((p : ℕ) → start ≤ p → (side_of parties ring side).openers p ≡ 0)
      above = next_above parties ring side plan.geometry (mode_of plan side) start (k.ruled.sides ring side plan there) next

      ring_sound : SoundRing plan.geometry (side_of parties ring Put) (side_of parties ring Take)
      ring_sound = k.sound.rings ring plan there

      small : mode_of plan side ≡ Hts → count < range_of plan.geometry
      small hts = by_side side (next.hts hts).0 room
        where
          by_side : (v : Side) → start ≡ (side_of parties ring v).len → start + count ≤ limit plan.geometry parties ring v → count < range_of plan.geometry
          by_side Put first fits = omega (arith, fit.extent.spare, fit.extent.small, fit.counts side hts, takes_le_puts plan.geometry (side_of parties ring Put) (side_of parties ring Take) ring_sound)
          by_side Take first fits = omega (arith, fit.extent.spare, fit.extent.small, fit.counts side hts, ring_sound.within_capacity)

  granted_le : (how : How) (count room : ℕ) → granted how count room ≤ room
  granted_le Bulk count room = grind (arith, nat_tests)
  granted_le Burst count room = omega arith

  reserve_kept : (ring : ℕ) (side : Side) (how : How) (count : ℕ) (plan : RingPlan) → slice_get plans ring ≡ Some plan → FitsAny plan pool
      → Invariant plans pool (slice_set actors i (after_step a (Reserve ring side how count)
      (reserve_reply plan pool ring side how count (side_of (parties_of actors) ring side) a)))
  reserve_kept ring side how count plan there fit =
      if_cases P (is_some a.party.span) NoSpan (reserve_seen plan side how count l had (seen_on ring side a.observed)) (λ _. unchanged)
      (λ idle. by_sight (none_of a.party.span idle) a.observed refl)
    where
      l : RingSide Item
      l = side_of (parties_of actors) ring side

      had : ℕ
      had = buffers_of_actor pool a

      mode : Mode
      mode = mode_of plan side

      P : Reply → Type 0
      P r = Invariant plans pool (slice_set actors i (after_step a (Reserve ring side how count) r))

      none_of : (o : Option Span) → is_some o ≡ false → o ≡ None
      none_of None h = refl
      none_of (Some s) h = absurd (let h' : true ≡ false = h in cc)

      by_sight : a.party.span ≡ None → (o : Option Observed) → a.observed ≡ o → P (reserve_seen plan side how count l had (seen_on ring side o))
      by_sight idle None h = unchanged
      by_sight idle (Some s) h = by_on (is_on s.ring s.side ring side) refl
        where
          by_tail : (o : Option ℕ) → s.tail_seen ≡ o → is_on s.ring s.side ring side ≡ true
              → P (reserve_seen plan side how count l had (both_seen s.looked_at o))
          by_tail None h' on = unchanged
          by_tail (Some t) h' on =
              if_cases P (is_bad_reserve side plan.free count had) BadCount
              (if m == 0 then NoRoom room else if nat_lt plan.geometry.last (position + m) then Worn
              else if own_word plan.geometry mode l == s.looked_at then Granted position m (room - m) else Contended (own_word plan.geometry mode l)) (λ _. lookless)
              (λ _. if_cases P (m == 0) (NoRoom room) (if nat_lt plan.geometry.last (position + m) then Worn
              else if own_word plan.geometry mode l == s.looked_at then Granted position m (room - m) else Contended (own_word plan.geometry mode l)) (λ _. lookless)
              (λ some. if_cases P (nat_lt plan.geometry.last (position + m)) Worn
              (if own_word plan.geometry mode l == s.looked_at then Granted position m (room - m) else Contended (own_word plan.geometry mode l)) (λ _. lookless)
              (λ last. if_cases P (own_word plan.geometry mode l == s.looked_at) (Granted position m (room - m)) (Contended (own_word plan.geometry mode l))
              (λ won. grant (grind (arith, nat_tests)) (grind (arith, nat_tests)) (grind (arith, nat_tests))) (λ _. lookless))))
            where
              position : ℕ
              position = position_of plan.geometry mode s.looked_at

              room : ℕ
              room = room_by_look side plan.geometry.capacity position t

              m : ℕ
              m = granted how count room

              grant : 0 < m → position + m ≤ plan.geometry.last → own_word plan.geometry mode l ≡ s.looked_at → P (Granted position m (room - m))
              grant some last won =
                  reserved_kept ring side plan position m there fit idle some
                  (is_next plan.geometry mode l s.looked_at won (λ hts. seen.whole plan (ap (slice_get plans) (sym place.0) ∙ there) (ap (mode_of plan) (sym place.1) ∙ hts))
                  (k.ruled.sides ring side plan there).small)
                  last (fits side bound (granted_le how count room))
                where
                  place : (ring ≡ s.ring) × (side ≡ s.side)
                  place = on_true s.ring ring s.side side on

                  seen : TrueObserved plans (parties_of actors) s
                  seen = old_sight s h

                  bound : t ≤ (side_of (parties_of actors) ring (other_side side)).len
                  bound = omega (
                    arith,
                    seen.tail_seen t h',
                    ap (λ (v : ℕ). (side_of (parties_of actors) v (other_side side)).len) place.0,
                    ap (λ (v : Side). (side_of (parties_of actors) s.ring (other_side v)).len) place.1,
                  )

                  fits : (v : Side) → t ≤ (side_of (parties_of actors) ring (other_side v)).len → m ≤ room_by_look v plan.geometry.capacity position t
                      → position + m ≤ limit plan.geometry (parties_of actors) ring v
                  fits Put le most = omega arith
                  fits Take le most = omega arith

          by_on : (b : Bool) → is_on s.ring s.side ring side ≡ b
              → P (reserve_seen plan side how count l had (if b then both_seen s.looked_at s.tail_seen else None))
          by_on true on = by_tail s.tail_seen refl on
          by_on false off = unchanged

  -- a granted span starts after all others
  pub granted_next : (ring : ℕ) (side : Side) (how : How) (count : ℕ) (plan : RingPlan) → slice_get plans ring ≡ Some plan
      → (start many left : ℕ) → reserve_reply plan pool ring side how count (side_of (parties_of actors) ring side) a ≡ Granted start many left
      → IsNext (mode_of plan side) (side_of (parties_of actors) ring side) start × (a.party.span ≡ None)
  granted_next ring side how count plan there =
      if_cases P (is_some a.party.span) NoSpan (reserve_seen plan side how count l had (seen_on ring side a.observed))
      (λ _ s m f h. absurd (let u : NoSpan ≡ Granted s m f = h in cc)) (λ idle. by_sight (none_of a.party.span idle) a.observed refl)
    where
      l : RingSide Item
      l = side_of (parties_of actors) ring side

      had : ℕ
      had = buffers_of_actor pool a

      mode : Mode
      mode = mode_of plan side

      P : Reply → Type 0
      P r = (start many left : ℕ) → r ≡ Granted start many left → IsNext mode l start × (a.party.span ≡ None)

      none_of : (o : Option Span) → is_some o ≡ false → o ≡ None
      none_of None h = refl
      none_of (Some s) h = absurd (let u : true ≡ false = h in cc)

      by_sight : a.party.span ≡ None → (o : Option Observed) → a.observed ≡ o → P (reserve_seen plan side how count l had (seen_on ring side o))
      by_sight idle None seen = λ s m f h. absurd (let u : NoSpan ≡ Granted s m f = h in cc)
      by_sight idle (Some s) seen = by_on (is_on s.ring s.side ring side) refl
        where
          by_tail : (o : Option ℕ) → s.tail_seen ≡ o → is_on s.ring s.side ring side ≡ true
              → P (reserve_seen plan side how count l had (both_seen s.looked_at o))
          by_tail None is on = λ s m f h. absurd (let u : NoSpan ≡ Granted s m f = h in cc)
          by_tail (Some t) is on =
              if_cases P (is_bad_reserve side plan.free count had) BadCount
              (if many == 0 then NoRoom room else if nat_lt plan.geometry.last (position + many) then Worn
              else if own_word plan.geometry mode l == s.looked_at then Granted position many (room - many)
              else Contended (own_word plan.geometry mode l)) (λ _ s m f h. absurd (let u : BadCount ≡ Granted s m f = h in cc))
              (λ _. if_cases P (many == 0) (NoRoom room) (if nat_lt plan.geometry.last (position + many) then Worn
              else if own_word plan.geometry mode l == s.looked_at then Granted position many (room - many)
              else Contended (own_word plan.geometry mode l)) (λ _ s m f h. absurd (let u : NoRoom room ≡ Granted s m f = h in cc))
              (λ _. if_cases P (nat_lt plan.geometry.last (position + many)) Worn
              (if own_word plan.geometry mode l == s.looked_at then Granted position many (room - many) else Contended (own_word plan.geometry mode l))
              (λ _ s m f h. absurd (let u : Worn ≡ Granted s m f = h in cc))
              (λ _. if_cases P (own_word plan.geometry mode l == s.looked_at) (Granted position many (room - many)) (Contended (own_word plan.geometry mode l))
              (λ won start n left h. (subst (λ v. IsNext mode l v) (start_is start n left h) (next (same won)), idle))
              (λ _ s m f h. absurd (let u : Contended (own_word plan.geometry mode l) ≡ Granted s m f = h in cc)))))
            where
              position : ℕ
              position = position_of plan.geometry mode s.looked_at

              room : ℕ
              room = room_by_look side plan.geometry.capacity position t

              many : ℕ
              many = granted how count room

              same : (own_word plan.geometry mode l == s.looked_at) ≡ true → own_word plan.geometry mode l ≡ s.looked_at
              same won = grind (arith, nat_tests)

              start_is : (start n left : ℕ) → Granted position many (room - many) ≡ Granted start n left → position ≡ start
              start_is start n left h = cc

              place : (ring ≡ s.ring) × (side ≡ s.side)
              place = on_true s.ring ring s.side side on

              next : own_word plan.geometry mode l ≡ s.looked_at → IsNext mode l position
              next won =
                  is_next plan.geometry mode l s.looked_at won (λ hts. (old_sight s seen).whole plan (ap (slice_get plans) (sym place.0) ∙ there)
                  (ap (mode_of plan) (sym place.1) ∙ hts)) (k.ruled.sides ring side plan there).small

          by_on : (b : Bool) → is_on s.ring s.side ring side ≡ b
              → P (reserve_seen plan side how count l had (if b then both_seen s.looked_at s.tail_seen else None))
          by_on true on = by_tail s.tail_seen refl on
          by_on false off = λ s m f h. absurd (let u : NoSpan ≡ Granted s m f = h in cc)

  -- the own open span is settled, and soundness is kept
  settled_kept : (span : Span) (plan : RingPlan) (items : List Item) → a.party.span ≡ Some span → slice_get plans span.ring ≡ Some plan
      → span.start ≡ (side_of (parties_of actors) span.ring span.side).len
      → length items ≤ span.count → (mode_of plan span.side ≡ Multi → length items ≡ span.count)
      → Sound tags plans pool (settled_by (parties_of actors) i a.party span items)
      → Invariant plans pool (slice_set actors i record { party = with_settled a.party span items; observed = a.observed; cached = a.cached })
  settled_kept span plan items busy there first fits whole sound = record {
    sound = subst (λ (v : List (Party Item)). Sound tags plans pool v) (sym is_new) sound;
    ruled = subst (λ (v : List (Party Item)). HeadTailRule plans v) (sym is_new)
        (orderly_settled plans parties i a.party span items plan k.ruled lt' busy' there first fits whole);
    observations =
        observations_after b (parties_of (slice_set actors i b)) grows
        (λ s h. let old =
        old_sight s h in record {
          known = old.known;
          whole = old.whole;
          tail_seen =
              λ t h'. omega (arith, old.tail_seen t h', grows s.ring (other_side s.side));
        });
  }
    where
      parties : List (Party Item)
      parties = parties_of actors

      b : Actor
      b = record { party = with_settled a.party span items; observed = a.observed; cached = a.cached }

      here : slice_index_or parties i a.party ≡ a.party
      here = parties_at actors i a lt ∙ ap (λ (v : Actor). v.party) (at a)

      lt' : i < length parties
      lt' = omega (arith, parties_length actors)

      busy' : (slice_index_or parties i a.party).span ≡ Some span
      busy' = ap (λ (v : Party Item). v.span) here ∙ busy

      is_new : parties_of (slice_set actors i b) ≡ settled_by parties i a.party span items
      is_new = parties_set actors i b ∙ ap (λ (v : Party Item). slice_set parties i (with_settled v span items)) (sym here)

      grows : (r : ℕ) (side : Side) → (side_of parties r side).len ≤ (side_of (parties_of (slice_set actors i b)) r side).len
      grows r side =
          omega (
            arith,
            ap (λ (v : List (Party Item)). (side_of v r side).len) is_new,
            (settles_side_of parties i a.party span record { ring = span.ring; side = span.side; start = span.start; items = items } r side lt' busy').len,
          )

  put_kept : (ring : ℕ) (items : List Item) (plan : RingPlan) → slice_get plans ring ≡ Some plan
      → Invariant plans pool (slice_set actors i (after_step a (SettlePut ring items) (put_reply plan ring (parties_of actors) a items a.party.span)))
  put_kept ring items plan there = by_span a.party.span refl
    where
      parties : List (Party Item)
      parties = parties_of actors

      P : Reply → Type 0
      P r = Invariant plans pool (slice_set actors i (after_step a (SettlePut ring items) r))

      here : slice_index_or parties i a.party ≡ a.party
      here = parties_at actors i a lt ∙ ap (λ (v : Actor). v.party) (at a)

      lt' : i < length parties
      lt' = omega (arith, parties_length actors)

      by_span : (o : Option Span) → a.party.span ≡ o → P (put_reply plan ring parties a items o)
      by_span None h = unchanged
      by_span (Some s) h =
          if_cases P (not (is_on s.ring s.side ring Put)) NoSpan
          (if is_bad_settle plan.put (length items) s.count then BadCount else if not (may_put plan.free a items) then NotYours
          else if earlier_open ring Put s.start parties then NotYet (side_of parties ring Put).len else Done (length items) [])
          (λ _. unchanged)
          (λ on. if_cases P (is_bad_settle plan.put (length items) s.count) BadCount
          (if not (may_put plan.free a items) then NotYours else if earlier_open ring Put s.start parties then NotYet (side_of parties ring Put).len
          else Done (length items) [])
          (λ _. unchanged)
          (λ fits. if_cases P (not (may_put plan.free a items)) NotYours
          (if earlier_open ring Put s.start parties then NotYet (side_of parties ring Put).len else Done (length items) []) (λ _. unchanged)
          (λ mine. if_cases P (earlier_open ring Put s.start parties) (NotYet (side_of parties ring Put).len) (Done (length items) []) (λ _. unchanged)
          (λ none. done (not_false (is_on s.ring s.side ring Put) on) (settle_fits plan.put (length items) s.count fits)
          (not_false (may_put plan.free a items) mine) none))))
        where
          done : is_on s.ring s.side ring Put ≡ true → (length items ≤ s.count) × (plan.put ≡ Multi → length items ≡ s.count) → may_put plan.free a items ≡ true
              → earlier_open ring Put s.start parties ≡ false → P (Done (length items) [])
          done on fits mine none =
              subst (λ (v : Option Span). Invariant plans pool (slice_set actors i
              record { party = settled_span a.party v items; observed = a.observed; cached = a.cached })) (sym busy)
              (settled_kept span plan items busy there first fits.0 fits.1
              (put_keeps tags plans pool parties i a.party ring s.start s.count items plan k.sound lt' busy' there first fits.0 room owned))
            where
              place : (ring ≡ s.ring) × (Put ≡ s.side)
              place = on_true s.ring ring s.side Put on

              span : Span
              span = record { ring = ring; side = Put; start = s.start; count = s.count }

              is_span : s ≡ span
              is_span = λ j. record { ring = sym place.0 j; side = sym place.1 j; start = s.start; count = s.count }

              busy : a.party.span ≡ Some span
              busy = h ∙ ap (λ (v : Span). Some v) is_span

              busy' : (slice_index_or parties i a.party).span ≡ Some span
              busy' = ap (λ (v : Party Item). v.span) here ∙ busy

              ring_sound : SoundRing plan.geometry (side_of parties ring Put) (side_of parties ring Take)
              ring_sound = k.sound.rings ring plan there

              first : s.start ≡ (side_of parties ring Put).len
              first = first_in_line plans parties i a.party span plan k.ruled ring_sound.published ring_sound.puts_unsettled lt' busy' there none

              room : (side_of parties ring Put).len + length items ≤ (side_of parties ring Take).len + plan.geometry.capacity
              room = omega (arith, fits.0, first, (own_span parties i a.party span lt' busy').1, k.ruled.room ring plan there)

              owned : (b : ℕ) → occurrences_in tags b items ≤ holds tags b (slice_index_or parties i a.party)
              owned b = subst (λ (v : Party Item). occurrences_in tags b items ≤ holds tags b v) (sym here) (may_put_owned plan.free a items mine b)

  take_kept : (ring count : ℕ) (plan : RingPlan) → slice_get plans ring ≡ Some plan
      → Invariant plans pool (slice_set actors i (after_step a (SettleTake ring count) (take_reply plan ring (parties_of actors) count a.party.span)))
  take_kept ring count plan there = by_span a.party.span refl
    where
      parties : List (Party Item)
      parties = parties_of actors

      P : Reply → Type 0
      P r = Invariant plans pool (slice_set actors i (after_step a (SettleTake ring count) r))

      here : slice_index_or parties i a.party ≡ a.party
      here = parties_at actors i a lt ∙ ap (λ (v : Actor). v.party) (at a)

      lt' : i < length parties
      lt' = omega (arith, parties_length actors)

      by_span : (o : Option Span) → a.party.span ≡ o → P (take_reply plan ring parties count o)
      by_span None h = unchanged
      by_span (Some s) h =
          if_cases P (not (is_on s.ring s.side ring Take)) NoSpan
          (if is_bad_settle plan.take count s.count then BadCount else if earlier_open ring Take s.start parties then NotYet (side_of parties ring Take).len
          else Done count items)
          (λ _. unchanged)
          (λ on. if_cases P (is_bad_settle plan.take count s.count) BadCount
          (if earlier_open ring Take s.start parties then NotYet (side_of parties ring Take).len else Done count items)
          (λ _. unchanged)
          (λ fits. if_cases P (earlier_open ring Take s.start parties) (NotYet (side_of parties ring Take).len) (Done count items) (λ _. unchanged)
          (λ none. done (not_false (is_on s.ring s.side ring Take) on) (settle_fits plan.take count s.count fits) none)))
        where
          items : List Item
          items = take count (drop s.start (listed (side_of parties ring Put)))

          done : is_on s.ring s.side ring Take ≡ true → (count ≤ s.count) × (plan.take ≡ Multi → count ≡ s.count)
              → earlier_open ring Take s.start parties ≡ false → P (Done count items)
          done on fits none =
              subst (λ (v : Option Span). Invariant plans pool (slice_set actors i
              record { party = settled_span a.party v items; observed = a.observed; cached = a.cached })) (sym busy)
              (settled_kept span plan items busy there first (omega (arith, fits.0, many)) (λ multi. many ∙ fits.1 multi)
              (take_keeps tags plans pool parties i a.party ring s.start s.count items plan k.sound lt' busy' there first (omega (arith, fits.0, many)) next))
            where
              place : (ring ≡ s.ring) × (Take ≡ s.side)
              place = on_true s.ring ring s.side Take on

              span : Span
              span = record { ring = ring; side = Take; start = s.start; count = s.count }

              is_span : s ≡ span
              is_span = λ j. record { ring = sym place.0 j; side = sym place.1 j; start = s.start; count = s.count }

              busy : a.party.span ≡ Some span
              busy = h ∙ ap (λ (v : Span). Some v) is_span

              busy' : (slice_index_or parties i a.party).span ≡ Some span
              busy' = ap (λ (v : Party Item). v.span) here ∙ busy

              ring_sound : SoundRing plan.geometry (side_of parties ring Put) (side_of parties ring Take)
              ring_sound = k.sound.rings ring plan there

              first : s.start ≡ (side_of parties ring Take).len
              first = first_in_line plans parties i a.party span plan k.ruled ring_sound.dequeued ring_sound.takes_unsettled lt' busy' there none

              positive : 0 < s.count
              positive = (k.ruled.spans i a.party span lt' busy').positive

              last : 0 < (side_of parties ring Take).openers (s.start + (s.count - 1))
              last = elim (held_cases span (s.start + (s.count - 1))) [
                | inl inside ↦ omega (arith, inside.2, (own_span parties i a.party span lt' busy').2 (s.start + (s.count - 1)))
                | inr out ↦ elim out.0 [ inl x ↦ absurd (omega arith) | inr y ↦ absurd (omega (arith, positive)) ]
              ]

              stands : s.start + s.count ≤ (side_of parties ring Put).len
              stands = omega (arith, (ring_sound.takes_are_queued (s.start + (s.count - 1)) last).1, positive)

              many : length items ≡ count
              many = length-take count (drop s.start (listed (side_of parties ring Put)))
                  ∙ (let e1 = length-drop s.start (listed (side_of parties ring Put)) in let e2 =
                  length-listed (side_of parties ring Put) ring_sound.published in omega (arith, stands, fits.0))

              next : items ≡ take (length items) (queue parties ring)
              next = ap (λ v. take v (drop s.start (listed (side_of parties ring Put)))) (sym many)
                  ∙ ap (λ v. take (length items) (drop v (listed (side_of parties ring Put)))) first

  -- whatever the step, its reply keeps everything
  pub step_kept : AllFitAny plans pool → (step : Step) → Invariant plans pool
      (slice_set actors i (after_step a step (actor_reply plans pool (parties_of actors) a step)))
  step_kept fits (Look ring side) = by_plan (slice_get plans ring) refl
    where
      by_plan : (o : Option RingPlan) → slice_get plans ring ≡ o
          → Invariant plans pool (slice_set actors i (after_step a (Look ring side)
          (on_ring o (λ plan. look_reply plan.geometry (mode_of plan side) (side_of (parties_of actors) ring side) a))))
      by_plan None h = unchanged
      by_plan (Some plan) h = look_kept ring side plan h
  step_kept fits (Room ring side) = by_plan (slice_get plans ring) refl
    where
      by_plan : (o : Option RingPlan) → slice_get plans ring ≡ o
          → Invariant plans pool (slice_set actors i (after_step a (Room ring side)
          (on_ring o (λ plan. room_reply ring side (side_of (parties_of actors) ring (other_side side)) a))))
      by_plan None h = unchanged
      by_plan (Some plan) h = room_kept ring side
  step_kept fits (Reserve ring side how count) = by_plan (slice_get plans ring) refl
    where
      by_plan : (o : Option RingPlan) → slice_get plans ring ≡ o
          → Invariant plans pool (slice_set actors i (after_step a (Reserve ring side how count)
          (on_ring o (λ plan. reserve_reply plan pool ring side how count (side_of (parties_of actors) ring side) a))))
      by_plan None h = unchanged
      by_plan (Some plan) h = reserve_kept ring side how count plan h (fits ring plan h)
  step_kept fits (SettlePut ring items) = by_plan (slice_get plans ring) refl
    where
      by_plan : (o : Option RingPlan) → slice_get plans ring ≡ o
          → Invariant plans pool (slice_set actors i (after_step a (SettlePut ring items)
          (on_ring o (λ plan. put_reply plan ring (parties_of actors) a items a.party.span))))
      by_plan None h = unchanged
      by_plan (Some plan) h = put_kept ring items plan h
  step_kept fits (SettleTake ring count) = by_plan (slice_get plans ring) refl
    where
      by_plan : (o : Option RingPlan) → slice_get plans ring ≡ o
          → Invariant plans pool (slice_set actors i (after_step a (SettleTake ring count)
          (on_ring o (λ plan. take_reply plan ring (parties_of actors) count a.party.span))))
      by_plan None h = unchanged
      by_plan (Some plan) h = take_kept ring count plan h
  step_kept fits (Stash b) =
      if_cases (λ r. Invariant plans pool (slice_set actors i (after_step a (Stash b) r))) (is_held a b) (Seen b) NotYours
      (λ _. same_party record { party = a.party; observed = a.observed; cached = b ∷ a.cached } refl old_sight) (λ _. unchanged)
  step_kept fits (Unstash b) =
      if_cases (λ r. Invariant plans pool (slice_set actors i (after_step a (Unstash b) r))) ((holds tags b a.party == 1) && is_cached a b) (Seen b) NotYours
      (λ _. same_party record { party = a.party; observed = a.observed; cached = filter (λ c. not (c == b)) a.cached } refl old_sight) (λ _. unchanged)

-- one more event, with the right reply
pub event_kept : (plans : List RingPlan) (pool : ℕ) (actors : List Actor) (e : Event) → AllFitAny plans pool → e.reply ≡ reply_to plans pool actors e.actor e.step
    → Invariant plans pool actors → Invariant plans pool (after actors e)
unfolding reply_to after
event_kept plans pool actors e fits right k = by_actor (slice_get actors e.actor) refl
  where
    by_actor : (o : Option Actor) → slice_get actors e.actor ≡ o → Invariant plans pool (one_stepped actors e.actor (slice_get actors e.actor) e.step e.reply)
    by_actor None h = subst (λ (v : Option Actor). Invariant plans pool (one_stepped actors e.actor v e.step e.reply)) (sym h) k
    by_actor (Some a) h =
        let reply : e.reply ≡ actor_reply plans pool (parties_of actors) a e.step =
        right ∙ ap (λ (v : Option Actor). reply_to_one plans pool (parties_of actors) v e.step) h in
        subst (λ (v : Option Actor). Invariant plans pool (one_stepped actors e.actor v e.step e.reply)) (sym h)
        (subst (λ (v : Reply). Invariant plans pool (slice_set actors e.actor (after_step a e.step v))) (sym reply)
        (step_kept plans pool actors e.actor a (slice_get_within actors e.actor a h) (λ d. get_or_from_slice_get actors e.actor a d h) k fits e.step))

-- every history
pub history_sound : (plans : List RingPlan) (pool : ℕ) (actors : List Actor) (events : List Event) → AllFitAny plans pool → Invariant plans pool actors
    → IsRun plans pool actors events → StaysSound plans pool actors events
history_sound plans pool actors [] fits k right = k.sound
history_sound plans pool actors (e ∷ events) fits k right =
    (k.sound, history_sound plans pool (after actors e) events fits (event_kept plans pool actors e fits right.0 k) right.1)
