-- Soundness is kept when a party reserves a span or settles one, when a newcomer comes, and when two parties become one
use Rattle.std.proofs.Common.{ℕ, zero, suc, ◌+◌, ◌<◌, ◌≤◌, ◌≢◌, ◌≡◌, ◌⊎◌, inl, inr, max, List, [], ◌∷◌, ◌++◌, length, take, drop, refl, ap, sym, subst, ◌∙◌}
use Rattle.std.proofs.Common.{arith, true, false}
use Rattle.std.specs.Prelude.{slice_get, slice_set, slice_index_or, Some, None, ◌&&◌, ◌==◌, if◌then◌else◌}
use Rattle.std.specs.List.{flat_map, sum_by, range_with_len}
use Rattle.std.proofs.Math.Bool.{and-false}
use Rattle.std.proofs.lemmas.List.{append-nil, drop-append-le, drop-drop, take-append-drop}
use Rattle.std.proofs.lemmas.List.Sums.{sum_by-set, sum_by-append, sum_by-cons}
use Rattle.std.proofs.lemmas.Bool.Decides.{nat_tests}
use Rattle.std.proofs.lemmas.Option.{slice_get_within}
use Rattle.geom.specs.declared.plan.Side.{Side}
use Rattle.geom.specs.declared.plan.Side.TheVariants.{Put, Take}
use Rattle.geom.specs.declared.plan.RingPlan.{RingPlan}
use Rattle.geom.specs.Extent.{Extent}
use Rattle.ringcore_laws.specs.declared.protocol.Span.{Span}
use Rattle.ringcore_laws.specs.declared.party.Party.{Party}
use Rattle.ringcore_laws.specs.Party.{is_on, same_side, covers, newcomer, with_open, joined}
use Rattle.ringcore_laws.specs.Moves.{IsReservable, Owns, reserved_by, settled_by}
use Rattle.ringcore_laws.specs.RingSide.{RingSide, side_of, listed, IsGapless, span_end, settled_end, item_at}
use Rattle.ringcore_laws.specs.Sound.{Sound, SoundRing, queue, occurrences, occurrences_in, moved, settled_times, holds, in_ring, place_count}
use Rattle.ringcore_laws.proofs.Lists.{sum_by_joined, item_at_before, each_set, each_push}
use Rattle.ringcore_laws.proofs.SideLaws.{Reserves, reserves, Settles, settles, settles_side_of, side_of_newcomer, side_of_together}
use Rattle.ringcore_laws.proofs.RingLaws.{open_count, reserved_on, settled_on, put_reserved, take_reserved, put_settled, take_settled, below_or_not}
use Rattle.ringcore_laws.proofs.RingLaws.{length-listed, listed_settled, takes_le_puts}

-- rings and sides

pub on_own : (ring : ℕ) (side : Side) → is_on ring side ring side ≡ true
on_own ring Put = grind (arith, nat_tests)
on_own ring Take = grind (arith, nat_tests)

pub off_ring : (ring r : ℕ) (side s : Side) → r ≢ ring → is_on ring side r s ≡ false
off_ring ring r side s apart = let e : (ring == r) ≡ false = grind (arith, nat_tests) in ap (λ b. b && same_side side s) e

pub off_put : (ring r : ℕ) → is_on ring Take r Put ≡ false
off_put ring r = and-false (ring == r)

pub off_take : (ring r : ℕ) → is_on ring Put r Take ≡ false
off_take ring r = and-false (ring == r)

pub same_or_not : (a b : ℕ) → (a ≡ b) ⊎ (a ≢ b)
same_or_not a b = grind arith

pub same_plan : {X : Type 0} {a b : X} → Some a ≡ Some b → a ≡ b
same_plan h = cc

pub sum_by_same : {X : Type 0} (f g : X → ℕ) (xs : List X) → ((x : X) → f x ≡ g x) → sum_by f xs ≡ sum_by g xs
sum_by_same f g xs h = ap (λ v. sum_by v xs) (λ i x. h x i)

pub range_same : (f g : ℕ → ℕ) (a n : ℕ) → ((r : ℕ) → a ≤ r → r < a + n → g r ≡ f r) → sum_by g (range_with_len a n) ≡ sum_by f (range_with_len a n)
range_same f g a zero h = refl
range_same f g a (suc n) h =
    let hf = sum_by-cons f a (range_with_len (a + 1) n) in
    let hg = sum_by-cons g a (range_with_len (a + 1) n) in
    omega (arith, h a (omega arith) (omega arith), range_same f g (a + 1) n (λ r le lt. h r (omega arith) (omega arith)))

-- an element of a list
pub element : {X : Type 0} (xs : List X) (r : ℕ) → r < length xs → (x : X) × (slice_get xs r ≡ Some x)
element [] r lt = absurd (omega arith)
element (x ∷ xs) zero lt = (x, refl)
element (x ∷ xs) (suc r) lt = element xs r (omega arith)

-- a sum over numbers in which one counts more
pub sum_range_more : (f g : ℕ → ℕ) (a n at c : ℕ) → ((r : ℕ) → r ≢ at → g r ≡ f r) → g at ≡ f at + c → a ≤ at → at < a + n
    → sum_by g (range_with_len a n) ≡ sum_by f (range_with_len a n) + c
sum_range_more f g a zero at c others here le lt = absurd (omega arith)
sum_range_more f g a (suc n) at c others here le lt =
    let hf = sum_by-cons f a (range_with_len (a + 1) n) in
    let hg = sum_by-cons g a (range_with_len (a + 1) n) in
    elim (same_or_not a at) [
      | inl same ↦
          let first : g a ≡ f a + c = ap g same ∙ (here ∙ ap (λ v. f v + c) (sym same)) in
          let rest : sum_by g (range_with_len (a + 1) n) ≡ sum_by f (range_with_len (a + 1) n) =
          range_same f g (a + 1) n (λ r above below. others r (omega arith)) in
          omega arith
      | inr apart ↦
          let first : g a ≡ f a = others a apart in
          let rest = sum_range_more f g (a + 1) n at c others here (omega arith) (omega arith) in
          omega arith
    ]

module _ {I : Type 0} where
  pub same_side_of : (a b : RingSide I) → ((p : ℕ) → a.items_at p ≡ b.items_at p) → a.len ≡ b.len → ((p : ℕ) → a.openers p ≡ b.openers p)
      → a.open_count ≡ b.open_count → a.reach ≡ b.reach → a ≡ b
  same_side_of a b settled len openers open_count reach =
      λ i. record { items_at = λ p. settled p i; len = len i; openers = λ p. openers p i; open_count = open_count i; reach = reach i }

  pub same_listed : (a b : RingSide I) → ((p : ℕ) → a.items_at p ≡ b.items_at p) → a.len ≡ b.len → listed a ≡ listed b
  unfolding listed
  same_listed a b settled len = λ i. flat_map (λ p. settled p i) (range_with_len 0 (len i))

  -- the own side after a span is reserved, and any other
  pub reserved_own : (a b : RingSide I) (span : Span) → Reserves a b span.ring span.side span → b ≡ reserved_on a span
  reserved_own a b span r =
      let on = on_own span.ring span.side in
      same_side_of b (reserved_on a span) r.items_at r.len
      (λ p. r.openers p ∙ ap (λ v. a.openers p + (if v && covers span p then 1 else 0)) on)
      (r.open_count ∙ ap (λ v. a.open_count + (if v then span.count else 0)) on)
      (r.reach ∙ ap (λ v. max a.reach (if v then span.start + span.count else 0)) on)

  pub reserved_other : (a b : RingSide I) (ring : ℕ) (side : Side) (span : Span) → Reserves a b ring side span → is_on span.ring span.side ring side ≡ false
      → b ≡ a
  reserved_other a b ring side span r off =
      same_side_of b a r.items_at r.len
      (λ p. r.openers p ∙ (ap (λ v. a.openers p + (if v && covers span p then 1 else 0)) off ∙ more (a.openers p)))
      (r.open_count ∙ (ap (λ v. a.open_count + (if v then span.count else 0)) off ∙ more a.open_count))
      (r.reach ∙ (ap (λ v. max a.reach (if v then span.start + span.count else 0)) off ∙ most a.reach))
    where
      more : (n : ℕ) → n + 0 ≡ n
      more n = omega arith

      most : (n : ℕ) → max n 0 ≡ n
      most n = omega arith

  -- the own side after a span is settled that starts where the settled items end, and any other
  pub settled_own : (a b : RingSide I) (span : Span) (items : List I) → IsGapless a → span.start ≡ a.len
      → Settles a b span.ring span.side span record { ring = span.ring; side = span.side; start = span.start; items = items }
      → b ≡ settled_on a span items b.reach
  settled_own a b span items g first r =
      same_side_of b (settled_on a span items b.reach) at (r.len ∙ ap (λ v. a.len + (if v then length items else 0)) on)
      (λ p. let h : b.openers p + open_count span p ≡ a.openers p =
      ap (λ v. b.openers p + (if v && covers span p then 1 else 0)) (sym on) ∙ r.openers p in omega arith)
      (let h : b.open_count + span.count ≡ a.open_count = ap (λ v. b.open_count + (if v then span.count else 0)) (sym on) ∙ r.open_count in omega arith)
      refl
    where
      on : is_on span.ring span.side span.ring span.side ≡ true
      on = on_own span.ring span.side

      at : (p : ℕ) → b.items_at p ≡ a.items_at p ++ item_at span.start items p
      at p = elim (below_or_not p a.len) [
        | inl lt ↦
            let none : item_at span.start items p ≡ [] = item_at_before span.start items p (omega arith) in
            r.elsewhere p (ap (λ v. if v then item_at span.start items p else []) on ∙ none)
            ∙ (sym (append-nil (a.items_at p)) ∙ ap (λ v. a.items_at p ++ v) (sym none))
        | inr le ↦
            r.here p (g.none p le) ∙ (ap (λ v. if v then item_at span.start items p else []) on ∙ ap (λ v. v ++ item_at span.start items p) (sym (g.none p le)))
      ]

  pub settled_other : (a b : RingSide I) (ring : ℕ) (side : Side) (span : Span) (items : List I)
      → Settles a b ring side span record { ring = span.ring; side = span.side; start = span.start; items = items }
      → is_on span.ring span.side ring side ≡ false → b ≡ a
  settled_other a b ring side span items r off =
      same_side_of b a (λ p. r.elsewhere p (ap (λ v. if v then item_at span.start items p else []) off))
      (r.len ∙ (ap (λ v. a.len + (if v then length items else 0)) off ∙ more a.len))
      (λ p. let h : b.openers p + 0 ≡ a.openers p = ap (λ v. b.openers p + (if v && covers span p then 1 else 0)) (sym off) ∙ r.openers p in omega arith)
      (let h : b.open_count + 0 ≡ a.open_count = ap (λ v. b.open_count + (if v then span.count else 0)) (sym off) ∙ r.open_count in omega arith)
      (let h1 : span_end ring side (Some span) ≡ 0 = ap (λ v. if v then span.start + span.count else 0) off in
      let h2 : settled_end ring side record { ring = span.ring; side = span.side; start = span.start; items = items } ≡ 0 =
      ap (λ v. if v then span.start + length items else 0) off in
      let h3 = r.reach in omega arith)
    where
      more : (n : ℕ) → n + 0 ≡ n
      more n = omega arith

  -- the ring of the span
  pub ring_reserved : (e : Extent) (parties : List (Party I)) (i : ℕ) (d : Party I) (ring : ℕ) (side : Side) (start count : ℕ) → e.capacity < e.size
      → i < length parties → (slice_index_or parties i d).span ≡ None
      → IsReservable e parties record { ring = ring; side = side; start = start; count = count }
      → SoundRing e (side_of parties ring Put) (side_of parties ring Take)
      → SoundRing e (side_of (reserved_by parties i d record { ring = ring; side = side; start = start; count = count }) ring Put)
      (side_of (reserved_by parties i d record { ring = ring; side = side; start = start; count = count }) ring Take)
  ring_reserved e parties i d ring Put start count spare lt idle ok s =
      let span : Span = record { ring = ring; side = Put; start = start; count = count } in
      let own = reserved_own (side_of parties ring Put) (side_of (reserved_by parties i d span) ring Put) span (reserves parties i d span ring Put lt idle) in
      let other =
      reserved_other (side_of parties ring Take) (side_of (reserved_by parties i d span) ring Take) ring Take span
      (reserves parties i d span ring Take lt idle) (off_take ring ring) in
      let new = put_reserved e (side_of parties ring Put) (side_of parties ring Take) s span spare ok.behind ok.above ok.room in
      subst (λ (v : RingSide I). SoundRing e v (side_of (reserved_by parties i d span) ring Take)) (sym own)
      (subst (λ (v : RingSide I). SoundRing e (reserved_on (side_of parties ring Put) span) v) (sym other) new)
  ring_reserved e parties i d ring Take start count spare lt idle ok s =
      let span : Span = record { ring = ring; side = Take; start = start; count = count } in
      let own =
      reserved_own (side_of parties ring Take) (side_of (reserved_by parties i d span) ring Take) span (reserves parties i d span ring Take lt idle) in
      let other =
      reserved_other (side_of parties ring Put) (side_of (reserved_by parties i d span) ring Put) ring Put span (reserves parties i d span ring Put lt idle)
      (off_put ring ring) in
      let new = take_reserved e (side_of parties ring Put) (side_of parties ring Take) s span ok.behind ok.above ok.room in
      subst (λ (v : RingSide I). SoundRing e v (side_of (reserved_by parties i d span) ring Take)) (sym other)
      (subst (λ (v : RingSide I). SoundRing e (side_of parties ring Put) v) (sym own) new)

module _ {I : Type 0} (tags : I → List ℕ) where
  -- the buffers in items, one item after another
  pub times_in_is : (b : ℕ) (items : List I) → occurrences_in tags b items ≡ occurrences b (flat_map tags items)
  times_in_is b [] = refl
  times_in_is b (x ∷ xs) =
      omega (arith, sum_by-cons (λ v. occurrences b (tags v)) x xs, sum_by-append (λ n. if n == b then 1 else 0) (tags x) (flat_map tags xs), times_in_is b xs)

  pub same_queue : (before after : List (Party I)) (ring : ℕ)
      → ((side : Side) (p : ℕ) → (side_of after ring side).items_at p ≡ (side_of before ring side).items_at p)
      → ((side : Side) → (side_of after ring side).len ≡ (side_of before ring side).len)
      → queue after ring ≡ queue before ring
  same_queue before after ring settled len =
      ap (λ v. drop v (listed (side_of after ring Put))) (len Take)
      ∙ ap (drop (side_of before ring Take).len) (same_listed (side_of after ring Put) (side_of before ring Put) (settled Put) (len Put))

  -- a won Reserve keeps soundness
  pub reserve_keeps : (plans : List RingPlan) (pool : ℕ) (parties : List (Party I)) (i : ℕ) (d : Party I) (span : Span) (plan : RingPlan)
      → Sound tags plans pool parties → i < length parties → (slice_index_or parties i d).span ≡ None → slice_get plans span.ring ≡ Some plan
      → plan.geometry.capacity < plan.geometry.size
      → IsReservable plan.geometry parties span → Sound tags plans pool (reserved_by parties i d span)
  unfolding place_count holds moved
  reserve_keeps plans pool parties i d span plan s lt idle there spare ok = record {
    rings = λ r plan' h. elim (same_or_not r span.ring) [
      | inl same ↦
          let e : plan' ≡ plan = same_plan (sym h ∙ (ap (slice_get plans) same ∙ there)) in
          subst (λ (v : RingPlan). SoundRing v.geometry (side_of after r Put) (side_of after r Take)) (sym e)
          (subst (λ (v : ℕ). SoundRing plan.geometry (side_of after v Put) (side_of after v Take)) (sym same)
          (ring_reserved plan.geometry parties i d span.ring span.side span.start span.count spare lt idle ok (s.rings span.ring plan there)))
      | inr apart ↦
          subst (λ (v : RingSide I). SoundRing plan'.geometry v (side_of after r Take)) (sym (other r Put apart))
          (subst (λ (v : RingSide I). SoundRing plan'.geometry (side_of parties r Put) v) (sym (other r Take apart)) (s.rings r plan' h))
    ];
    buffers = record {
      never_below_none =
          λ k d' b lt'. each_set (λ (party : Party I). moved tags Put b party ≤ occurrences b party.given + moved tags Take b party) parties i
          (with_open (slice_index_or parties i d) span)
          (λ j e h. s.buffers.never_below_none j e b h) (s.buffers.never_below_none i d b lt) k d' lt';
      one_place = λ b in_pool. same_places b ∙ s.buffers.one_place b in_pool;
      no_place = λ b out. same_places b ∙ s.buffers.no_place b out;
    };
  }
    where
      after : List (Party I)
      after = reserved_by parties i d span

      other : (r : ℕ) (side : Side) → r ≢ span.ring → side_of after r side ≡ side_of parties r side
      other r side apart =
          reserved_other (side_of parties r side) (side_of after r side) r side span (reserves parties i d span r side lt idle)
          (off_ring span.ring r span.side side apart)

      same_places : (b : ℕ) → place_count tags (length plans) b after ≡ place_count tags (length plans) b parties
      same_places b =
          let h1 : sum_by (holds tags b) after ≡ sum_by (holds tags b) parties =
          let h = sum_by-set (holds tags b) parties i (with_open (slice_index_or parties i d) span) d lt in omega arith in
          let h2 : sum_by (in_ring tags b after) (range_with_len 0 (length plans)) ≡ sum_by (in_ring tags b parties) (range_with_len 0 (length plans)) =
          sum_by_same (in_ring tags b after) (in_ring tags b parties) (range_with_len 0 (length plans))
          (λ r. ap (occurrences_in tags b) (same_queue parties after r (λ side. (reserves parties i d span r side lt idle).items_at)
          (λ side. (reserves parties i d span r side lt idle).len))) in
          omega arith

  -- a settled put keeps soundness
  pub put_keeps : (plans : List RingPlan) (pool : ℕ) (parties : List (Party I)) (i : ℕ) (d : Party I) (ring start count : ℕ) (items : List I) (plan : RingPlan)
      → Sound tags plans pool parties → i < length parties → (slice_index_or parties i d).span
      ≡ Some record { ring = ring; side = Put; start = start; count = count } → slice_get plans ring ≡ Some plan
      → start ≡ (side_of parties ring Put).len → length items ≤ count
      → (side_of parties ring Put).len + length items ≤ (side_of parties ring Take).len + plan.geometry.capacity
      → Owns tags (slice_index_or parties i d) items
      → Sound tags plans pool (settled_by parties i d record { ring = ring; side = Put; start = start; count = count } items)
  unfolding place_count holds moved
  put_keeps plans pool parties i d ring start count items plan s lt busy there first fits room owned = record {
    rings = λ r plan' h. elim (same_or_not r ring) [
      | inl same ↦
          let e : plan' ≡ plan = same_plan (sym h ∙ (ap (slice_get plans) same ∙ there)) in
          subst (λ (v : RingPlan). SoundRing v.geometry (side_of after r Put) (side_of after r Take)) (sym e)
          (subst (λ (v : ℕ). SoundRing plan.geometry (side_of after v Put) (side_of after v Take)) (sym same)
          (subst (λ (v : RingSide I). SoundRing plan.geometry v (side_of after ring Take)) (sym own)
          (subst (λ (v : RingSide I). SoundRing plan.geometry (settled_on (side_of parties ring Put) span items (side_of after ring Put).reach) v)
          (sym opposite) new)))
      | inr apart ↦
          subst (λ (v : RingSide I). SoundRing plan'.geometry v (side_of after r Take)) (sym (other r Put apart))
          (subst (λ (v : RingSide I). SoundRing plan'.geometry (side_of parties r Put) v) (sym (other r Take apart)) (s.rings r plan' h))
    ];
    buffers = record {
      never_below_none =
          λ k d' b lt'. each_set (λ (party : Party I). moved tags Put b party ≤ occurrences b party.given + moved tags Take b party) parties i party_after
          (λ j e h. s.buffers.never_below_none j e b h) (had b) k d' lt';
      one_place = λ b in_pool. same_places b ∙ s.buffers.one_place b in_pool;
      no_place = λ b out. same_places b ∙ s.buffers.no_place b out;
    };
  }
    where
      span : Span
      span = record { ring = ring; side = Put; start = start; count = count }

      after : List (Party I)
      after = settled_by parties i d span items

      party_after : Party I
      party_after = settles (slice_index_or parties i d) record { ring = ring; side = Put; start = start; items = items }

      step : (r : ℕ) (side : Side) → Settles (side_of parties r side) (side_of after r side) r side span
          record { ring = ring; side = Put; start = start; items = items }
      step r side = settles_side_of parties i d span record { ring = ring; side = Put; start = start; items = items } r side lt busy

      other : (r : ℕ) (side : Side) → r ≢ ring → side_of after r side ≡ side_of parties r side
      other r side apart = settled_other (side_of parties r side) (side_of after r side) r side span items (step r side) (off_ring ring r Put side apart)

      opposite : side_of after ring Take ≡ side_of parties ring Take
      opposite = settled_other (side_of parties ring Take) (side_of after ring Take) ring Take span items (step ring Take) (off_take ring ring)

      ring_sound : SoundRing plan.geometry (side_of parties ring Put) (side_of parties ring Take)
      ring_sound = s.rings ring plan there

      own : side_of after ring Put ≡ settled_on (side_of parties ring Put) span items (side_of after ring Put).reach
      own = settled_own (side_of parties ring Put) (side_of after ring Put) span items ring_sound.published first (step ring Put)

      held_here : (p : ℕ) → open_count span p ≤ (side_of parties ring Put).openers p
      held_here p = let h : (side_of after ring Put).openers p + open_count span p ≡ (side_of parties ring Put).openers p =
          ap (λ v. (side_of after ring Put).openers p + (if v && covers span p then 1 else 0)) (sym (on_own ring Put)) ∙ (step ring Put).openers p in
          omega arith

      new : SoundRing plan.geometry (settled_on (side_of parties ring Put) span items (side_of after ring Put).reach) (side_of parties ring Take)
      new = put_settled plan.geometry (side_of parties ring Put) (side_of parties ring Take) ring_sound span items (side_of after ring Put).reach first
          held_here fits room

      queue_after : queue after ring ≡ queue parties ring ++ items
      queue_after =
          ap (λ (v : RingSide I). drop v.len (listed (side_of after ring Put))) opposite
          ∙ (ap (λ (v : RingSide I). drop (side_of parties ring Take).len (listed v)) own
          ∙ (ap (drop (side_of parties ring Take).len) (listed_settled (side_of parties ring Put) span items (side_of after ring Put).reach ring_sound.published
          first)
          ∙ drop-append-le (side_of parties ring Take).len (listed (side_of parties ring Put)) items
          (omega (
            arith,
            length-listed (side_of parties ring Put) ring_sound.published,
            takes_le_puts plan.geometry (side_of parties ring Put) (side_of parties ring Take) ring_sound,
          ))))

      put_more : (b : ℕ) → moved tags Put b party_after ≡ occurrences_in tags b items + moved tags Put b (slice_index_or parties i d)
      put_more b = sum_by-cons (settled_times tags Put b) record { ring = ring; side = Put; start = start; items = items } (slice_index_or parties i d).settled

      took_same : (b : ℕ) → moved tags Take b party_after ≡ moved tags Take b (slice_index_or parties i d)
      took_same b =
          omega (
            arith,
            sum_by-cons (settled_times tags Take b) record { ring = ring; side = Put; start = start; items = items }
                (slice_index_or parties i d).settled,
          )

      had : (b : ℕ) → moved tags Put b party_after ≤ occurrences b party_after.given + moved tags Take b party_after
      had b = omega (arith, put_more b, took_same b, owned b, s.buffers.never_below_none i d b lt)

      same_places : (b : ℕ) → place_count tags (length plans) b after ≡ place_count tags (length plans) b parties
      same_places b =
          let h = sum_by-set (holds tags b) parties i party_after d lt in
          let own_holds : holds tags b party_after + occurrences_in tags b items ≡ holds tags b (slice_index_or parties i d) =
          omega (arith, put_more b, took_same b, owned b) in
          let here : in_ring tags b after ring ≡ in_ring tags b parties ring + occurrences_in tags b items =
          ap (occurrences_in tags b) queue_after ∙ sum_by-append (λ x. occurrences b (tags x)) (queue parties ring) items in
          let on_rings = sum_range_more (in_ring tags b parties) (in_ring tags b after) 0 (length plans) ring (occurrences_in tags b items)
          (λ r apart. ap (λ (v : RingSide I). occurrences_in tags b (drop v.len (listed (side_of after r Put)))) (other r Take apart)
          ∙ ap (λ (v : RingSide I). occurrences_in tags b (drop (side_of parties r Take).len (listed v))) (other r Put apart))
          here (omega arith) (omega (arith, slice_get_within plans ring plan there)) in
          omega arith

  -- a settled take of the items at its positions keeps soundness
  pub take_keeps : (plans : List RingPlan) (pool : ℕ) (parties : List (Party I)) (i : ℕ) (d : Party I) (ring start count : ℕ) (items : List I) (plan : RingPlan)
      → Sound tags plans pool parties → i < length parties → (slice_index_or parties i d).span
      ≡ Some record { ring = ring; side = Take; start = start; count = count } → slice_get plans ring ≡ Some plan
      → start ≡ (side_of parties ring Take).len → length items ≤ count → items ≡ take (length items) (queue parties ring)
      → Sound tags plans pool (settled_by parties i d record { ring = ring; side = Take; start = start; count = count } items)
  unfolding place_count holds moved
  take_keeps plans pool parties i d ring start count items plan s lt busy there first fits next = record {
    rings = λ r plan' h. elim (same_or_not r ring) [
      | inl same ↦
          let e : plan' ≡ plan = same_plan (sym h ∙ (ap (slice_get plans) same ∙ there)) in
          subst (λ (v : RingPlan). SoundRing v.geometry (side_of after r Put) (side_of after r Take)) (sym e)
          (subst (λ (v : ℕ). SoundRing plan.geometry (side_of after v Put) (side_of after v Take)) (sym same)
          (subst (λ (v : RingSide I). SoundRing plan.geometry v (side_of after ring Take)) (sym opposite)
          (subst (λ (v : RingSide I). SoundRing plan.geometry (side_of parties ring Put) v) (sym own) new)))
      | inr apart ↦
          subst (λ (v : RingSide I). SoundRing plan'.geometry v (side_of after r Take)) (sym (other r Put apart))
          (subst (λ (v : RingSide I). SoundRing plan'.geometry (side_of parties r Put) v) (sym (other r Take apart)) (s.rings r plan' h))
    ];
    buffers = record {
      never_below_none =
          λ k d' b lt'. each_set (λ (party : Party I). moved tags Put b party ≤ occurrences b party.given + moved tags Take b party) parties i party_after
          (λ j e h. s.buffers.never_below_none j e b h) (had b) k d' lt';
      one_place = λ b in_pool. same_places b ∙ s.buffers.one_place b in_pool;
      no_place = λ b out. same_places b ∙ s.buffers.no_place b out;
    };
  }
    where
      span : Span
      span = record { ring = ring; side = Take; start = start; count = count }

      after : List (Party I)
      after = settled_by parties i d span items

      party_after : Party I
      party_after = settles (slice_index_or parties i d) record { ring = ring; side = Take; start = start; items = items }

      step : (r : ℕ) (side : Side) → Settles (side_of parties r side) (side_of after r side) r side span
          record { ring = ring; side = Take; start = start; items = items }
      step r side = settles_side_of parties i d span record { ring = ring; side = Take; start = start; items = items } r side lt busy

      other : (r : ℕ) (side : Side) → r ≢ ring → side_of after r side ≡ side_of parties r side
      other r side apart = settled_other (side_of parties r side) (side_of after r side) r side span items (step r side) (off_ring ring r Take side apart)

      opposite : side_of after ring Put ≡ side_of parties ring Put
      opposite = settled_other (side_of parties ring Put) (side_of after ring Put) ring Put span items (step ring Put) (off_put ring ring)

      ring_sound : SoundRing plan.geometry (side_of parties ring Put) (side_of parties ring Take)
      ring_sound = s.rings ring plan there

      own : side_of after ring Take ≡ settled_on (side_of parties ring Take) span items (side_of after ring Take).reach
      own = settled_own (side_of parties ring Take) (side_of after ring Take) span items ring_sound.dequeued first (step ring Take)

      held_here : (p : ℕ) → open_count span p ≤ (side_of parties ring Take).openers p
      held_here p = let h : (side_of after ring Take).openers p + open_count span p ≡ (side_of parties ring Take).openers p =
          ap (λ v. (side_of after ring Take).openers p + (if v && covers span p then 1 else 0)) (sym (on_own ring Take)) ∙ (step ring Take).openers p in
          omega arith

      stands : items ≡ take (length items) (drop start (listed (side_of parties ring Put)))
      stands = next ∙ ap (λ v. take (length items) (drop v (listed (side_of parties ring Put)))) (sym first)

      new : SoundRing plan.geometry (side_of parties ring Put) (settled_on (side_of parties ring Take) span items (side_of after ring Take).reach)
      new = take_settled plan.geometry (side_of parties ring Put) (side_of parties ring Take) ring_sound span items (side_of after ring Take).reach first
          held_here fits stands

      queue_after : items ++ queue after ring ≡ queue parties ring
      queue_after =
          ap (λ (v : RingSide I). items ++ drop (side_of after ring Take).len (listed v)) opposite
          ∙ (ap (λ (v : RingSide I). items ++ drop v.len (listed (side_of parties ring Put))) own
          ∙ (ap (λ v. items ++ v) (sym (drop-drop (length items) (side_of parties ring Take).len (listed (side_of parties ring Put))))
          ∙ (ap (λ v. v ++ drop (length items) (queue parties ring)) next ∙ take-append-drop (length items) (queue parties ring))))

      took_more : (b : ℕ) → moved tags Take b party_after ≡ occurrences_in tags b items + moved tags Take b (slice_index_or parties i d)
      took_more b =
          sum_by-cons (settled_times tags Take b) record { ring = ring; side = Take; start = start; items = items } (slice_index_or parties i d).settled

      put_same : (b : ℕ) → moved tags Put b party_after ≡ moved tags Put b (slice_index_or parties i d)
      put_same b =
          omega (
            arith,
            sum_by-cons (settled_times tags Put b) record { ring = ring; side = Take; start = start; items = items }
                (slice_index_or parties i d).settled,
          )

      had : (b : ℕ) → moved tags Put b party_after ≤ occurrences b party_after.given + moved tags Take b party_after
      had b = omega (arith, took_more b, put_same b, s.buffers.never_below_none i d b lt)

      same_places : (b : ℕ) → place_count tags (length plans) b after ≡ place_count tags (length plans) b parties
      same_places b =
          let h = sum_by-set (holds tags b) parties i party_after d lt in
          let own_holds : holds tags b party_after ≡ holds tags b (slice_index_or parties i d) + occurrences_in tags b items =
          omega (arith, took_more b, put_same b, s.buffers.never_below_none i d b lt) in
          let here : in_ring tags b parties ring ≡ in_ring tags b after ring + occurrences_in tags b items =
          let split = sum_by-append (λ x. occurrences b (tags x)) items (queue after ring) in
          let joined : occurrences_in tags b (items ++ queue after ring) ≡ occurrences_in tags b (queue parties ring) =
          ap (occurrences_in tags b) queue_after in
          omega arith in
          let on_rings = sum_range_more (in_ring tags b after) (in_ring tags b parties) 0 (length plans) ring (occurrences_in tags b items)
          (λ r apart. sym (ap (λ (v : RingSide I). occurrences_in tags b (drop v.len (listed (side_of after r Put)))) (other r Take apart)
          ∙ ap (λ (v : RingSide I). occurrences_in tags b (drop (side_of parties r Take).len (listed v))) (other r Put apart)))
          here (omega arith) (omega (arith, slice_get_within plans ring plan there)) in
          omega arith

  -- a newcomer without spans and buffers keeps soundness
  pub newcomer_keeps : (plans : List RingPlan) (pool : ℕ) (parties : List (Party I)) → Sound tags plans pool parties
      → Sound tags plans pool (parties ++ newcomer [] ∷ [])
  unfolding place_count holds moved
  newcomer_keeps plans pool parties s = record {
    rings = λ r plan h.
        subst (λ (v : RingSide I). SoundRing plan.geometry v (side_of (parties ++ newcomer [] ∷ []) r Take)) (sym (side_of_newcomer parties [] r Put))
        (subst (λ (v : RingSide I). SoundRing plan.geometry (side_of parties r Put) v) (sym (side_of_newcomer parties [] r Take)) (s.rings r plan h));
    buffers = record {
      never_below_none =
          λ k d b lt. each_push (λ (party : Party I). moved tags Put b party ≤ occurrences b party.given + moved tags Take b party) parties (newcomer [])
          (λ j e h. s.buffers.never_below_none j e b h) (omega arith) k d lt;
      one_place = λ b in_pool. same_places b ∙ s.buffers.one_place b in_pool;
      no_place = λ b out. same_places b ∙ s.buffers.no_place b out;
    };
  }
    where
      same_places : (b : ℕ) → place_count tags (length plans) b (parties ++ newcomer [] ∷ []) ≡ place_count tags (length plans) b parties
      same_places b =
          let h = sum_by-append (holds tags b) parties (newcomer [] ∷ []) in
          let rings : sum_by (in_ring tags b (parties ++ newcomer [] ∷ [])) (range_with_len 0 (length plans))
          ≡ sum_by (in_ring tags b parties) (range_with_len 0 (length plans)) =
          sum_by_same (in_ring tags b (parties ++ newcomer [] ∷ [])) (in_ring tags b parties) (range_with_len 0 (length plans))
          (λ r. ap (λ (v : RingSide I). occurrences_in tags b (drop v.len (listed (side_of (parties ++ newcomer [] ∷ []) r Put))))
          (side_of_newcomer parties [] r Take)
          ∙ ap (λ (v : RingSide I). occurrences_in tags b (drop (side_of parties r Take).len (listed v))) (side_of_newcomer parties [] r Put)) in
          omega arith

  abbrev pub joined_by : List (Party I) → ℕ → ℕ → Party I → List (Party I)
  joined_by parties i j d = slice_set (slice_set parties i (joined (slice_index_or parties i d) (slice_index_or parties j d))) j (newcomer [])

  -- every side is as before
  pub joined_sides : (plans : List RingPlan) (pool : ℕ) (parties : List (Party I)) (i j : ℕ) (d : Party I) (r : ℕ) (plan : RingPlan) (side : Side)
      → Sound tags plans pool parties → slice_get plans r ≡ Some plan → i < length parties → j < length parties → j ≢ i
      → (slice_index_or parties i d).span ≡ None → (slice_index_or parties j d).span ≡ None
      → side_of (joined_by parties i j d) r side ≡ side_of parties r side
  joined_sides plans pool parties i j d r plan side s there at_i at_j apart idle_i idle_j =
      side_of_together parties i j d r side at_i at_j apart idle_i idle_j (one_at (side_of parties r side) (gapless side))
    where
      one_at : (l : RingSide I) → IsGapless l → (p : ℕ) → length (l.items_at p) ≤ 1
      one_at l g p = elim (below_or_not p l.len) [ inl lt ↦ omega (arith, g.one p lt) | inr le ↦ omega (arith, ap length (g.none p le)) ]

      gapless : (side : Side) → IsGapless (side_of parties r side)
      gapless Put = (s.rings r plan there).published
      gapless Take = (s.rings r plan there).dequeued

  -- two parties without open spans made one keep soundness. The second's place is a newcomer's from then on
  pub joined_keeps : (plans : List RingPlan) (pool : ℕ) (parties : List (Party I)) (i j : ℕ) (d : Party I)
      → Sound tags plans pool parties → i < length parties → j < length parties → j ≢ i → (slice_index_or parties i d).span ≡ None
      → (slice_index_or parties j d).span ≡ None
      → Sound tags plans pool (joined_by parties i j d)
  unfolding place_count holds moved
  joined_keeps plans pool parties i j d s at_i at_j apart idle_i idle_j = record {
    rings = λ r plan h.
        subst (λ (v : RingSide I). SoundRing plan.geometry v (side_of after r Take)) (sym (same_put r plan h))
        (subst (λ (v : RingSide I). SoundRing plan.geometry (side_of parties r Put) v) (sym (same_take r plan h)) (s.rings r plan h));
    buffers = record {
      never_below_none =
          λ k d' b lt. each_set (λ (party : Party I). moved tags Put b party ≤ occurrences b party.given + moved tags Take b party) (slice_set parties i both) j
          (newcomer [])
          (each_set (λ (party : Party I). moved tags Put b party ≤ occurrences b party.given + moved tags Take b party) parties i both
          (λ k e h. s.buffers.never_below_none k e b h) (had b)) (omega arith) k d' lt;
      one_place = λ b in_pool. same_places b ∙ s.buffers.one_place b in_pool;
      no_place = λ b out. same_places b ∙ s.buffers.no_place b out;
    };
  }
    where
      a : Party I
      a = slice_index_or parties i d

      b' : Party I
      b' = slice_index_or parties j d

      both : Party I
      both = joined a b'

      after : List (Party I)
      after = joined_by parties i j d

      same_put : (r : ℕ) (plan : RingPlan) → slice_get plans r ≡ Some plan → side_of after r Put ≡ side_of parties r Put
      same_put r plan h = joined_sides plans pool parties i j d r plan Put s h at_i at_j apart idle_i idle_j

      same_take : (r : ℕ) (plan : RingPlan) → slice_get plans r ≡ Some plan → side_of after r Take ≡ side_of parties r Take
      same_take r plan h = joined_sides plans pool parties i j d r plan Take s h at_i at_j apart idle_i idle_j

      moved_both : (side : Side) (b : ℕ) → moved tags side b both ≡ moved tags side b a + moved tags side b b'
      moved_both side b = sum_by-append (settled_times tags side b) a.settled b'.settled

      given_both : (b : ℕ) → occurrences b both.given ≡ occurrences b a.given + occurrences b b'.given
      given_both b = sum_by-append (λ n. if n == b then 1 else 0) a.given b'.given

      had : (b : ℕ) → moved tags Put b both ≤ occurrences b both.given + moved tags Take b both
      had b = omega (arith, moved_both Put b, moved_both Take b, given_both b, s.buffers.never_below_none i d b at_i, s.buffers.never_below_none j d b at_j)

      same_places : (b : ℕ) → place_count tags (length plans) b after ≡ place_count tags (length plans) b parties
      same_places b =
          let held_both : holds tags b both ≡ holds tags b a + holds tags b b' =
          omega (arith, moved_both Put b, moved_both Take b, given_both b, s.buffers.never_below_none i d b at_i, s.buffers.never_below_none j d b at_j) in
          let parties_same = sum_by_joined (holds tags b) parties i j both (newcomer []) d at_i at_j apart held_both refl in
          let rings_same = range_same (in_ring tags b parties) (in_ring tags b after) 0 (length plans)
          (λ r low high.
          let plan = element plans r (omega arith) in
          ap (λ (v : RingSide I). occurrences_in tags b (drop v.len (listed (side_of after r Put)))) (same_take r plan.0 plan.1)
          ∙ ap (λ (v : RingSide I). occurrences_in tags b (drop (side_of parties r Take).len (listed v))) (same_put r plan.0 plan.1)) in
          omega arith
