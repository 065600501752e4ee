-- What is at home in the slots of all rings, when a span of one ring is reserved or settled
use Rattle.std.proofs.Common.{◌≡◌, ℕ, zero, suc, ◌+◌, ◌-◌, ◌%◌, ◌<◌, ◌≤◌, ◌≢◌, ◌⊎◌, inl, inr, List, [], ◌∷◌, ◌++◌, length, map, take, drop, sym, ap, ◌∙◌}
use Rattle.std.proofs.Common.{mod-lt, arith, replicate}
use Rattle.std.specs.Prelude.{slice_get, Option, Some, None}
use mathlib.Core.Option.{some}
use mathlib.Core.Option as maybe
use lib.ListN.{get_elem?}
use Rattle.std.proofs.lemmas.List.{length-append, length-drop, length-take}
use Rattle.std.proofs.lemmas.List.Sums.{sum_by-cons}
use Rattle.std.proofs.lemmas.Option.{slice_get_within}
use Rattle.geom.specs.declared.plan.RingPlan.{RingPlan}
use Rattle.ringcore_laws.specs.declared.protocol.Span.{Span}
use Rattle.ringcore_laws.specs.RingSide.{RingSide, listed}
use Rattle.ringcore_laws.specs.Sound.{SoundRing}
use Rattle.ringcore_laws.proofs.RingLaws.{below_or_not, held_cases, length-listed, listed_settled, reserved_on, settled_on, slots_differ, takes_le_puts}
use Rattle.fabric_laws.specs.Rule.{AtHome}
use Rattle.fabric_laws.specs.Words.{slot_at, slot_count, slots_before, slots_in}
use Rattle.fabric_laws.specs.Kinds.{run}
use Rattle.fabric_laws.proofs.Cells.{before_rest, behind_items, behind_many, get_dropped, get_left, get_right, get_taken, item_in_front, item_of, length-cells}
use Rattle.fabric_laws.proofs.Cells.{length-many, one_of_many}
use Rattle.fabric_laws.proofs.Slots.{AreApart, emptied, emptied_else, filled, filled_else, filled_here}

-- 1. Slots of rings

pub before_fits : (plans : List RingPlan) (r : ℕ) (plan : RingPlan) → slice_get plans r ≡ Some plan → slots_before plans r + slots_in plan ≤ slot_count plans
before_fits [] r plan h = absurd (let u : None ≡ Some plan = h in cc)
before_fits (x ∷ xs) zero plan h = let same : x ≡ plan = (let u : Some x ≡ Some plan = h in cc) in omega (arith, sum_by-cons slots_in x xs, ap slots_in same)
before_fits (x ∷ xs) (suc r) plan h = omega (arith, sum_by-cons slots_in x xs, before_fits xs r plan h)

before_apart : (plans : List RingPlan) (r q : ℕ) (plan : RingPlan) → slice_get plans r ≡ Some plan → r < q
    → slots_before plans r + slots_in plan ≤ slots_before plans q
before_apart [] r q plan h lt = absurd (let u : None ≡ Some plan = h in cc)
before_apart (x ∷ xs) zero zero plan h lt = absurd (omega arith)
before_apart (x ∷ xs) zero (suc q) plan h lt = let same : x ≡ plan = (let u : Some x ≡ Some plan = h in cc) in omega (arith, ap slots_in same)
before_apart (x ∷ xs) (suc r) zero plan h lt = absurd (omega arith)
before_apart (x ∷ xs) (suc r) (suc q) plan h lt = omega (arith, before_apart xs r q plan h (omega arith))

-- two rings have no slot in common
pub rings_apart : (plans : List RingPlan) (r q : ℕ) (plan plan' : RingPlan) (i j : ℕ) → slice_get plans r ≡ Some plan → slice_get plans q ≡ Some plan' → r ≢ q
    → 0 < slots_in plan → 0 < slots_in plan'
    → slot_at plans r plan i ≢ slot_at plans q plan' j
rings_apart plans r q plan plan' i j at at' apart pos pos' e =
    let one : i % slots_in plan < slots_in plan = mod-lt i pos in
    let two : j % slots_in plan' < slots_in plan' = mod-lt j pos' in
    elim (below_or_not r q) [
      | inl lt ↦ omega (arith, before_apart plans r q plan at lt)
      | inr ge ↦ omega (arith, before_apart plans q r plan' at' (omega arith))
    ]

pub slot_inside : (plans : List RingPlan) (r : ℕ) (plan : RingPlan) (p : ℕ) → slice_get plans r ≡ Some plan → 0 < slots_in plan
    → slot_at plans r plan p < slot_count plans
slot_inside plans r plan p at pos = let one : p % slots_in plan < slots_in plan = mod-lt p pos in omega (arith, before_fits plans r plan at)

-- positions of one turn of a ring have different slots
pub turn_apart : (plans : List RingPlan) (r : ℕ) (plan : RingPlan) (low p q : ℕ) → low ≤ p → p < low + slots_in plan → low ≤ q → q < low + slots_in plan
    → slot_at plans r plan p ≡ slot_at plans r plan q → p ≡ q
turn_apart plans r plan low p q lp hp lq hq e =
    slots_differ (slots_in plan) low p q lp hp lq hq (let u : p % slots_in plan ≡ q % slots_in plan = omega arith in u)

pub run_apart : (plans : List RingPlan) (r : ℕ) (plan : RingPlan) (p n : ℕ) → n ≤ slots_in plan → AreApart (slot_at plans r plan) p n
run_apart plans r plan p n fits j k lj lk e =
    let same : p + j ≡ p + k = turn_apart plans r plan p (p + j) (p + k) (omega arith) (omega arith) (omega arith) (omega arith) e in
    omega arith

-- a position of the turn that isn't in the run has none of its slots
off_run : (plans : List RingPlan) (r : ℕ) (plan : RingPlan) (low start n q : ℕ) → low ≤ start → start + n ≤ low + slots_in plan → low ≤ q
    → q < low + slots_in plan → (q < start) ⊎ (start + n ≤ q)
    → (k : ℕ) → k < n → slot_at plans r plan q ≢ slot_at plans r plan (start + k)
off_run plans r plan low start n q above below lq hq out k lt e =
    let same = turn_apart plans r plan low q (start + k) lq hq (omega arith) (omega arith) e in
    elim out [ inl before ↦ omega arith | inr after ↦ omega arith ]

mod_past : (p n : ℕ) → 0 < n → (p + n) % n ≡ p % n
mod_past p n pos = grind (arith, pos)

module _ {T : Type 0} where
  -- 2. The ring of a span that is reserved

  module _ (plans : List RingPlan) (hs : List (maybe.Option (Option T))) (puts takes : RingSide T) (r : ℕ) (plan : RingPlan)
      (sound : SoundRing plan.geometry puts takes) (spare : plan.geometry.capacity < plan.geometry.size) (home : AtHome plans hs puts takes r plan) where
    abbrev slot : ℕ → ℕ
    slot p = slot_at plans r plan p

    listed_below : (p : ℕ) (x : T) → slice_get (listed puts) p ≡ Some x → p < puts.len
    listed_below p x at = omega (arith, slice_get_within (listed puts) p x at, length-listed puts sound.published)

    module _ (span : Span) (ys : List (Option T)) (many : length ys ≡ span.count) where
      abbrev out : List (maybe.Option (Option T))
      out = emptied hs (run slot span.start ys)

      stays : (p : ℕ) → takes.len ≤ span.start → span.start + span.count ≤ takes.len + slots_in plan → takes.len ≤ p → p < takes.len + slots_in plan
          → (p < span.start) ⊎ (span.start + span.count ≤ p) → get_elem? out (slot p) ≡ get_elem? hs (slot p)
      stays p above fits lp hp off =
          emptied_else slot hs span.start ys (slot p) (λ k lt. off_run plans r plan takes.len span.start span.count p above fits lp hp off k (omega arith))

      pub home_put_reserved : puts.len ≤ span.start → span.start + span.count ≤ takes.len + plan.geometry.capacity
          → AtHome plans out (reserved_on puts span) takes r plan
      unfolding listed
      home_put_reserved behind room = record {
        full = λ p x le free at.
            let lt : p < puts.len = listed_below p x at in
            stays p (omega (arith, low)) (omega arith) le (omega (arith, sound.within_capacity)) (inl (omega arith)) ∙ home.full p x le free at;
        vacant = λ p le none lt. elim (held_cases span p) [
          | inl inside ↦ absurd (omega (arith, inside.2))
          | inr off ↦ stays p (omega (arith, low)) (omega arith) (omega (arith, low)) lt off.0 ∙ home.vacant p le (omega arith) lt
        ];
      }
        where
          low : takes.len ≤ puts.len
          low = takes_le_puts plan.geometry puts takes sound

      pub home_take_reserved : takes.len ≤ span.start → span.start + span.count ≤ puts.len → AtHome plans out puts (reserved_on takes span) r plan
      home_take_reserved behind room = record {
        full = λ p x le free at.
            let lt : p < puts.len = listed_below p x at in
            elim (held_cases span p) [
              | inl inside ↦ absurd (omega (arith, inside.2))
              | inr off ↦
                  stays p behind (omega (arith, sound.within_capacity)) le (omega (arith, sound.within_capacity)) off.0 ∙ home.full p x le (omega arith) at
            ];
        vacant = λ p le none lt.
            stays p behind (omega (arith, sound.within_capacity)) (omega (arith, takes_le_puts plan.geometry puts takes sound)) lt (inr (omega arith))
            ∙ home.vacant p le none lt;
      }

    -- 3. The ring of a span that is settled

    module _ (span : Span) (ys : List (Option T)) (many : length ys ≡ span.count) (inside : (p : ℕ) → slot p < length hs) where
      abbrev back : List (maybe.Option (Option T))
      back = filled slot hs span.start ys

      stays_back : (p : ℕ) → takes.len ≤ span.start → span.start + span.count ≤ takes.len + slots_in plan → takes.len ≤ p → p < takes.len + slots_in plan
          → (p < span.start) ⊎ (span.start + span.count ≤ p) → get_elem? back (slot p) ≡ get_elem? hs (slot p)
      stays_back p above fits lp hp off =
          filled_else slot hs span.start ys (slot p) (λ k lt. off_run plans r plan takes.len span.start span.count p above fits lp hp off k (omega arith))

      comes_back : (k : ℕ) (y : Option T) → span.count ≤ slots_in plan → get_elem? ys k ≡ some y → get_elem? back (slot (span.start + k)) ≡ some (some y)
      comes_back k y fits at =
          filled_here slot hs span.start ys k y (run_apart plans r plan span.start (length ys) (omega arith)) (λ j lt. inside (span.start + j)) at

    -- a put of items; what was reserved beyond them is given up
    module _ (span : Span) (items : List T) (reach : ℕ) (inside : (p : ℕ) → slot p < length hs) (first : span.start ≡ puts.len)
        (fits : length items ≤ span.count)
        (room : span.start + span.count ≤ takes.len + plan.geometry.capacity) where
      abbrev put_cells : List (Option T)
      put_cells = map Some items ++ replicate (span.count - length items) None

      pub many : length put_cells ≡ span.count
      many = omega (
        arith,
        length-append (map Some items) (replicate (span.count - length items) None),
        length-cells items,
        length-many {X = Option T} (span.count - length items) None,
      )

      low : takes.len ≤ puts.len
      low = takes_le_puts plan.geometry puts takes sound

      pub home_put_settled : AtHome plans (filled slot hs span.start put_cells) (settled_on puts span items reach) takes r plan
      home_put_settled = record {
        full = λ p x le free at. elim (below_or_not p puts.len) [
          | inl old ↦
              stays_back span put_cells many inside p (omega (arith, low)) (omega arith) le (omega (arith, sound.within_capacity)) (inl (omega arith))
              ∙ home.full p x le free (sym (get_left (listed puts) items p (omega (arith, all))) ∙ (ap (λ l. slice_get l p) (sym listed_new) ∙ at))
          | inr new ↦
              let place : p ≡ span.start + (p - span.start) = omega arith in
              let item : slice_get items (p - length (listed puts)) ≡ Some x =
              sym (get_right (listed puts) items p (omega (arith, all))) ∙ (ap (λ l. slice_get l p) (sym listed_new) ∙ at) in
              let item' : slice_get items (p - span.start) ≡ Some x =
              ap (λ n. slice_get items (p - n)) (let e : span.start ≡ length (listed puts) = omega (arith, all) in e) ∙ item in
              ap (λ n. get_elem? (filled slot hs span.start put_cells) (slot n)) place
              ∙ comes_back span put_cells many inside (p - span.start) (Some x) (omega (arith, low))
              (item_in_front items (replicate (span.count - length items) None) (p - span.start) x item')
        ];
        vacant = λ p le none lt. elim (held_cases span p) [
          | inl held ↦
              let k : ℕ = p - (span.start + length items) in
              let place : p ≡ span.start + (length items + k) = omega (arith, held.0) in
              ap (λ n. get_elem? (filled slot hs span.start put_cells) (slot n)) place
              ∙ comes_back span put_cells many inside (length items + k) None (omega (arith, low))
              (behind_items items (replicate (span.count - length items) None) k ∙ one_of_many (span.count - length items) None k (omega (arith, held.1)))
          | inr off ↦
              stays_back span put_cells many inside p (omega (arith, low)) (omega arith) (omega (arith, low)) lt off.0
              ∙ home.vacant p (omega arith) (omega (arith, off.1)) lt
        ];
      }
        where
          all : length (listed puts) ≡ puts.len
          all = length-listed puts sound.published

          listed_new : listed (settled_on puts span items reach) ≡ listed puts ++ items
          listed_new = listed_settled puts span items reach sound.published first

    -- a take of the first of the items that the span shows; the others come back
    module _ (span : Span) (items shown : List T) (reach : ℕ) (inside : (p : ℕ) → slot p < length hs) (first : span.start ≡ takes.len)
        (fits : length items ≤ span.count)
        (room : span.start + span.count ≤ puts.len) (shows : shown ≡ take span.count (drop span.start (listed puts))) where
      abbrev take_cells : List (Option T)
      take_cells = replicate (length items) None ++ map Some (drop (length items) shown)

      pub take_many : length take_cells ≡ span.count
      take_many =
          omega (
            arith,
            length-append (replicate (length items) (let z : Option T = None in z)) (map Some (drop (length items) shown)),
            length-many {X = Option T} (length items) None,
            length-cells (drop (length items) shown),
            length-drop (length items) shown,
            ap length shows,
            length-take span.count (drop span.start (listed puts)),
            length-drop span.start (listed puts),
            length-listed puts sound.published,
          )

      pub home_take_settled : AtHome plans (filled slot hs span.start take_cells) puts (settled_on takes span items reach) r plan
      home_take_settled = record {
        full = λ p x le free at.
            let lt : p < puts.len = listed_below p x at in
            elim (held_cases span p) [
              | inl held ↦
                  let k : ℕ = p - (span.start + length items) in
                  let place : p ≡ span.start + (length items + k) = omega (arith, held.0) in
                  let item : slice_get (drop (length items) shown) k ≡ Some x =
                  get_dropped (length items) shown k
                  ∙ (ap (λ l. slice_get l (length items + k)) shows
                  ∙ (get_taken span.count (drop span.start (listed puts)) (length items + k) (omega (arith, held.1))
                  ∙ (get_dropped span.start (listed puts) (length items + k) ∙ (ap (slice_get (listed puts)) (sym place) ∙ at)))) in
                  ap (λ n. get_elem? (filled slot hs span.start take_cells) (slot n)) place
                  ∙ comes_back span take_cells take_many inside (length items + k) (Some x) (omega (arith, sound.within_capacity))
                  (behind_many (length items) None (map Some (drop (length items) shown)) k ∙ item_of (drop (length items) shown) k x item)
              | inr off ↦
                  stays_back span take_cells take_many inside p (omega arith) (omega (arith, sound.within_capacity)) (omega arith)
                  (omega (arith, sound.within_capacity)) off.0
                  ∙ home.full p x (omega arith) (omega (arith, off.1)) at
            ];
        vacant = λ p le none lt. elim (below_or_not p (takes.len + slots_in plan)) [
          | inl old ↦
              stays_back span take_cells take_many inside p (omega arith) (omega (arith, sound.within_capacity))
              (omega (arith, takes_le_puts plan.geometry puts takes sound)) old (inr (omega arith))
              ∙ home.vacant p le none old
          | inr new ↦
              let k : ℕ = p - (takes.len + slots_in plan) in
              let place : p ≡ (span.start + k) + slots_in plan = omega arith in
              let here : slot p ≡ slot (span.start + k) =
              ap slot place ∙ ap (λ n. slots_before plans r + n) (mod_past (span.start + k) (slots_in plan) (omega arith)) in
              ap (λ n. get_elem? (filled slot hs span.start take_cells) n) here
              ∙ comes_back span take_cells take_many inside k None (omega (arith, sound.within_capacity))
              (before_rest (length items) None (map Some (drop (length items) shown)) k (omega arith))
        ];
      }
