-- A ring stays sound when a span is reserved and when one is settled. Stated for the two sides alone
use Rattle.std.proofs.Common.{ℕ, zero, suc, ◌+◌, ◌-◌, ◌*◌, ◌/◌, ◌%◌, ◌<◌, ◌≤◌, ◌≡◌, ◌⊎◌, inl, inr, max, List, [], ◌∷◌, ◌++◌, length, take, drop, refl, ap, sym}
use Rattle.std.proofs.Common.{◌∙◌, arith}
use Rattle.std.specs.Prelude.{slice_get, ◌&&◌, ◌==◌, nat_le, nat_lt, if◌then◌else◌}
use Rattle.std.specs.List.{flat_map, range_with_len}
use Rattle.std.specs.Option.{option_to_list}
use Rattle.std.proofs.Math.Nat.{mul-le-mul_left}
use Rattle.std.proofs.lemmas.List.{append-nil, append_assoc, length-append, drop_at, take-append-drop}
use Rattle.std.proofs.lemmas.Bool.Decides.{nat_tests}
use Rattle.geom.specs.Extent.{Extent}
use Rattle.ringcore_laws.specs.declared.protocol.Span.{Span}
use Rattle.ringcore_laws.specs.Party.{covers}
use Rattle.ringcore_laws.specs.RingSide.{RingSide, listed, IsGapless, item_at}
use Rattle.ringcore_laws.specs.Sound.{SoundRing, claims}
use Rattle.ringcore_laws.proofs.Lists.{flat_map_range_same, flat_map_range_split, flat_map_range_items, item_at_in, item_at_before, item_at_past}

-- two positions less than `size` apart have different slots
pub slots_differ : (size low p q : ℕ) → low ≤ p → p < low + size → low ≤ q → q < low + size → p % size ≡ q % size → p ≡ q
slots_differ size low p q lp hp lq hq e =
    let some : 0 < size = omega arith in
    let order : (p / size < q / size) ⊎ ((p / size ≡ q / size) ⊎ (q / size < p / size)) = grind arith in
    elim order [
      | inl less ↦ absurd (omega (arith, mul-le-mul_left size (next (p / size) (q / size) less)))
      | inr rest ↦ elim rest [
        | inl same ↦ omega (arith, ap (λ v. size * v) same)
        | inr more ↦ absurd (omega (arith, mul-le-mul_left size (next (q / size) (p / size) more)))
      ]
    ]
  where
    next : (a b : ℕ) → a < b → a + 1 ≤ b
    next a b h = omega arith

-- how often a span holds a position
abbrev pub open_count : Span → ℕ → ℕ
open_count span p = if covers span p then 1 else 0

pub held_cases : (span : Span) (p : ℕ) → ((span.start ≤ p) × (p < span.start + span.count) × (open_count span p ≡ 1)) ⊎
    (((p < span.start) ⊎ (span.start + span.count ≤ p)) × (open_count span p ≡ 0))
held_cases span p = grind (arith, nat_tests)

-- how often a queued position that no open take holds is claimed
abbrev pub queued_once : ℕ → ℕ → ℕ → ℕ → ℕ
queued_once low high after_settle_take p = if (nat_le low p && nat_lt p high) && (after_settle_take == 0) then 1 else 0

pub queued_cases : (low high after_settle_take p : ℕ) → ((low ≤ p) × (p < high) × (after_settle_take ≡ 0) × (queued_once low high after_settle_take p ≡ 1)) ⊎
    (((p < low) ⊎ ((high ≤ p) ⊎ (0 < after_settle_take))) × (queued_once low high after_settle_take p ≡ 0))
queued_cases low high after_settle_take p = grind (arith, nat_tests)

pub below_or_not : (a b : ℕ) → (a < b) ⊎ (b ≤ a)
below_or_not a b = grind arith

module _ {I : Type 0} where
  pub sum_ones : (f : ℕ → List I) (a n : ℕ) → ((p : ℕ) → a ≤ p → p < a + n → length (f p) ≡ 1) → length (flat_map f (range_with_len a n)) ≡ n
  sum_ones f a zero h = refl
  sum_ones f a (suc n) h =
      omega (
        arith,
        length-append (f a) (flat_map f (range_with_len (a + 1) n)),
        h a (omega arith) (omega arith),
        sum_ones f (a + 1) n (λ p le lt. h p (omega arith) (omega arith)),
      )

  pub length-item : (xs : List I) (i : ℕ) → i < length xs → length (option_to_list (slice_get xs i)) ≡ 1
  length-item [] i lt = absurd (omega arith)
  length-item (x ∷ xs) zero lt = refl
  length-item (x ∷ xs) (suc i) lt = length-item xs i (omega arith)

  -- the number of listed items is the number of settled ones
  pub length-listed : (l : RingSide I) → IsGapless l → length (listed l) ≡ l.len
  unfolding listed
  length-listed l g = sum_ones l.items_at 0 l.len (λ p le lt. g.one p (omega arith))

  -- a position without settled items is at or above the number of them
  pub unsettled_above : (l : RingSide I) → IsGapless l → (p : ℕ) → l.items_at p ≡ [] → l.len ≤ p
  unsettled_above l g p none = elim (below_or_not p l.len) [ inl lt ↦ absurd (omega (arith, g.one p lt, ap length none)) | inr le ↦ le ]

  -- a side after a span is reserved
  abbrev pub reserved_on : RingSide I → Span → RingSide I
  reserved_on l span =
      record {
        items_at = l.items_at;
        len = l.len;
        openers = λ p. l.openers p + open_count span p;
        open_count = l.open_count + span.count;
        reach =
            max l.reach (span.start + span.count);
      }

  -- a side after an open span is settled with these items, when the greatest end is then `reach`
  abbrev pub settled_on : RingSide I → Span → List I → ℕ → RingSide I
  settled_on l span items reach =
      record {
        items_at = λ p. l.items_at p ++ item_at span.start items p;
        len = l.len + length items;
        openers =
            λ p. l.openers p - open_count span p;
        open_count = l.open_count - span.count;
        reach = reach;
      }

  pub gapless_settled : (l : RingSide I) (span : Span) (items : List I) (reach : ℕ) → IsGapless l → span.start ≡ l.len
      → IsGapless (settled_on l span items reach)
  gapless_settled l span items reach g e = record {
    one = λ p lt. elim (below_or_not p l.len) [
      | inl old ↦ ap (λ v. length (l.items_at p ++ v)) (item_at_before span.start items p (omega arith)) ∙ (ap length (append-nil (l.items_at p)) ∙ g.one p old)
      | inr new ↦
          let inside : p - span.start < length items = omega arith in
          ap (λ v. length (v ++ item_at span.start items p)) (g.none p new)
          ∙ (ap length (item_at_in span.start items p (omega arith)) ∙ length-item items (p - span.start) inside)
    ];
    none = λ p le. ap (λ v. v ++ item_at span.start items p) (g.none p (omega arith)) ∙ item_at_past span.start items p (omega arith);
  }

  -- the items come after those that are listed
  pub listed_settled : (l : RingSide I) (span : Span) (items : List I) (reach : ℕ) → IsGapless l → span.start ≡ l.len
      → listed (settled_on l span items reach) ≡ listed l ++ items
  unfolding listed
  listed_settled l span items reach g e =
      flat_map_range_split after 0 l.len (length items)
      ∙ (ap (λ v. v ++ flat_map after (range_with_len (0 + l.len) (length items))) (flat_map_range_same after l.items_at 0 l.len old)
      ∙ ap (λ v. flat_map l.items_at (range_with_len 0 l.len) ++ v)
      (flat_map_range_same after (item_at (0 + l.len) items) (0 + l.len) (length items) new ∙ flat_map_range_items (0 + l.len) items))
    where
      after : ℕ → List I
      after p = l.items_at p ++ item_at span.start items p

      old : (p : ℕ) → 0 ≤ p → p < 0 + l.len → after p ≡ l.items_at p
      old p le lt = ap (λ v. l.items_at p ++ v) (item_at_before span.start items p (omega arith)) ∙ append-nil (l.items_at p)

      there : span.start ≡ 0 + l.len
      there = omega arith

      new : (p : ℕ) → 0 + l.len ≤ p → p < 0 + l.len + length items → after p ≡ item_at (0 + l.len) items p
      new p le lt = ap (λ v. v ++ item_at span.start items p) (g.none p (omega arith)) ∙ ap (λ v. item_at v items p) there

  pub reserved_le : (puts takes : RingSide I) (p : ℕ) → puts.openers p ≤ claims puts takes p
  unfolding claims
  reserved_le puts takes p = omega arith

  pub taken_le : (puts takes : RingSide I) (p : ℕ) → takes.openers p ≤ claims puts takes p
  unfolding claims
  taken_le puts takes p = omega arith

  -- a position outside the span has none of its items
  pub not_of_items : (span : Span) (items : List I) → length items ≤ span.count → (p : ℕ) → (p < span.start) ⊎ (span.start + span.count ≤ p)
      → item_at span.start items p ≡ []
  not_of_items span items fits p out = elim out [ inl lt ↦ item_at_before span.start items p lt | inr le ↦ item_at_past span.start items p (omega arith) ]

  module _ (e : Extent) (puts takes : RingSide I) (s : SoundRing e puts takes) where
    pub takes_le_puts : takes.len ≤ puts.len
    takes_le_puts = omega (arith, length-listed puts s.published, length-listed takes s.dequeued, length-append (listed takes) s.fifo.0, ap length s.fifo.1)

    -- what is claimed is at or above what was dequeued, and is published or reserved
    pub claimed_where : (p : ℕ) → 0 < claims puts takes p → (takes.len ≤ p) × ((p < puts.len) ⊎ (0 < puts.openers p))
    unfolding claims
    claimed_where p some =
        elim (below_or_not 0 (puts.openers p)) [
          | inl openers ↦ (omega (arith, takes_le_puts, unsettled_above puts s.published p (s.puts_unsettled p openers)), inr openers)
          | inr free ↦ elim (below_or_not 0 (takes.openers p)) [
            | inl after_settle_take ↦ ((s.takes_are_queued p after_settle_take).0, inl (s.takes_are_queued p after_settle_take).1)
            | inr left ↦ elim (queued_cases takes.len puts.len (takes.openers p) p) [
              | inl waits ↦ (waits.0, inl waits.1)
              | inr off ↦ absurd (omega (arith, off.1))
            ]
          ]
        ]

    -- nothing is claimed after everything that is published and reserved
    pub unclaimed : (p : ℕ) → puts.len ≤ p → puts.openers p ≡ 0 → claims puts takes p ≡ 0
    unclaimed p behind free = elim (below_or_not 0 (claims puts takes p)) [
      | inl some ↦ elim (claimed_where p some).1 [ inl lt ↦ absurd (omega arith) | inr h ↦ absurd (omega arith) ]
      | inr none ↦ omega arith
    ]

    module _ (span : Span) (spare : e.capacity < e.size) (behind : puts.len ≤ span.start) (above : (p : ℕ) → span.start ≤ p → puts.openers p ≡ 0)
        (room : span.start + span.count ≤ takes.len + e.capacity) where
      claims_put : (p : ℕ) → claims (reserved_on puts span) takes p ≡ claims puts takes p + open_count span p
      unfolding claims
      claims_put p = omega arith

      in_window : (p : ℕ) → 0 < claims (reserved_on puts span) takes p → (takes.len ≤ p) × (p < takes.len + e.size)
      in_window p some = elim (held_cases span p) [
        | inl in_span ↦ (omega (arith, takes_le_puts, in_span.0), omega (arith, in_span.1))
        | inr out ↦
            let old : 0 < claims puts takes p = omega (arith, claims_put p, out.1) in
            elim (below_or_not p span.start) [
              | inl lt ↦ ((claimed_where p old).0, omega arith)
              | inr le ↦ absurd (omega (arith, unclaimed p (omega arith) (above p le)))
            ]
      ]

      -- a put span that starts after all others, and ends within the capacity
      pub put_reserved : SoundRing e (reserved_on puts span) takes
      unfolding listed
      put_reserved = record {
        published = record { one = s.published.one; none = s.published.none };
        dequeued = s.dequeued;
        fifo = s.fifo;
        within_capacity = s.within_capacity;
        claimed_once = λ p. elim (held_cases span p) [
          | inl in_span ↦ omega (arith, claims_put p, in_span.2, unclaimed p (omega (arith, in_span.0)) (above p in_span.0))
          | inr out ↦ omega (arith, claims_put p, out.1, s.claimed_once p)
        ];
        slots_apart =
            λ p q some_p some_q same. slots_differ e.size takes.len p q (in_window p some_p).0 (in_window p some_p).1 (in_window q some_q).0
            (in_window q some_q).1 same;
        takes_are_queued = s.takes_are_queued;
        puts_unsettled = λ p some. elim (held_cases span p) [
          | inl in_span ↦ s.published.none p (omega (arith, in_span.0))
          | inr out ↦ s.puts_unsettled p (omega (arith, out.1))
        ];
        takes_unsettled = s.takes_unsettled;
      }

    module _ (span : Span) (behind : takes.len ≤ span.start) (above : (p : ℕ) → span.start ≤ p → takes.openers p ≡ 0)
        (room : span.start + span.count ≤ puts.len) where
      claims_take : (p : ℕ) → claims puts (reserved_on takes span) p ≡ claims puts takes p
      unfolding claims
      claims_take p = elim (held_cases span p) [
        | inl in_span ↦
            let free = above p in_span.0 in
            elim (queued_cases takes.len puts.len (takes.openers p) p) [
              | inl waits ↦ elim (queued_cases takes.len puts.len (takes.openers p + open_count span p) p) [
                | inl waits' ↦ absurd (omega (arith, waits'.2, in_span.2))
                | inr off' ↦ omega (arith, waits.3, off'.1, in_span.2)
              ]
              | inr off ↦ absurd (not_queued p (omega (arith, in_span.0)) (omega (arith, in_span.1)) free off.0)
            ]
        | inr out ↦ ap (λ v. puts.openers p + v + queued_once takes.len puts.len v p) (omega (arith, out.1))
      ]
        where
          not_queued : (p : ℕ) → takes.len ≤ p → p < puts.len → takes.openers p ≡ 0 → (p < takes.len) ⊎ ((puts.len ≤ p) ⊎ (0 < takes.openers p)) → ⊥
          not_queued p le lt free h = elim h [ inl a ↦ omega arith | inr b ↦ elim b [ inl c ↦ omega arith | inr d ↦ omega arith ] ]

      -- a take span that starts after all others, and ends within what is published
      pub take_reserved : SoundRing e puts (reserved_on takes span)
      unfolding listed
      take_reserved = record {
        published = s.published;
        dequeued = record { one = s.dequeued.one; none = s.dequeued.none };
        fifo = s.fifo;
        within_capacity = s.within_capacity;
        claimed_once = λ p. omega (arith, claims_take p, s.claimed_once p);
        slots_apart = λ p q some_p some_q. s.slots_apart p q (omega (arith, claims_take p)) (omega (arith, claims_take q));
        takes_are_queued = λ p some. elim (held_cases span p) [
          | inl in_span ↦ (omega (arith, in_span.0), omega (arith, in_span.1))
          | inr out ↦ s.takes_are_queued p (omega (arith, out.1))
        ];
        puts_unsettled = s.puts_unsettled;
        takes_unsettled = λ p some. elim (held_cases span p) [
          | inl in_span ↦ s.dequeued.none p (omega (arith, in_span.0))
          | inr out ↦ s.takes_unsettled p (omega (arith, out.1))
        ];
      }

    module _ (span : Span) (items : List I) (reach : ℕ) (first : span.start ≡ puts.len) (own : (p : ℕ) → open_count span p ≤ puts.openers p)
        (fits : length items ≤ span.count) (room : puts.len + length items ≤ takes.len + e.capacity) where
      claims_put_settled : (p : ℕ) → claims (settled_on puts span items reach) takes p ≤ claims puts takes p
      unfolding claims
      claims_put_settled p =
          let h = own p in
          elim (held_cases span p) [
            | inl in_span ↦ elim (queued_cases takes.len (puts.len + length items) (takes.openers p) p) [
              | inl waits ↦ omega (arith, waits.3, in_span.2)
              | inr off ↦ omega (arith, off.1)
            ]
            | inr out ↦ elim (queued_cases takes.len (puts.len + length items) (takes.openers p) p) [
              | inl waits ↦ elim (queued_cases takes.len puts.len (takes.openers p) p) [
                | inl waits' ↦ omega (arith, waits.3, waits'.3)
                | inr off' ↦ absurd (outside p out.0 waits.0 waits.1 waits.2 off'.0)
              ]
              | inr off ↦ omega (arith, off.1)
            ]
          ]
        where
          outside : (p : ℕ) → (p < span.start) ⊎ (span.start + span.count ≤ p) → takes.len ≤ p → p < puts.len + length items → takes.openers p ≡ 0
              → (p < takes.len) ⊎ ((puts.len ≤ p) ⊎ (0 < takes.openers p)) → ⊥
          outside p out le lt free h =
              elim h [ inl a ↦ omega arith | inr b ↦ elim b [ inl c ↦ elim out [ inl x ↦ omega arith | inr y ↦ omega arith ] | inr d ↦ omega arith ] ]

      -- a put span that starts where the published items end
      pub put_settled : SoundRing e (settled_on puts span items reach) takes
      put_settled = record {
        published = gapless_settled puts span items reach s.published first;
        dequeued = s.dequeued;
        fifo = (
          s.fifo.0 ++ items,
          sym (append_assoc (listed takes) s.fifo.0 items)
              ∙ (ap (λ v. v ++ items) s.fifo.1 ∙ sym (listed_settled puts span items reach s.published first)),
        );
        within_capacity = room;
        claimed_once = λ p. omega (arith, claims_put_settled p, s.claimed_once p);
        slots_apart = λ p q some_p some_q. s.slots_apart p q (omega (arith, claims_put_settled p)) (omega (arith, claims_put_settled q));
        takes_are_queued = λ p some. ((s.takes_are_queued p some).0, omega (arith, (s.takes_are_queued p some).1));
        puts_unsettled = λ p still. elim (held_cases span p) [
          | inl in_span ↦ absurd (omega (arith, in_span.2, reserved_le puts takes p, s.claimed_once p))
          | inr out ↦ ap (λ v. v ++ item_at span.start items p) (s.puts_unsettled p (omega arith)) ∙ not_of_items span items fits p out.0
        ];
        takes_unsettled = s.takes_unsettled;
      }

    module _ (span : Span) (items : List I) (reach : ℕ) (first : span.start ≡ takes.len) (own : (p : ℕ) → open_count span p ≤ takes.openers p)
        (fits : length items ≤ span.count)
        (there : items ≡ take (length items) (drop span.start (listed puts))) where
      claims_take_settled : (p : ℕ) → claims puts (settled_on takes span items reach) p ≤ claims puts takes p
      unfolding claims
      claims_take_settled p =
          let h = own p in
          let once : puts.openers p + takes.openers p ≤ 1 = omega (arith, s.claimed_once p) in
          elim (queued_cases (takes.len + length items) puts.len (takes.openers p - open_count span p) p) [
            | inl waits ↦ elim (held_cases span p) [
              | inl in_span ↦ omega (arith, waits.3, in_span.2)
              | inr out ↦ elim (queued_cases takes.len puts.len (takes.openers p) p) [
                | inl waits' ↦ omega (arith, waits.3, waits'.3)
                | inr off' ↦ absurd (outside p out.1 waits.0 waits.1 waits.2 off'.0)
              ]
            ]
            | inr off ↦ omega (arith, off.1)
          ]
        where
          outside : (p : ℕ) → open_count span p ≡ 0 → takes.len + length items ≤ p → p < puts.len → takes.openers p - open_count span p ≡ 0
              → (p < takes.len) ⊎ ((puts.len ≤ p) ⊎ (0 < takes.openers p)) → ⊥
          outside p out le lt free h = elim h [ inl a ↦ omega arith | inr b ↦ elim b [ inl c ↦ omega arith | inr d ↦ omega arith ] ]

      -- a take span that starts where the dequeued items end, of the items at its positions
      pub take_settled : SoundRing e puts (settled_on takes span items reach)
      take_settled = record {
        published = s.published;
        dequeued = gapless_settled takes span items reach s.dequeued first;
        fifo = (
          drop (length items) s.fifo.0,
          ap (λ v. v ++ drop (length items) s.fifo.0) (listed_settled takes span items reach s.dequeued first)
              ∙ (append_assoc (listed takes) items (drop (length items) s.fifo.0)
              ∙ (ap (λ v. listed takes ++ v) (ap (λ v. v ++ drop (length items) s.fifo.0) next ∙ take-append-drop (length items) s.fifo.0) ∙ s.fifo.1)),
        );
        within_capacity = omega (arith, s.within_capacity);
        claimed_once = λ p. omega (arith, claims_take_settled p, s.claimed_once p);
        slots_apart = λ p q some_p some_q. s.slots_apart p q (omega (arith, claims_take_settled p)) (omega (arith, claims_take_settled q));
        takes_are_queued = λ p still. elim (held_cases span p) [
          | inl in_span ↦ absurd (omega (arith, in_span.2, taken_le puts takes p, s.claimed_once p))
          | inr out ↦
              let old = s.takes_are_queued p (omega arith) in
              elim out.0 [ inl lt ↦ absurd (omega (arith, old.0)) | inr le ↦ (omega arith, old.1) ]
        ];
        puts_unsettled = s.puts_unsettled;
        takes_unsettled = λ p still. elim (held_cases span p) [
          | inl in_span ↦ absurd (omega (arith, in_span.2, taken_le puts takes p, s.claimed_once p))
          | inr out ↦ ap (λ v. v ++ item_at span.start items p) (s.takes_unsettled p (omega arith)) ∙ not_of_items span items fits p out.0
        ];
      }
        where
          next : items ≡ take (length items) s.fifo.0
          next = there ∙ ap (take (length items)) (ap (drop span.start) (sym s.fifo.1)
              ∙ drop_at (listed takes) s.fifo.0 span.start (length-listed takes s.dequeued ∙ sym first))
