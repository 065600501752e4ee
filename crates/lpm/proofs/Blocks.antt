-- Blocks of first-level entries: where each entry is, and what a write and a new block change.
use Rattle.std.proofs.Common.{◌≡◌, ◌≢◌, ℕ, zero, suc, ◌+◌, ◌*◌, ◌/◌, ◌%◌, ◌<◌, ◌≤◌, Bool, true, false, cond, nat_eq, ltb, List, ◌++◌, length, get_or, set, replicate, refl, sym, ap, ◌∙◌, subst}
use Rattle.std.proofs.Common.{inl, inr, arith}
use Rattle.std.proofs.lemmas.Bool.{cases_eq, cases_lt}
use Rattle.std.proofs.lemmas.List.{ext_get_or, length-set, length-append, length-replicate, get_or-replicate, get_or-set_same, get_or-set_other, get_or_append_left, get_or-append-add, get_or_default, get_or_past}
use Rattle.std.proofs.lemmas.List.FromFn.{length-map-range_with_len, get_or-map-range_with_len}
use Rattle.std.proofs.lemmas.List.Sums.{sum_by-set, sum_by-cons, count_by-le-length}
use borrow.Author.Tests.{lt-ltb}
use Rattle.lpm.specs.TableEntry.{TableEntry, entry_of, is_group}
use Rattle.lpm.specs.Overwrite.{AreNoGroups, OverwritesFrom}
use Rattle.lpm.proofs.Overwritten.{overwritten-covered, overwritten-deeper}
use Rattle.lpm.proofs.EntryOverwrites.{one_if}
use Rattle.lpm.specs.Blocks.{number_in, numbers_of, place_in, inherited, entries_of, own_of, AreNumbered, AreBlocks}

-- an entry of which none stands for another
own_by : (b : Bool) (entry uniform : TableEntry) → uniform ≡ entry_of 0 0 → (b ≡ true → entry ≡ entry_of 0 0) → cond b uniform entry ≡ entry
own_by true entry uniform none is = none ∙ sym (is refl)
own_by false entry uniform none is = refl

inherited_own : (entry uniform : TableEntry) → uniform ≡ entry_of 0 0 → (nat_eq entry.depth 0 ≡ true → entry ≡ entry_of 0 0)
    → inherited entry uniform ≡ entry
inherited_own entry uniform none is = own_by (nat_eq entry.depth 0) entry uniform none is

-- the entry at one place
abbrev pub shown_at : List ℕ → List TableEntry → List TableEntry → ℕ → TableEntry
shown_at numbers uniform places i = inherited (get_or places (place_in numbers i) (entry_of 0 0)) (get_or uniform (i / 256) (entry_of 0 0))

pub entries_length : (numbers : List ℕ) (uniform blocks : List TableEntry) → length (entries_of numbers uniform blocks) ≡ 256 * length numbers
unfolding entries_of
entries_length numbers uniform blocks = length-map-range_with_len (shown_at numbers uniform blocks) 0 (256 * length numbers)

pub entries_at : (numbers : List ℕ) (uniform blocks : List TableEntry) (i : ℕ) → i < 256 * length numbers
    → get_or (entries_of numbers uniform blocks) i (entry_of 0 0) ≡ shown_at numbers uniform blocks i
unfolding entries_of
entries_at numbers uniform blocks i fits =
    get_or-map-range_with_len (shown_at numbers uniform blocks) 0 (256 * length numbers) i i (entry_of 0 0) fits (omega arith)

-- two first levels of the same length with the same entry at each place
same_entries : (xs ys : List ℕ) (us vs es fs : List TableEntry) → length xs ≡ length ys
    → ((i : ℕ) → i < 256 * length xs → shown_at xs us es i ≡ shown_at ys vs fs i)
    → entries_of xs us es ≡ entries_of ys vs fs
same_entries xs ys us vs es fs long each =
    ext_get_or (entry_of 0 0) (entries_of xs us es) (entries_of ys vs fs)
    (omega (arith, entries_length xs us es, entries_length ys vs fs))
    (λ i h.
    let fits : i < 256 * length xs = omega (arith, entries_length xs us es) in
    entries_at xs us es i fits ∙ each i fits ∙ sym (entries_at ys vs fs i (omega arith)))

pub zero_at : (n c : ℕ) → get_or (replicate {A = ℕ} n 0) c 0 ≡ 0
zero_at zero c = refl
zero_at (suc n) zero = refl
zero_at (suc n) (suc c) = zero_at n c

none_own : (n : ℕ) → own_of (replicate n 0) ≡ 0
none_own zero = refl
none_own (suc n) = omega (arith, sum_by-cons (λ k. one_if (ltb 0 k)) 0 (replicate n 0), none_own n)

none_at : (n i : ℕ) → i < 256 * n
    → get_or (entries_of (replicate n 0) (replicate n (entry_of 0 0)) (replicate 256 (entry_of 0 0))) i (entry_of 0 0) ≡ entry_of 0 0
none_at n i h =
    let place : place_in (replicate n 0) i < 256 = omega (arith, zero_at n (i / 256)) in
    entries_at (replicate n 0) (replicate n (entry_of 0 0)) (replicate 256 (entry_of 0 0)) i (omega (arith, length-replicate {A = ℕ} n 0))
    ∙ ap (λ e. inherited e (get_or (replicate n (entry_of 0 0)) (i / 256) (entry_of 0 0)))
    (get_or-replicate 256 (place_in (replicate n 0) i) (entry_of 0 0) (entry_of 0 0) place)
    ∙ get_or-replicate n (i / 256) (entry_of 0 0) (entry_of 0 0) (omega arith)

-- a first level that was never written
pub entries_none : (n : ℕ) → entries_of (replicate n 0) (replicate n (entry_of 0 0)) (replicate 256 (entry_of 0 0))
    ≡ replicate (256 * n) (entry_of 0 0)
entries_none n =
    let all = entries_of (replicate n 0) (replicate n (entry_of 0 0)) (replicate 256 (entry_of 0 0)) in
    let long : length all ≡ 256 * n
    = omega (arith, entries_length (replicate n 0) (replicate n (entry_of 0 0)) (replicate 256 (entry_of 0 0)), length-replicate {A = ℕ} n 0) in
    ext_get_or (entry_of 0 0) all (replicate (256 * n) (entry_of 0 0))
    (long ∙ sym (length-replicate (256 * n) (entry_of 0 0)))
    (λ i h. none_at n i (omega (arith, long)) ∙ sym (get_or-replicate (256 * n) i (entry_of 0 0) (entry_of 0 0) (omega (arith, long))))

pub blocks_none : (n cap : ℕ) → 256 * (n + 1) ≤ cap → n ≤ 65536 → AreNumbered (replicate n 0) (replicate 256 (entry_of 0 0)) cap
blocks_none n cap room few = record {
  empty = λ k h. get_or-replicate 256 k (entry_of 0 0) (entry_of 0 0) h;
  made = length-replicate 256 (entry_of 0 0) ∙ omega (arith, none_own n);
  within = λ c. omega (arith, zero_at n c);
  alone = λ c d own same. absurd (omega (arith, zero_at n c));
  room = omega (arith, length-replicate {A = ℕ} n 0);
  few = omega (arith, length-replicate {A = ℕ} n 0);
}

-- the blocks of a first level
module _ {numbers : List ℕ} {blocks : List TableEntry} {cap : ℕ} (are : AreNumbered numbers blocks cap) where
  pub place_fits : (i : ℕ) → place_in numbers i < length blocks
  place_fits i = omega (arith, are.made, are.within (i / 256))

  -- an entry is written in a block of its own
  module _ (i : ℕ) (fits : i < 256 * length numbers) (own : 0 < get_or numbers (i / 256) 0) (e : TableEntry) where
    other_place : (j : ℕ) → j ≢ i → place_in numbers j ≢ place_in numbers i
    other_place j other same =
        let number : get_or numbers (i / 256) 0 ≡ get_or numbers (j / 256) 0 = omega arith in
        let block = are.alone (i / 256) (j / 256) own number in
        other (omega arith)

    pub entries_set : (us : List TableEntry) → get_or us (i / 256) (entry_of 0 0) ≡ entry_of 0 0 → (nat_eq e.depth 0 ≡ true → e ≡ entry_of 0 0)
        → entries_of numbers us (set blocks (place_in numbers i) e) ≡ set (entries_of numbers us blocks) i e
    entries_set us none is =
        let after = set blocks (place_in numbers i) e in
        let before = entries_of numbers us blocks in
        let long = entries_length numbers us blocks in
        ext_get_or (entry_of 0 0) (entries_of numbers us after) (set before i e)
        (omega (arith, entries_length numbers us after, length-set before i e))
        (λ k h.
        let within : k < 256 * length numbers = omega (arith, entries_length numbers us after) in
        entries_at numbers us after k within ∙ elim (cases_eq k i) [
          | inl same ↦ subst (λ n. shown_at numbers us after n ≡ get_or (set before i e) n (entry_of 0 0)) (sym same)
              (ap (λ x. inherited x (get_or us (i / 256) (entry_of 0 0))) (get_or-set_same blocks (place_in numbers i) e (entry_of 0 0) (place_fits i))
              ∙ inherited_own e (get_or us (i / 256) (entry_of 0 0)) none is
              ∙ sym (get_or-set_same before i e (entry_of 0 0) (omega arith)))
          | inr other ↦ ap (λ x. inherited x (get_or us (k / 256) (entry_of 0 0)))
              (get_or-set_other blocks (place_in numbers i) (place_in numbers k) e (entry_of 0 0) (other_place k other))
              ∙ sym (entries_at numbers us blocks k within) ∙ sym (get_or-set_other before i k e (entry_of 0 0) other)
        ])

  -- a block that shared the first one gets its own
  module _ (c : ℕ) (there : c < length numbers) (shared : get_or numbers c 0 ≡ 0) (cap' : ℕ) (capacity : cap ≤ cap') where
    pub own_opened : own_of (set numbers c (own_of numbers + 1)) ≡ own_of numbers + 1
    own_opened =
        omega (
          arith,
          sum_by-set (λ n. one_if (ltb 0 n)) numbers c (own_of numbers + 1) 0 there,
          ap (λ n. one_if (ltb 0 n)) shared,
          ap one_if (lt-ltb 0 (own_of numbers + 1) (omega arith)),
        )

    -- not all blocks had their own
    pub room_for_one : 256 * (own_of numbers + 2) ≤ cap
    room_for_one =
        omega (
          arith,
          own_opened,
          are.room,
          count_by-le-length (ltb 0) (set numbers c (own_of numbers + 1)),
          length-set numbers c (own_of numbers + 1),
        )

    number_here : get_or (set numbers c (own_of numbers + 1)) c 0 ≡ own_of numbers + 1
    number_here = get_or-set_same numbers c (own_of numbers + 1) 0 there

    number_other : (d : ℕ) → d ≢ c → get_or (set numbers c (own_of numbers + 1)) d 0 ≡ get_or numbers d 0
    number_other d other = get_or-set_other numbers c d (own_of numbers + 1) 0 other

    pub entries_opened : (us : List TableEntry) (u : TableEntry) → c < length us → u ≡ get_or us c (entry_of 0 0)
        → (nat_eq u.depth 0 ≡ true → u ≡ entry_of 0 0)
        → entries_of (set numbers c (own_of numbers + 1)) (set us c (entry_of 0 0)) (blocks ++ replicate 256 u) ≡ entries_of numbers us blocks
    entries_opened us u many at_c is =
        let after = set numbers c (own_of numbers + 1) in
        let more = replicate 256 u in
        let cleared = set us c (entry_of 0 0) in
        same_entries after numbers cleared us (blocks ++ more) blocks (length-set numbers c (own_of numbers + 1))
        (λ i h. elim (cases_eq (i / 256) c) [
          | inl same ↦
              let number : get_or after (i / 256) 0 ≡ own_of numbers + 1 = ap (λ d. get_or after d 0) same ∙ number_here in
              let before : get_or numbers (i / 256) 0 ≡ 0 = ap (λ d. get_or numbers d 0) same ∙ shared in
              let at : place_in after i ≡ length blocks + i % 256 = omega (arith, are.made) in
              let made : get_or (blocks ++ more) (place_in after i) (entry_of 0 0) ≡ u = ap (λ n. get_or (blocks ++ more) n (entry_of 0 0)) at
              ∙ get_or-append-add blocks more (i % 256) (entry_of 0 0)
              ∙ get_or-replicate 256 (i % 256) u (entry_of 0 0) (omega arith) in
              let none : get_or cleared (i / 256) (entry_of 0 0) ≡ entry_of 0 0 = ap (λ d. get_or cleared d (entry_of 0 0)) same
              ∙ get_or-set_same us c (entry_of 0 0) (entry_of 0 0) many in
              ap (λ x. inherited x (get_or cleared (i / 256) (entry_of 0 0))) made
              ∙ inherited_own u (get_or cleared (i / 256) (entry_of 0 0)) none is
              ∙ at_c ∙ ap (λ d. get_or us d (entry_of 0 0)) (sym same)
              ∙ ap (λ x. inherited x (get_or us (i / 256) (entry_of 0 0))) (sym (are.empty (place_in numbers i) (omega arith)))
          | inr other ↦
              let number : get_or after (i / 256) 0 ≡ get_or numbers (i / 256) 0 = number_other (i / 256) other in
              let at : place_in after i ≡ place_in numbers i = omega arith in
              ap (λ x. inherited x (get_or cleared (i / 256) (entry_of 0 0)))
              (ap (λ n. get_or (blocks ++ more) n (entry_of 0 0)) at
              ∙ get_or_append_left blocks more (entry_of 0 0) (place_in numbers i) (place_fits i))
              ∙ ap (λ x. inherited (get_or blocks (place_in numbers i) (entry_of 0 0)) x)
              (get_or-set_other us c (i / 256) (entry_of 0 0) (entry_of 0 0) other)
        ])

    pub blocks_opened : (u : TableEntry) → AreNumbered (set numbers c (own_of numbers + 1)) (blocks ++ replicate 256 u) cap'
    blocks_opened u =
        let after = set numbers c (own_of numbers + 1) in
        let long = length-set numbers c (own_of numbers + 1) in
        record {
          empty = λ k h. get_or_append_left blocks (replicate 256 u) (entry_of 0 0) k (omega (arith, are.made))
              ∙ are.empty k h;
          made = length-append blocks (replicate 256 u)
              ∙ omega (arith, are.made, length-replicate 256 u, own_opened);
          within = λ d. elim (cases_eq d c) [
            | inl same ↦ omega (arith, ap (λ k. get_or after k 0) same, number_here, own_opened)
            | inr other ↦ omega (arith, number_other d other, are.within d, own_opened)
          ];
          alone = λ d f own same. elim (cases_eq d c) [
            | inl at ↦ elim (cases_eq f c) [
              | inl also ↦ at ∙ sym also
              | inr other ↦ absurd (omega (arith, ap (λ k. get_or after k 0) at, number_here, number_other f other, are.within f))
            ]
            | inr other ↦ elim (cases_eq f c) [
              | inl at ↦ absurd (omega (arith, ap (λ k. get_or after k 0) at, number_here, number_other d other, are.within d))
              | inr also ↦ are.alone d f (omega (arith, number_other d other))
                  (sym (number_other d other) ∙ same ∙ number_other f also)
            ]
          ];
          room = omega (arith, are.room, long);
          few = omega (arith, are.few, long);
        }

-- the numbers that offsets stand for
pub numbers_length : (offsets : List ℕ) → length (numbers_of offsets) ≡ length offsets
unfolding numbers_of
numbers_length offsets = length-map-range_with_len (number_in offsets) 0 (length offsets)

pub numbers_at : (offsets : List ℕ) (c : ℕ) → c < length offsets → get_or (numbers_of offsets) c 0 ≡ number_in offsets c
unfolding numbers_of
numbers_at offsets c fits = get_or-map-range_with_len (number_in offsets) 0 (length offsets) c c 0 fits (omega arith)

-- where an entry is
pub place_is : {offsets : List ℕ} {uniform blocks : List TableEntry} {cap : ℕ} → AreBlocks offsets uniform blocks cap → (i : ℕ) → i < 256 * length offsets
    → (get_or offsets (i / 256) 0 + i) % 4294967296 ≡ place_in (numbers_of offsets) i
place_is {offsets} {uniform} {blocks} {cap} are i fits =
    omega (
      arith,
      numbers_at offsets (i / 256) (omega arith),
      are.exact (i / 256) (omega arith),
      are.numbered.within (i / 256),
      count_by-le-length (ltb 0) (numbers_of offsets),
      are.numbered.few,
    )

-- offsets of which one is changed
pub numbers_set : (offsets : List ℕ) (c offset n : ℕ) → c < length offsets → (offset + c * 256) % 4294967296 ≡ n * 256
    → numbers_of (set offsets c offset) ≡ set (numbers_of offsets) c n
numbers_set offsets c offset n there exact =
    let after = set offsets c offset in
    let same : length after ≡ length offsets = length-set offsets c offset in
    let long : length (numbers_of after) ≡ length offsets = numbers_length after ∙ same in
    ext_get_or 0 (numbers_of after) (set (numbers_of offsets) c n)
    (omega (arith, long, numbers_length offsets, length-set (numbers_of offsets) c n))
    (λ d h. elim (cases_eq d c) [
      | inl at ↦ subst (λ k. get_or (numbers_of after) k 0 ≡ get_or (set (numbers_of offsets) c n) k 0) (sym at)
          (numbers_at after c (omega (arith, same))
          ∙ omega (arith, get_or-set_same offsets c offset 0 there)
          ∙ sym (get_or-set_same (numbers_of offsets) c n 0 (omega (arith, numbers_length offsets))))
      | inr other ↦ numbers_at after d (omega (arith, long, same))
          ∙ ap (λ o. (o + d * 256) % 4294967296 / 256) (get_or-set_other offsets c d offset 0 other)
          ∙ sym (numbers_at offsets d (omega (arith, long)))
          ∙ sym (get_or-set_other (numbers_of offsets) c d n 0 other)
    ])

-- the offsets of a first level that was never written
pub numbers_none : (offsets : List ℕ) → ((c : ℕ) → c < length offsets → (get_or offsets c 0 + c * 256) % 4294967296 ≡ 0)
    → numbers_of offsets ≡ replicate (length offsets) 0
numbers_none offsets zeros =
    let long = numbers_length offsets in
    ext_get_or 0 (numbers_of offsets) (replicate (length offsets) 0) (long ∙ sym (length-replicate {A = ℕ} (length offsets) 0))
    (λ c h.
    let fits : c < length offsets = omega (arith, long) in
    numbers_at offsets c fits ∙ omega (arith, zeros c fits) ∙ sym (get_or-replicate {A = ℕ} (length offsets) c 0 0 fits))

-- a block that shared the first one gets its own, after all others
module _ {offsets : List ℕ} {uniform blocks : List TableEntry} {cap : ℕ} (are : AreBlocks offsets uniform blocks cap) (c : ℕ)
    (there : c < length offsets) (shared : (get_or offsets c 0 + c * 256) % 4294967296 ≡ 0) where
  zero_before : get_or (numbers_of offsets) c 0 ≡ 0
  zero_before = numbers_at offsets c there ∙ omega (arith, shared)

  there_too : c < length (numbers_of offsets)
  there_too = omega (arith, there, numbers_length offsets)

  pub there_uniform : c < length uniform
  there_uniform = omega (arith, there, are.each)

  pub room_left : length blocks + 256 ≤ cap
  room_left =
      omega (arith, are.numbered.made, room_for_one are.numbered c there_too zero_before cap (omega arith))

  pub place_small : length blocks < 4294967296
  place_small = omega (arith, are.numbered.made, count_by-le-length (ltb 0) (numbers_of offsets), are.numbered.few)

  module _ (offset : ℕ) (next : (offset + c * 256) % 4294967296 ≡ length blocks) (cap' : ℕ) (capacity : cap ≤ cap') (u : TableEntry) where
    moved : numbers_of (set offsets c offset) ≡ set (numbers_of offsets) c (own_of (numbers_of offsets) + 1)
    moved = numbers_set offsets c offset (own_of (numbers_of offsets) + 1) there (omega (arith, next, are.numbered.made))

    pub same_opened : u ≡ get_or uniform c (entry_of 0 0) → (nat_eq u.depth 0 ≡ true → u ≡ entry_of 0 0)
        → entries_of (numbers_of (set offsets c offset)) (set uniform c (entry_of 0 0)) (blocks ++ replicate 256 u)
        ≡ entries_of (numbers_of offsets) uniform blocks
    same_opened at_c is = ap (λ ns. entries_of ns (set uniform c (entry_of 0 0)) (blocks ++ replicate 256 u)) moved
        ∙ entries_opened are.numbered c there_too zero_before cap' capacity uniform u there_uniform at_c is

    pub are_opened : AreBlocks (set offsets c offset) (set uniform c (entry_of 0 0)) (blocks ++ replicate 256 u) cap'
    are_opened = record {
      numbered = subst (λ ns. AreNumbered ns (blocks ++ replicate 256 u) cap') (sym moved)
          (blocks_opened are.numbered c there_too zero_before cap' capacity u);
      exact = λ d h. elim (cases_eq d c) [
        | inl at ↦ subst (λ k. (get_or (set offsets c offset) k 0 + k * 256) % 4294967296 % 256 ≡ 0) (sym at)
            (omega (arith, get_or-set_same offsets c offset 0 there, next, are.numbered.made))
        | inr other ↦ ap (λ o. (o + d * 256) % 4294967296 % 256) (get_or-set_other offsets c d offset 0 other)
            ∙ are.exact d (omega (arith, h, length-set offsets c offset))
      ];
      each = length-set uniform c (entry_of 0 0) ∙ are.each ∙ sym (length-set offsets c offset);
      cleared = λ d own. elim (cases_eq d c) [
        | inl at ↦ ap (λ k. get_or (set uniform c (entry_of 0 0)) k (entry_of 0 0)) at
            ∙ get_or-set_same uniform c (entry_of 0 0) (entry_of 0 0) there_uniform
        | inr other ↦ get_or-set_other uniform c d (entry_of 0 0) (entry_of 0 0) other
            ∙ are.cleared d (subst (λ n. 0 < n) (ap (λ ns. get_or ns d 0) moved
            ∙ get_or-set_other (numbers_of offsets) c d (own_of (numbers_of offsets) + 1) 0 other) own)
      ];
    }

-- an entry of the first level is in one of its blocks
pub in_level : {offsets : List ℕ} {uniform blocks : List TableEntry} {cap : ℕ} → AreBlocks offsets uniform blocks cap → (i : ℕ)
    (first : List TableEntry) → entries_of (numbers_of offsets) uniform blocks ≡ first → i < length first → i < 256 * length offsets
in_level {offsets} {uniform} {blocks} {cap} are i first view fits =
    omega (arith, ap length view, entries_length (numbers_of offsets) uniform blocks, numbers_length offsets)

-- an entry that was read: where there is none, that of its block is what was asked for
module _ {offsets : List ℕ} {uniform blocks : List TableEntry} {cap : ℕ} (are : AreBlocks offsets uniform blocks cap) (i place : ℕ)
    (entry : TableEntry) (fits : i < 256 * length offsets) (at : place ≡ place_in (numbers_of offsets) i) (read : entry ≡ get_or blocks place entry) where
  pub entry_is : entry ≡ get_or blocks (place_in (numbers_of offsets) i) (entry_of 0 0)
  entry_is = read ∙ get_or_default blocks place entry (entry_of 0 0) (omega (arith, at, place_fits are.numbered i))
      ∙ ap (λ n. get_or blocks n (entry_of 0 0)) at

  shown : get_or (entries_of (numbers_of offsets) uniform blocks) i (entry_of 0 0) ≡ inherited entry (get_or uniform (i / 256) (entry_of 0 0))
  shown = entries_at (numbers_of offsets) uniform blocks i (omega (arith, fits, numbers_length offsets))
      ∙ ap (λ x. inherited x (get_or uniform (i / 256) (entry_of 0 0))) (sym entry_is)

  pub entry_read : nat_eq entry.depth 0 ≡ false → entry ≡ get_or (entries_of (numbers_of offsets) uniform blocks) i (entry_of 0 0)
  entry_read there = sym (shown ∙ ap (λ b. cond b (get_or uniform (i / 256) (entry_of 0 0)) entry) there)

  pub uniform_read : (u : TableEntry) → u ≡ get_or uniform (i / 256) u → nat_eq entry.depth 0 ≡ true
      → u ≡ get_or (entries_of (numbers_of offsets) uniform blocks) i (entry_of 0 0)
  uniform_read u known none = known ∙ get_or_default uniform (i / 256) u (entry_of 0 0) (omega (arith, are.each))
      ∙ sym (shown ∙ ap (λ b. cond b (get_or uniform (i / 256) (entry_of 0 0)) entry) none)

-- an entry that was written there
module _ {offsets : List ℕ} {uniform blocks : List TableEntry} {cap : ℕ} (are : AreBlocks offsets uniform blocks cap) (i place : ℕ)
    (fits : i < 256 * length offsets) (at : place ≡ place_in (numbers_of offsets) i)
    (own : 0 < (get_or offsets (i / 256) 0 + i / 256 * 256) % 4294967296) (e : TableEntry) where
  own_number : 0 < get_or (numbers_of offsets) (i / 256) 0
  own_number = omega (arith, numbers_at offsets (i / 256) (omega arith), are.exact (i / 256) (omega arith), own)

  pub entries_written : (nat_eq e.depth 0 ≡ true → e ≡ entry_of 0 0)
      → entries_of (numbers_of offsets) uniform (set blocks place e) ≡ set (entries_of (numbers_of offsets) uniform blocks) i e
  entries_written is = ap (λ n. entries_of (numbers_of offsets) uniform (set blocks n e)) at
      ∙ entries_set are.numbered i (omega (arith, fits, numbers_length offsets)) own_number e uniform (are.cleared (i / 256) own_number) is

-- a block with one entry for all of its addresses
module _ {offsets : List ℕ} {blocks : List TableEntry} {cap : ℕ} (c : ℕ) (there : c < length offsets)
    (shared : (get_or offsets c 0 + c * 256) % 4294967296 ≡ 0) where
  same_for_all : {uniform : List TableEntry} → AreBlocks offsets uniform blocks cap → (k : ℕ) → c * 256 ≤ k → k < c * 256 + 256
      → get_or (entries_of (numbers_of offsets) uniform blocks) k (entry_of 0 0) ≡ get_or uniform c (entry_of 0 0)
  same_for_all {uniform} are k from to =
      let block : k / 256 ≡ c = omega arith in
      let zero : get_or (numbers_of offsets) (k / 256) 0 ≡ 0 = ap (λ d. get_or (numbers_of offsets) d 0) block
      ∙ numbers_at offsets c there ∙ omega (arith, shared) in
      entries_at (numbers_of offsets) uniform blocks k (omega (arith, numbers_length offsets))
      ∙ ap (λ x. inherited x (get_or uniform (k / 256) (entry_of 0 0))) (are.numbered.empty (place_in (numbers_of offsets) k) (omega arith))
      ∙ ap (λ d. get_or uniform d (entry_of 0 0)) block

  module _ {uniform : List TableEntry} (are : AreBlocks offsets uniform blocks cap) (d : ℕ) (e : TableEntry) where
    abbrev after : List TableEntry
    after = set uniform c e

    many : c < length uniform
    many = omega (arith, there, are.each)

    pub are_filled : AreBlocks offsets after blocks cap
    are_filled = record {
      numbered = are.numbered;
      exact = are.exact;
      each = length-set uniform c e ∙ are.each;
      cleared = λ k own.
          let other : k ≢ c = λ same. omega (arith, own, ap (λ n. get_or (numbers_of offsets) n 0) same, numbers_at offsets c there, shared) in
          get_or-set_other uniform c k e (entry_of 0 0) other ∙ are.cleared k own;
    }

    filled_other : (k : ℕ) → k < 256 * length offsets → k / 256 ≢ c
        → get_or (entries_of (numbers_of offsets) after blocks) k (entry_of 0 0) ≡ get_or (entries_of (numbers_of offsets) uniform blocks) k (entry_of 0 0)
    filled_other k fits other =
        let within : k < 256 * length (numbers_of offsets) = omega (arith, fits, numbers_length offsets) in
        entries_at (numbers_of offsets) after blocks k within
        ∙ ap (inherited (get_or blocks (place_in (numbers_of offsets) k) (entry_of 0 0))) (get_or-set_other uniform c (k / 256) e (entry_of 0 0) other)
        ∙ sym (entries_at (numbers_of offsets) uniform blocks k within)

    same_past : (k : ℕ) → 256 * length offsets ≤ k
        → get_or (entries_of (numbers_of offsets) after blocks) k (entry_of 0 0) ≡ get_or (entries_of (numbers_of offsets) uniform blocks) k (entry_of 0 0)
    same_past k past =
        get_or_past (entries_of (numbers_of offsets) after blocks) k (entry_of 0 0)
        (omega (arith, entries_length (numbers_of offsets) after blocks, numbers_length offsets))
        ∙ sym (get_or_past (entries_of (numbers_of offsets) uniform blocks) k (entry_of 0 0)
        (omega (arith, entries_length (numbers_of offsets) uniform blocks, numbers_length offsets)))

    filled_outside : (k : ℕ) → k / 256 ≢ c
        → get_or (entries_of (numbers_of offsets) after blocks) k (entry_of 0 0) ≡ get_or (entries_of (numbers_of offsets) uniform blocks) k (entry_of 0 0)
    filled_outside k other = elim (cases_lt k (256 * length offsets)) [
      | inl inside ↦ filled_other k inside other
      | inr past ↦ same_past k past
    ]

    -- it is overwritten if it isn't deeper
    pub overwrites_filled : (get_or uniform c (entry_of 0 0)).depth ≤ d
        → OverwritesFrom (entries_of (numbers_of offsets) uniform blocks) (entries_of (numbers_of offsets) after blocks) (c * 256) (c * 256 + 256) d e
    overwrites_filled covered = record {
      inside = λ k from to.
          let was = same_for_all are k from to in
          same_for_all are_filled k from to ∙ get_or-set_same uniform c e (entry_of 0 0) many
          ∙ sym (overwritten-covered d e (get_or (entries_of (numbers_of offsets) uniform blocks) k (entry_of 0 0))
          (subst (λ (x : TableEntry). x.depth ≤ d) (sym was) covered));
      below = λ k h. filled_outside k (λ same. omega arith);
      above = λ k h. filled_outside k (λ same. omega arith);
    }

    -- and unchanged if it is
    pub overwrites_deeper_block : d < (get_or uniform c (entry_of 0 0)).depth
        → OverwritesFrom (entries_of (numbers_of offsets) uniform blocks) (entries_of (numbers_of offsets) uniform blocks) (c * 256) (c * 256 + 256) d e
    overwrites_deeper_block deep = record {
      inside = λ k from to.
          let was = same_for_all are k from to in
          sym (overwritten-deeper d e (get_or (entries_of (numbers_of offsets) uniform blocks) k (entry_of 0 0))
          (subst (λ (x : TableEntry). d < x.depth) (sym was) deep));
      below = λ k h. refl;
      above = λ k h. refl;
    }

    pub no_groups : is_group (get_or uniform c (entry_of 0 0)) ≡ false
        → AreNoGroups (entries_of (numbers_of offsets) uniform blocks) (c * 256) (c * 256 + 256)
    no_groups plain k from to = ap is_group (same_for_all are k from to) ∙ plain
