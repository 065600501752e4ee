-- How groups are made, named by an entry and freed.
use Rattle.std.proofs.Common.{◌≡◌, ◌≢◌, ℕ, zero, suc, ◌+◌, ◌*◌, ◌<◌, ◌≤◌, ◌^◌, true, false, List, [], ◌∷◌, ◌++◌, length, get_or, set, refl, sym, ap, ◌∙◌, subst}
use Rattle.std.proofs.Common.{inl, inr, arith}
use Rattle.std.proofs.lemmas.Bool.{cases_lt, cases_eq}
use Rattle.std.proofs.lemmas.List.{length-set, length_push, get_or_append_left, get_or_push}
use Rattle.std.proofs.Math.Nat.{pow-le-pow_right}
use Rattle.std.specs.List.{count_by}
use Rattle.std.proofs.lemmas.List.Sums.{count_by-le-length}
use Rattle.lpm.specs.TableEntry.{TableEntry, entry_of, is_group}
use Rattle.lpm.specs.Prefixes.{size_of}
use Rattle.lpm.specs.Allocated.{GroupsAreAllocated, made_of}
use Rattle.lpm.proofs.LevelReads.{at_most}
use Rattle.lpm.proofs.EntryOverwrites.{one_if, written_here, written_other, count_written}

-- the last free group has memory, and its number fits an entry
module _ {bits limit cap : ℕ} {first groups : List TableEntry} {free : List ℕ} (allocated : GroupsAreAllocated bits limit first groups free cap) (g : ℕ)
    (rest : List ℕ) (split : free ≡ rest ++ g ∷ []) where
  last_at : get_or free (length rest) 0 ≡ g
  last_at = ap (λ (fs : List ℕ). get_or fs (length rest) 0) split ∙ get_or_push rest g 0 (length rest) refl

  pub last_made : g < made_of first free
  last_made = omega (arith, allocated.idle (length rest) (omega (arith, ap length split, length_push rest g)), last_at)

  pub last_fits : g < 2 ^ 24
  last_fits = omega (arith, last_made, allocated.fits, pow-le-pow_right {n = 2} (omega arith) (at_most allocated))

  pub unnamed_last : (j : ℕ) → is_group (get_or first j (entry_of 0 0)) ≡ true → (get_or first j (entry_of 0 0)).number ≢ g
  unnamed_last j e same = allocated.unnamed (length rest) j (omega (arith, ap length split, length_push rest g)) e (same ∙ sym last_at)

-- an entry takes a free group, the last in the list
module _ {bits limit cap : ℕ} {first groups : List TableEntry} {free : List ℕ} (allocated : GroupsAreAllocated bits limit first groups free cap)
    (i : ℕ) (fits : i < length first) (plain : is_group (get_or first i (entry_of 0 0)) ≡ false)
    (c : TableEntry) (is : is_group c ≡ true) (gs : List TableEntry) (same_length : length gs ≡ length groups)
    (rest : List ℕ) (split : free ≡ rest ++ c.number ∷ []) (cap' : ℕ) (capacity : cap ≤ cap') where
  opened : List TableEntry
  opened = set first i c

  pub count_opened : count_by is_group (set first i c) ≡ count_by is_group first + 1
  count_opened = omega (arith, count_written first i c fits, ap one_if plain, ap one_if is)

  free_length : length free ≡ length rest + 1
  free_length = ap length split ∙ length_push rest c.number

  made_same : made_of (set first i c) rest ≡ made_of first free
  made_same = omega (arith, count_opened, free_length)

  number_last : get_or free (length rest) 0 ≡ c.number
  number_last = last_at allocated c.number rest split

  number_front : (k : ℕ) → k < length rest → get_or rest k 0 ≡ get_or free k 0
  number_front k h = sym (ap (λ (fs : List ℕ). get_or fs k 0) split ∙ get_or_append_left rest _ 0 k h)

  -- what an entry names afterwards: the new one, or what it named before
  named_after : (P : ℕ → ℕ → Type 0) → P i c.number →
      ((j : ℕ) → j ≢ i → is_group (get_or first j (entry_of 0 0)) ≡ true → P j (get_or first j (entry_of 0 0)).number)
      → (j : ℕ) → is_group (get_or (set first i c) j (entry_of 0 0)) ≡ true → P j (get_or (set first i c) j (entry_of 0 0)).number
  named_after P here others j grouped = elim (cases_eq j i) [
    | inl at ↦ subst (λ k. P k (get_or (set first i c) k (entry_of 0 0)).number) (sym at)
        (subst (λ (e : TableEntry). P i e.number) (sym (written_here first i c fits)) here)
    | inr other ↦
        let kept = written_other first i c fits j other in
        subst (λ (e : TableEntry). P j e.number) (sym kept) (others j other (ap is_group (sym kept) ∙ grouped))
  ]

  unnamed_number : (j : ℕ) → is_group (get_or first j (entry_of 0 0)) ≡ true → (get_or first j (entry_of 0 0)).number ≢ c.number
  unnamed_number = unnamed_last allocated c.number rest split

  pub allocated_opened : GroupsAreAllocated bits limit (set first i c) gs rest cap'
  allocated_opened = record {
    form = allocated.form;
    whole = length-set first i c ∙ allocated.whole;
    made = same_length ∙ allocated.made ∙ ap (λ n. n * size_of bits) (sym made_same);
    within = omega (arith, allocated.within, made_same);
    fits = omega (arith, allocated.fits, made_same);
    named = named_after (λ _ n. n < made_of (set first i c) rest)
        (omega (arith, allocated.idle (length rest) (omega (arith, free_length)), number_last, made_same))
        (λ j other e. omega (arith, allocated.named j e, made_same));
    alone = λ j k e f. named_after (λ a n. n ≡ (get_or (set first i c) k (entry_of 0 0)).number → a ≡ k)
        (named_after (λ b m. c.number ≡ m → i ≡ b) (λ _. refl) (λ b other g same. absurd (unnamed_number b g (sym same))) k f)
        (λ a other g. named_after (λ b m. (get_or first a (entry_of 0 0)).number ≡ m → a ≡ b) (λ same. absurd (unnamed_number a g same))
        (λ b apart h same. allocated.alone a b g h same) k f) j e;
    idle = λ k h. omega (arith, allocated.idle k (omega (arith, free_length)), number_front k h, made_same);
    once = λ k l h m same. allocated.once k l (omega (arith, free_length)) (omega (arith, free_length))
        (sym (number_front k h) ∙ same ∙ number_front l m);
    unnamed = λ k j h e. named_after (λ _ n. n ≢ get_or rest k 0)
        (λ same. let at : length rest ≡ k = allocated.once (length rest) k (omega (arith, free_length)) (omega (arith, free_length))
        (number_last ∙ same ∙ number_front k h) in
        omega arith)
        (λ a other g same. allocated.unnamed k a (omega (arith, free_length)) g (same ∙ number_front k h)) j e;
    room = omega (arith, allocated.room, made_same);
  }

-- an entry gives back its group
module _ {bits limit cap : ℕ} {first groups : List TableEntry} {free : List ℕ} (allocated : GroupsAreAllocated bits limit first groups free cap)
    (i : ℕ) (fits : i < length first) (grouped : is_group (get_or first i (entry_of 0 0)) ≡ true) (c : TableEntry) (is : is_group c ≡ false) where
  pub count_closed : count_by is_group (set first i c) + 1 ≡ count_by is_group first
  count_closed = omega (arith, count_written first i c fits, ap one_if grouped, ap one_if is)

  made_kept : made_of (set first i c) (free ++ (get_or first i (entry_of 0 0)).number ∷ []) ≡ made_of first free
  made_kept = omega (arith, count_closed, length_push free (get_or first i (entry_of 0 0)).number)

  -- an entry that names a group afterwards is another, and named it before
  other_entry : (j : ℕ) → is_group (get_or (set first i c) j (entry_of 0 0)) ≡ true → j ≢ i
  other_entry j e same =
      let n : is_group (get_or (set first i c) j (entry_of 0 0)) ≡ false = subst
      (λ k. is_group (get_or (set first i c) k (entry_of 0 0)) ≡ false) (sym same) (ap is_group (written_here first i c fits) ∙ is) in
      cc

  kept_entry : (j : ℕ) → is_group (get_or (set first i c) j (entry_of 0 0)) ≡ true
      → get_or (set first i c) j (entry_of 0 0) ≡ get_or first j (entry_of 0 0)
  kept_entry j e = written_other first i c fits j (other_entry j e)

  was_group : (j : ℕ) → is_group (get_or (set first i c) j (entry_of 0 0)) ≡ true → is_group (get_or first j (entry_of 0 0)) ≡ true
  was_group j e = ap is_group (sym (kept_entry j e)) ∙ e

  kept_number : (j : ℕ) → is_group (get_or (set first i c) j (entry_of 0 0)) ≡ true
      → (get_or (set first i c) j (entry_of 0 0)).number ≡ (get_or first j (entry_of 0 0)).number
  kept_number j e = ap (λ (x : TableEntry). x.number) (kept_entry j e)

  -- what holds for each free group before, and for the one that is freed
  each_free : (P : ℕ → ℕ → Type 0) → ((k : ℕ) → k < length free → P k (get_or free k 0))
      → P (length free) (get_or first i (entry_of 0 0)).number
      → (k : ℕ) → k < length (free ++ (get_or first i (entry_of 0 0)).number ∷ [])
      → P k (get_or (free ++ (get_or first i (entry_of 0 0)).number ∷ []) k 0)
  each_free P front last k h =
      let more = length_push free (get_or first i (entry_of 0 0)).number in
      elim (cases_lt k (length free)) [
        | inl before ↦ subst (P k) (sym (get_or_append_left free _ 0 k before)) (front k before)
        | inr here ↦
            let at : length free ≡ k = omega arith in
            subst (λ n. P n (get_or (free ++ (get_or first i (entry_of 0 0)).number ∷ []) n 0)) at
            (subst (P (length free)) (sym (get_or_push free _ 0 (length free) refl)) last)
      ]

  apart_from_free : (k : ℕ) → k < length free → (get_or first i (entry_of 0 0)).number ≢ get_or free k 0
  apart_from_free k h = allocated.unnamed k i h grouped

  pub allocated_closed : GroupsAreAllocated bits limit (set first i c) groups (free ++ (get_or first i (entry_of 0 0)).number ∷ []) cap
  allocated_closed = record {
    form = allocated.form;
    whole = length-set first i c ∙ allocated.whole;
    made = allocated.made ∙ ap (λ n. n * size_of bits) (sym made_kept);
    within = omega (arith, allocated.within, made_kept);
    fits = omega (arith, allocated.fits, made_kept);
    named = λ j e. omega (arith, allocated.named j (was_group j e), kept_number j e, made_kept);
    alone = λ j k e f same. allocated.alone j k (was_group j e) (was_group k f) (sym (kept_number j e) ∙ same ∙ kept_number k f);
    idle = each_free (λ _ n. n < made_of (set first i c) (free ++ (get_or first i (entry_of 0 0)).number ∷ []))
        (λ k h. omega (arith, allocated.idle k h, made_kept)) (omega (arith, allocated.named i grouped, made_kept));
    once = λ k l h m. each_free (λ a n. n ≡ get_or (free ++ (get_or first i (entry_of 0 0)).number ∷ []) l 0 → a ≡ l)
        (λ a before. each_free (λ b n. get_or free a 0 ≡ n → a ≡ b) (λ b also same. allocated.once a b before also same)
        (λ same. absurd (apart_from_free a before (sym same))) l m)
        (each_free (λ b n. (get_or first i (entry_of 0 0)).number ≡ n → length free ≡ b)
        (λ b also same. absurd (apart_from_free b also same)) (λ same. refl) l m) k h;
    unnamed = λ k j h e. each_free (λ _ n. (get_or (set first i c) j (entry_of 0 0)).number ≢ n)
        (λ a before same. allocated.unnamed a j before (was_group j e) (sym (kept_number j e) ∙ same))
        (λ same. other_entry j e (allocated.alone j i (was_group j e) grouped (sym (kept_number j e) ∙ same))) k h;
    room = omega (arith, allocated.room, made_kept);
  }

single : (x k : ℕ) → k < 1 → get_or (x ∷ []) k 0 ≡ x
single x zero h = refl
single x (suc k) h = absurd (omega arith)

-- if some entry names no group, fewer than all do
pub fewer_groups : (es : List TableEntry) (i : ℕ) → i < length es → is_group (get_or es i (entry_of 0 0)) ≡ false → count_by is_group es < length es
fewer_groups es i fits plain =
    omega (
      arith,
      count_written es i (entry_of 33 0) fits,
      ap one_if plain,
      count_by-le-length is_group
          (set es i (entry_of 33 0)),
      length-set es i (entry_of 33 0),
    )

-- a number that an entry names fits it
pub named_fits : {bits limit cap : ℕ} {first groups : List TableEntry} {free : List ℕ} → GroupsAreAllocated bits limit first groups free cap → (i : ℕ)
    → is_group (get_or first i (entry_of 0 0)) ≡ true
    → (get_or first i (entry_of 0 0)).number < 2 ^ 24
named_fits allocated i e = omega (arith, allocated.named i e, allocated.fits, pow-le-pow_right {n = 2} (omega arith) (at_most allocated))
