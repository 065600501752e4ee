-- Overwriting one entry, whether it names a group or not.
use Rattle.std.proofs.Common.{◌≡◌, ◌≢◌, ℕ, suc, [], ◌∷◌, ◌+◌, ◌*◌, ◌<◌, ◌≤◌, Bool, true, false, cond, List, length, get_or, set, refl, sym, ap, ◌∙◌, subst, inl, inr, arith}
use Rattle.std.proofs.Common.{get_or-set_same, get_or-set_other}
use Rattle.std.proofs.lemmas.Bool.{cases_eq}
use Rattle.std.proofs.lemmas.List.{length-set}
use Rattle.std.proofs.lemmas.List.Sums.{sum_by-set, sum_by-cons}
use Rattle.std.specs.List.{count_by}
use Rattle.lpm.specs.TableEntry.{TableEntry, entry_of, is_group, overwritten}
use Rattle.lpm.specs.Prefixes.{size_of}
use Rattle.lpm.specs.Allocated.{GroupsAreAllocated, made_of}
use Rattle.lpm.specs.TwoLevels.{TwoLevels, first_at, grouped_at, entry_at, OverwritesEntries}
use Rattle.lpm.proofs.Overwritten.{overwritten-covered, overwritten-deeper}
use Rattle.lpm.proofs.LevelReads.{entry_at-plain}

abbrev pub one_if : Bool → ℕ
one_if b = cond b 1 0

-- as many entries name a group in two lists of the same kinds
pub count_alike : (es fs : List TableEntry) → length fs ≡ length es
    → ((j : ℕ) → is_group (get_or fs j (entry_of 0 0)) ≡ is_group (get_or es j (entry_of 0 0))) → count_by is_group fs ≡ count_by is_group es
count_alike [] [] long kinds = refl
count_alike [] (f ∷ fs) long kinds = absurd (omega arith)
count_alike (e ∷ es) [] long kinds = absurd (omega arith)
count_alike (e ∷ es) (f ∷ fs) long kinds =
    omega (
      arith,
      sum_by-cons (λ (x : TableEntry). cond (is_group x) 1 0) f fs,
      sum_by-cons (λ (x : TableEntry). cond (is_group x) 1 0) e es,
      ap one_if (kinds 0),
      count_alike es fs (omega arith) (λ j. kinds (suc j)),
    )

-- entries of the same kinds, of which those that name a group are the same
module _ (es fs : List TableEntry) (long : length fs ≡ length es)
    (kinds : (j : ℕ) → is_group (get_or fs j (entry_of 0 0)) ≡ is_group (get_or es j (entry_of 0 0)))
    (groups : (j : ℕ) → is_group (get_or fs j (entry_of 0 0)) ≡ true → get_or fs j (entry_of 0 0) ≡ get_or es j (entry_of 0 0)) where
  pub allocated_alike : {bits limit cap : ℕ} {grouped : List TableEntry} {free : List ℕ} → GroupsAreAllocated bits limit es grouped free cap
      → GroupsAreAllocated bits limit fs grouped free cap
  allocated_alike {bits} {limit} {cap} {grouped} {free} allocated =
      let count = count_alike es fs long kinds in
      let made : made_of fs free ≡ made_of es free = omega arith in
      let number : (j : ℕ) → is_group (get_or fs j (entry_of 0 0)) ≡ true
      → (get_or fs j (entry_of 0 0)).number ≡ (get_or es j (entry_of 0 0)).number = λ j e. ap (λ (x : TableEntry). x.number) (groups j e) in
      let old : (j : ℕ) → is_group (get_or fs j (entry_of 0 0)) ≡ true → is_group (get_or es j (entry_of 0 0)) ≡ true = λ j e. sym (kinds j) ∙ e in
      record {
        form = allocated.form;
        whole = long ∙ allocated.whole;
        made = allocated.made ∙ ap (λ n. n * size_of bits) (sym made);
        within = omega (arith, allocated.within);
        fits = omega (arith, allocated.fits);
        named = λ j e. omega (arith, allocated.named j (old j e), number j e);
        alone = λ j k e f same. allocated.alone j k (old j e) (old k f) (sym (number j e) ∙ same ∙ number k f);
        idle = λ k h. omega (arith, allocated.idle k h);
        once = allocated.once;
        unnamed = λ k j h e same. allocated.unnamed k j h (old j e) (sym (number j e) ∙ same);
        room = omega (arith, allocated.room);
      }

-- an entry as it was read and an entry to write
module _ (es : List TableEntry) (i : ℕ) (c : TableEntry) (fits : i < length es) where
  pub written_here : get_or (set es i c) i (entry_of 0 0) ≡ c
  written_here = get_or-set_same es i c (entry_of 0 0) fits

  pub written_other : (j : ℕ) → j ≢ i → get_or (set es i c) j (entry_of 0 0) ≡ get_or es j (entry_of 0 0)
  written_other j other = get_or-set_other es i j c (entry_of 0 0) other

  -- one more or less of the entries names a group
  pub count_written : count_by is_group (set es i c) + one_if (is_group (get_or es i (entry_of 0 0))) ≡ count_by is_group es + one_if
      (is_group c)
  count_written = sum_by-set (λ (e : TableEntry). cond (is_group e) 1 0) es i c (entry_of 0 0) fits

-- a write of an entry that names no group, by one that names none
module _ (es : List TableEntry) (i : ℕ) (c : TableEntry) (fits : i < length es) (was : is_group (get_or es i (entry_of 0 0)) ≡ false)
    (is : is_group c ≡ false) where
  pub kinds_plain : (j : ℕ) → is_group (get_or (set es i c) j (entry_of 0 0)) ≡ is_group (get_or es j (entry_of 0 0))
  kinds_plain j = elim (cases_eq j i) [
    | inl same ↦ subst (λ k. is_group (get_or (set es i c) k (entry_of 0 0)) ≡ is_group (get_or es k (entry_of 0 0))) (sym same)
        (ap is_group (written_here es i c fits) ∙ is ∙ sym was)
    | inr other ↦ ap is_group (written_other es i c fits j other)
  ]

  -- an entry that names a group is another
  pub groups_plain : (j : ℕ) → is_group (get_or (set es i c) j (entry_of 0 0)) ≡ true
      → get_or (set es i c) j (entry_of 0 0) ≡ get_or es j (entry_of 0 0)
  groups_plain j grouped = elim (cases_eq j i) [
    | inl same ↦ let e : is_group (get_or (set es i c) i (entry_of 0 0)) ≡ true = subst
        (λ k. is_group (get_or (set es i c) k (entry_of 0 0)) ≡ true) same grouped in
        let n : is_group (get_or (set es i c) i (entry_of 0 0)) ≡ false = ap is_group (written_here es i c fits) ∙ is in cc
    | inr other ↦ written_other es i c fits j other
  ]

  pub allocated_plain : {bits limit cap : ℕ} {groups : List TableEntry} {free : List ℕ} → GroupsAreAllocated bits limit es groups free cap
      → GroupsAreAllocated bits limit (set es i c) groups free cap
  allocated_plain = allocated_alike es (set es i c) (length-set es i c) kinds_plain groups_plain

module _ (p : TwoLevels) (i d : ℕ) (c : TableEntry) where
  -- an entry that is deeper
  pub entry_deeper : is_group (first_at p i) ≡ false → d < (first_at p i).depth → OverwritesEntries p p i (i + 1) d c
  entry_deeper plain deep = record {
    inside = λ j low fits_j fits h k.
        let same : i ≡ j = omega arith in
        let is = entry_at-plain p i low plain in
        subst (λ n. entry_at p n low ≡ overwritten d c (entry_at p n low)) same
        (sym (overwritten-deeper d c (entry_at p i low) (subst (λ (e : TableEntry). d < e.depth) (sym is) deep)));
    below = λ j low fits_j fits h. refl;
    above = λ j low fits_j fits h. refl;
  }

  -- an entry that is written
  module _ (plain : is_group (first_at p i) ≡ false) (is : is_group c ≡ false) (fits_i : i < length p.first) where
    written : TwoLevels
    written = record p { first = set p.first i c }

    others_written : (j low : ℕ) → j ≢ i → entry_at written j low ≡ entry_at p j low
    unfolding entry_at written
    others_written j low other = ap (λ (e : TableEntry). cond (is_group e) (grouped_at p e.number low) e) (written_other p.first i c fits_i j other)

    pub entry_written : (first_at p i).depth ≤ d → OverwritesEntries p (record p { first = set p.first i c }) i (i + 1) d c
    unfolding written
    entry_written covered = record {
      inside = λ j low fits_j fits h k.
          let same : i ≡ j = omega arith in
          let was = entry_at-plain p i low plain in
          let now = entry_at-plain written i low (ap is_group (written_here p.first i c fits_i) ∙ is) ∙ written_here p.first i c fits_i in
          subst (λ n. entry_at written n low ≡ overwritten d c (entry_at p n low)) same
          (now ∙ sym (overwritten-covered d c (entry_at p i low) (subst (λ (e : TableEntry). e.depth ≤ d) (sym was) covered)));
      below = λ j low fits_j fits h. others_written j low (λ e. omega arith);
      above = λ j low fits_j fits h. others_written j low (λ e. omega arith);
    }
