-- The content of the places when a group is made, named by an entry or freed.
use Rattle.std.proofs.Common.{◌≡◌, ◌≢◌, ℕ, ◌+◌, ◌*◌, ◌<◌, true, false, List, ◌++◌, length, get_or, set, refl, sym, ap, ◌∙◌, subst, inl, inr, arith}
use Rattle.std.proofs.lemmas.Bool.{cases_order, cases_eq, cases_Bool}
use Rattle.std.proofs.lemmas.List.{get_or_append_left}
use Rattle.lpm.specs.TableEntry.{TableEntry, entry_of, is_group}
use Rattle.lpm.specs.Prefixes.{size_of}
use Rattle.lpm.specs.Allocated.{GroupsAreAllocated}
use Rattle.lpm.specs.Overwrite.{FillsFrom}
use Rattle.lpm.specs.TwoLevels.{TwoLevels, first_at, grouped_at, entry_at, Regroups, Grows}
use Rattle.lpm.proofs.Masks.{size_pos}
use Rattle.lpm.proofs.GroupOverwrites.{group_before, group_span}
use Rattle.lpm.proofs.LevelReads.{entry_at-grouped, entry_at-plain, place_fits}
use Rattle.lpm.proofs.EntryOverwrites.{written_here, written_other}

module _ (p : TwoLevels) (i : ℕ) (fits : i < length p.first) where
  -- a place of another entry, whose group is unchanged
  other_place : (gs : List TableEntry) (c : TableEntry) (f j low : ℕ) → j ≢ i
      → (is_group (first_at p j) ≡ true → get_or gs ((first_at p j).number * size_of p.bits + low) (entry_of 0 0) ≡ grouped_at p
      (first_at p j).number low)
      → entry_at (record p { first = set p.first i c; groups = gs; free = f }) j low ≡ entry_at p j low
  other_place gs c f j low other same =
      let q : TwoLevels = record p { first = set p.first i c; groups = gs; free = f } in
      let kept : first_at q j ≡ first_at p j = written_other p.first i c fits j other in
      elim (cases_Bool (is_group (first_at p j))) [
        | inl grouped ↦
            entry_at-grouped q j low (ap is_group kept ∙ grouped) ∙ ap (λ (e : TableEntry). grouped_at q e.number low) kept ∙ same grouped
            ∙ sym (entry_at-grouped p j low grouped)
        | inr plain ↦ entry_at-plain q j low (ap is_group kept ∙ plain) ∙ kept ∙ sym (entry_at-plain p j low plain)
      ]

  pub opens : (gs : List TableEntry) (g : ℕ) → is_group (first_at p i) ≡ false
      → FillsFrom p.groups gs (g * size_of p.bits + 0) (g * size_of p.bits + size_of p.bits) (first_at p i)
      → ((j : ℕ) → is_group (first_at p j) ≡ true → (first_at p j).number ≢ g) → (f : ℕ)
      → Regroups p (record p { first = set p.first i (entry_of 33 g); groups = gs; free = f }) i true
  opens gs g plain fills unnamed f =
      let q : TwoLevels = record p { first = set p.first i (entry_of 33 g); groups = gs; free = f } in
      let here : first_at q i ≡ entry_of 33 g = written_here p.first i (entry_of 33 g) fits in
      record {
        bits = refl;
        limit = refl;
        here = ap is_group here;
        others = λ j other. ap is_group (written_other p.first i (entry_of 33 g) fits j other);
        entries = λ j low fits_j fits_low. elim (cases_eq j i) [
          | inl at ↦ subst (λ k. entry_at q k low ≡ entry_at p k low) (sym at)
              (entry_at-grouped q i low (ap is_group here) ∙ ap (λ (e : TableEntry). grouped_at q e.number low) here
              ∙ fills.inside (g * size_of p.bits + low) (omega arith) (omega arith) ∙ sym (entry_at-plain p i low plain))
          | inr other ↦ other_place gs (entry_of 33 g) f j low other (λ grouped. elim (cases_order (first_at p j).number g) [
            | inl tie ↦ absurd (unnamed j grouped tie)
            | inr differ ↦ elim differ [
              | inl lower ↦ let h = group_before (first_at p j).number g (size_of p.bits) low lower fits_low in fills.below _ (omega arith)
              | inr higher ↦ let h = group_span g (first_at p j).number (size_of p.bits) higher (size_pos p.bits) in fills.above _
                  (omega arith)
            ]
          ])
        ];
      }

  pub closes : is_group (first_at p i) ≡ true → is_group (entry_at p i 0) ≡ false
      → ((low : ℕ) → low < size_of p.bits → entry_at p i low ≡ entry_at p i 0) → (f : ℕ)
      → Regroups p (record p { first = set p.first i (entry_at p i 0); free = f }) i false
  closes grouped plain alike f =
      let q : TwoLevels = record p { first = set p.first i (entry_at p i 0); free = f } in
      let here : first_at q i ≡ entry_at p i 0 = written_here p.first i (entry_at p i 0) fits in
      record {
        bits = refl;
        limit = refl;
        here = ap is_group here ∙ plain;
        others = λ j other. ap is_group (written_other p.first i (entry_at p i 0) fits j other);
        entries = λ j low fits_j fits_low. elim (cases_eq j i) [
          | inl at ↦ subst (λ k. entry_at q k low ≡ entry_at p k low) (sym at)
              (entry_at-plain q i low (ap is_group here ∙ plain) ∙ here ∙ sym (alike low fits_low))
          | inr other ↦ other_place p.groups (entry_at p i 0) f j low other (λ _. refl)
        ];
      }

-- memory after that of the existing groups
pub grows : (p : TwoLevels) (more : List TableEntry) (free : List ℕ) (cap f : ℕ) → GroupsAreAllocated p.bits p.limit p.first p.groups free cap
    → Grows p (record p { groups = p.groups ++ more; free = f })
grows p more free cap f allocated =
    let q : TwoLevels = record p { groups = p.groups ++ more; free = f } in
    record {
      bits = refl;
      limit = refl;
      first = refl;
      entries = λ i low fits_i fits. elim (cases_Bool (is_group (first_at p i))) [
        | inl grouped ↦
            entry_at-grouped q i low grouped ∙ get_or_append_left p.groups more (entry_of 0 0) _
            (place_fits allocated (first_at p i).number low (allocated.named i grouped) fits)
            ∙ sym (entry_at-grouped p i low grouped)
        | inr plain ↦ entry_at-plain q i low plain ∙ sym (entry_at-plain p i low plain)
      ];
    }
