-- Overwriting entry after entry, and what a prefix covers.
use Rattle.std.proofs.Common.{◌≡◌, ◌+◌, ◌-◌, ◌%◌, ◌<◌, ◌≤◌, ◌^◌, sym, subst, inl, inr}
use Rattle.std.proofs.lemmas.Bool.{cases_lt, cases_eq}
use Rattle.lpm.specs.declared.prefix.Prefix.{Prefix}
use Rattle.lpm.specs.TableEntry.{TableEntry, overwritten}
use Rattle.lpm.specs.Prefixes.{size_of, first_bits, masked}
use Rattle.lpm.specs.TwoLevels.{TwoLevels, entry_at, Overwrites, OverwritesWithin, OverwritesEntries}
use Rattle.lpm.proofs.Cover.{entry_covered, entry_from_covered, within_covered, entry_from_within, low_from_within}

module _ (p q : TwoLevels) (x : Prefix) (c : TableEntry) (is_masked : masked x.address x.depth ≡ x.address) where
  -- a prefix no deeper than the first level covers whole entries
  pub overwrites_shallow : x.depth ≤ p.bits → p.bits ≤ 32 → OverwritesEntries p q (first_bits x.address p.bits)
      (first_bits x.address p.bits + 2 ^ (p.bits - x.depth)) x.depth c → Overwrites p q x c
  overwrites_shallow shallow most a = record {
    covered = λ i low fits_i fits e.
        let held = entry_from_covered x.address x.depth p.bits is_masked shallow most i low fits e in
        a.inside i low fits_i fits held.0 held.1;
    others = λ i low fits_i fits other.
        elim (cases_lt i (first_bits x.address p.bits)) [
          | inl before ↦ a.below i low fits_i fits before
          | inr from ↦ elim (cases_lt i (first_bits x.address p.bits + 2 ^ (p.bits - x.depth))) [
            | inl to ↦ absurd (other (entry_covered x.address x.depth p.bits is_masked shallow most i low fits from to))
            | inr after ↦ a.above i low fits_i fits after
          ]
        ];
  }

  -- a deeper one is within one entry's group
  pub overwrites_deep : p.bits < x.depth → x.depth ≤ 32
      → OverwritesWithin p q (first_bits x.address p.bits) (x.address % size_of p.bits)
      (x.address % size_of p.bits + size_of x.depth) x.depth c → Overwrites p q x c
  overwrites_deep deep most a = record {
    covered = λ i low fits_i fits e.
        let same = entry_from_within x.address x.depth p.bits is_masked deep most i low fits e in
        let held = low_from_within x.address x.depth p.bits is_masked deep most i low fits e in
        subst (λ j. entry_at q j low ≡ overwritten x.depth c (entry_at p j low)) (sym same) (a.inside low fits held.0 held.1);
    others = λ i low fits_i fits other.
        elim (cases_eq i (first_bits x.address p.bits)) [
          | inr apart ↦ a.others i low fits_i fits apart
          | inl same ↦ subst (λ j. entry_at q j low ≡ entry_at p j low) (sym same) (elim (cases_lt low (x.address % size_of p.bits)) [
            | inl before ↦ a.below low fits before
            | inr from ↦ elim (cases_lt low (x.address % size_of p.bits + size_of x.depth)) [
              | inl to ↦ absurd (other (within_covered x.address x.depth p.bits is_masked deep most i low fits same from to))
              | inr after ↦ a.above low fits after
            ]
          ])
        ];
  }
