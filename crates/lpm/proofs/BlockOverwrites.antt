-- Overwriting the entries of a block that have one content, which names no group.
use Rattle.std.proofs.Common.{◌≡◌, ℕ, ◌<◌, ◌≤◌, Bool, true, false, cond, nat_le, List, length, get_or, refl, sym, ap, ◌∙◌, inl, inr}
use Rattle.std.proofs.lemmas.Bool.{cases_lt}
use Rattle.lpm.specs.TableEntry.{TableEntry, entry_of, is_group, overwritten}
use Rattle.lpm.specs.Overwrite.{AreNoGroups, OverwritesFrom}
use Rattle.lpm.specs.TwoLevels.{TwoLevels, first_at, grouped_at, entry_at, OverwritesEntries, KeepsGroups}
use Rattle.lpm.proofs.EntryOverwrites.{count_alike}
use Rattle.lpm.proofs.LevelReads.{entry_at-plain}

either_plain : (b : Bool) (new old : TableEntry) → is_group new ≡ false → is_group old ≡ false → is_group (cond b new old) ≡ false
either_plain true new old n o = n
either_plain false new old n o = o

overwritten_plain : (d : ℕ) (new old : TableEntry) → is_group new ≡ false → is_group old ≡ false → is_group (overwritten d new old) ≡ false
unfolding overwritten
overwritten_plain d new old n o = either_plain (nat_le old.depth d) new old n o

module _ (es fs : List TableEntry) (from to d : ℕ) (c : TableEntry) (wrote : OverwritesFrom es fs from to d c) (were : AreNoGroups es from to)
    (is : is_group c ≡ false) where
  plain_after : (j : ℕ) → from ≤ j → j < to → is_group (get_or fs j (entry_of 0 0)) ≡ false
  plain_after j h k = ap is_group (wrote.inside j h k) ∙ overwritten_plain d c (get_or es j (entry_of 0 0)) is (were j h k)

  pub kinds_block : (j : ℕ) → is_group (get_or fs j (entry_of 0 0)) ≡ is_group (get_or es j (entry_of 0 0))
  kinds_block j = elim (cases_lt j from) [
    | inl before ↦ ap is_group (wrote.below j before)
    | inr after ↦ elim (cases_lt j to) [
      | inl inside ↦ plain_after j after inside ∙ sym (were j after inside)
      | inr past ↦ ap is_group (wrote.above j past)
    ]
  ]

  pub groups_block : (j : ℕ) → is_group (get_or fs j (entry_of 0 0)) ≡ true → get_or fs j (entry_of 0 0) ≡ get_or es j (entry_of 0 0)
  groups_block j grouped = elim (cases_lt j from) [
    | inl before ↦ wrote.below j before
    | inr after ↦ elim (cases_lt j to) [
      | inl inside ↦ let plain = plain_after j after inside in cc
      | inr past ↦ wrote.above j past
    ]
  ]

module _ (p : TwoLevels) (fs : List TableEntry) (from to d : ℕ) (c : TableEntry) (wrote : OverwritesFrom p.first fs from to d c)
    (were : AreNoGroups p.first from to) (is : is_group c ≡ false) where
  pub keeps_block : length fs ≡ length p.first → KeepsGroups p (record p { first = fs })
  keeps_block long = record {
    bits = refl;
    limit = refl;
    free = refl;
    kinds = kinds_block p.first fs from to d c wrote were is;
    used = count_alike p.first fs long (kinds_block p.first fs from to d c wrote were is);
  }

  same_entry : (j low : ℕ) → get_or fs j (entry_of 0 0) ≡ first_at p j → entry_at (record p { first = fs }) j low ≡ entry_at p j low
  unfolding entry_at
  same_entry j low same = ap (λ (e : TableEntry). cond (is_group e) (grouped_at p e.number low) e) same

  pub block_written : OverwritesEntries p (record p { first = fs }) from to d c
  block_written = record {
    inside = λ j low fits_j fits h k.
        entry_at-plain (record p { first = fs }) j low (plain_after p.first fs from to d c wrote were is j h k) ∙ wrote.inside j h k
        ∙ ap (overwritten d c) (sym (entry_at-plain p j low (were j h k)));
    below = λ j low fits_j fits h. same_entry j low (wrote.below j h);
    above = λ j low fits_j fits h. same_entry j low (wrote.above j h);
  }
