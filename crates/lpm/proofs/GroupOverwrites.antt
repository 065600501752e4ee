-- Overwriting a range of one group overwrites places of the one entry that names it.
use Rattle.std.proofs.Common.{◌≡◌, ◌≢◌, ℕ, ◌+◌, ◌-◌, ◌*◌, ◌<◌, ◌≤◌, true, List, length, get_or, sym, ap, ◌∙◌, inl, inr, arith}
use Rattle.std.proofs.lemmas.Bool.{cases_order, cases_Bool}
use Rattle.std.proofs.lemmas.Nat.{mul-add-lt}
use Rattle.std.proofs.Math.Nat.{mul_comm}
use Rattle.lpm.specs.TableEntry.{TableEntry, entry_of, is_group, overwritten}
use Rattle.lpm.specs.Prefixes.{size_of}
use Rattle.lpm.specs.TwoLevels.{TwoLevels, first_at, entry_at, OverwritesWithin}
use Rattle.lpm.specs.Overwrite.{OverwritesFrom}
use Rattle.lpm.specs.Allocated.{GroupsAreAllocated, made_of}
use Rattle.lpm.proofs.Masks.{size_pos}
use Rattle.lpm.proofs.LevelReads.{entry_at-grouped, entry_at-plain}

-- places of a lower-numbered group come before those of a higher-numbered one
pub group_before : (h g size low : ℕ) → h < g → low < size → h * size + low < g * size
group_before h g size low less fits = omega (arith, mul-add-lt h size low g less fits, mul_comm size g)

pub group_span : (g h size : ℕ) → g < h → 0 < size → g * size + size ≤ h * size
group_span g h size less pos = omega (arith, mul-add-lt g size (size - 1) h less (omega arith), mul_comm size h)

-- no two entries name the same group
abbrev pub IsAlone : List TableEntry → Type 0
IsAlone first = (i j : ℕ) → is_group (get_or first i (entry_of 0 0)) ≡ true → is_group (get_or first j (entry_of 0 0)) ≡ true
    → (get_or first i (entry_of 0 0)).number ≡ (get_or first j (entry_of 0 0)).number → i ≡ j

module _ (p q : TwoLevels) (same_bits : q.bits ≡ p.bits) (same_first : q.first ≡ p.first) (alone : IsAlone p.first)
    (i from to d : ℕ) (c : TableEntry) (grouped : is_group (first_at p i) ≡ true) (within : to ≤ size_of p.bits) (ordered : from ≤ to)
    (overwrites : OverwritesFrom p.groups q.groups ((first_at p i).number * size_of p.bits + from)
    ((first_at p i).number * size_of p.bits + to) d c) where
  same_entry : (j : ℕ) → first_at q j ≡ first_at p j
  same_entry j = ap (λ (es : List TableEntry). get_or es j (entry_of 0 0)) same_first

  moved : (j low : ℕ) → is_group (first_at p j) ≡ true → entry_at q j low ≡ get_or q.groups
      ((first_at p j).number * size_of p.bits + low) (entry_of 0 0)
  moved j low e =
      entry_at-grouped q j low (ap is_group (same_entry j) ∙ e)
      ∙ (λ k. get_or q.groups ((same_entry j k).number * size_of (same_bits k) + low) (entry_of 0 0))

  kept : (j low : ℕ) → is_group (first_at p j) ≡ true → get_or q.groups ((first_at p j).number * size_of p.bits + low)
      (entry_of 0 0) ≡ get_or p.groups ((first_at p j).number * size_of p.bits + low) (entry_of 0 0)
      → entry_at q j low ≡ entry_at p j low
  kept j low e same = moved j low e ∙ same ∙ sym (entry_at-grouped p j low e)

  apart : (j low : ℕ) → low < size_of p.bits → is_group (first_at p j) ≡ true → j ≢ i → entry_at q j low ≡ entry_at p j low
  apart j low fits e other =
      elim (cases_order (first_at p j).number (first_at p i).number) [
        | inl tie ↦ absurd (other (alone j i e grouped tie))
        | inr differ ↦ kept j low e (elim differ [
          | inl lower ↦ overwrites.below _ (let h = group_before _ _ _ low lower fits in omega arith)
          | inr higher ↦ overwrites.above _ (let h = group_span _ _ (size_of p.bits) higher (size_pos p.bits) in omega arith)
        ])
      ]

  pub overwrites_within : OverwritesWithin p q i from to d c
  overwrites_within = record {
    inside = λ low fits low_from low_to. moved i low grouped ∙ overwrites.inside _ (omega arith) (omega arith)
        ∙ ap (overwritten d c) (sym (entry_at-grouped p i low grouped));
    below = λ low fits low_from. kept i low grouped (overwrites.below _ (omega arith));
    above = λ low fits low_to. kept i low grouped (overwrites.above _ (omega arith));
    others = λ j low fits_j fits other. elim (cases_Bool (is_group (first_at p j))) [
      | inl e ↦ apart j low fits e other
      | inr e ↦ entry_at-plain q j low (ap is_group (same_entry j) ∙ e) ∙ same_entry j ∙ sym (entry_at-plain p j low e)
    ];
  }

-- a range of a group that has memory
pub stretch_fits : {bits limit cap : ℕ} {first groups : List TableEntry} {free : List ℕ} → GroupsAreAllocated bits limit first groups free cap
    → (group to : ℕ) → group < made_of first free → to ≤ size_of bits
    → group * size_of bits + to ≤ length groups
stretch_fits {bits} {limit} {cap} {first} {groups} {free} allocated group to made within =
    omega (arith, allocated.made, group_span group (made_of first free) (size_of bits) made (size_pos bits))
