-- Overwriting entry by entry.
use Rattle.std.proofs.Common.{◌≡◌, ◌≢◌, ℕ, ◌+◌, ◌<◌, ◌≤◌, List, length, get_or, set, sym, ◌∙◌, subst, inl, inr, arith, get_or-set_same, get_or-set_other}
use Rattle.std.proofs.lemmas.Bool.{cases_lt}
use Rattle.lpm.specs.TableEntry.{TableEntry, entry_of, overwritten}
use Rattle.lpm.specs.Overwrite.{OverwritesFrom}
use Rattle.lpm.proofs.Overwritten.{overwritten-deeper, overwritten-covered}

-- what holds for each index from `from` up to i, exclusive, and at i
more_inside : (P : ℕ → Type 0) (from i : ℕ) → ((k : ℕ) → from ≤ k → k < i → P k) → P i → (k : ℕ) → from ≤ k → k < i + 1 → P k
more_inside P from i so_far here k low high =
    elim (cases_lt k i) [ inl below ↦ so_far k low below | inr last ↦ subst P (let e : i ≡ k = omega arith in e) here ]

-- an entry that is deeper is unchanged
pub overwrites_deeper : (old now : List TableEntry) (from i d : ℕ) (c : TableEntry) → OverwritesFrom old now from i d c → from ≤ i → (x : TableEntry)
    → x ≡ get_or now i (entry_of 0 0) → d < x.depth → OverwritesFrom old now from (i + 1) d c
overwrites_deeper old now from i d c so_far low x read deep =
    let same = so_far.above i (omega arith) in
    let here = same ∙ sym (overwritten-deeper d c (get_or old i (entry_of 0 0)) (subst (λ (e : TableEntry). d < e.depth) (read ∙ same) deep)) in
    record {
      inside = more_inside (λ k. get_or now k (entry_of 0 0) ≡ overwritten d c (get_or old k (entry_of 0 0))) from i so_far.inside here;
      below = so_far.below;
      above = λ k h. so_far.above k (omega arith);
    }

-- and one that is not is written
pub overwrites_here : (old now : List TableEntry) (from i d : ℕ) (c : TableEntry) → OverwritesFrom old now from i d c → from ≤ i → i < length now
    → (x : TableEntry) → x ≡ get_or now i (entry_of 0 0) → x.depth ≤ d
    → OverwritesFrom old (set now i c) from (i + 1) d c
overwrites_here old now from i d c so_far low fits x read covered =
    let same = so_far.above i (omega arith) in
    let here = get_or-set_same now i c (entry_of 0 0) fits ∙ sym
    (overwritten-covered d c (get_or old i (entry_of 0 0)) (subst (λ (e : TableEntry). e.depth ≤ d) (read ∙ same) covered)) in
    let other : (k : ℕ) → k ≢ i → get_or (set now i c) k (entry_of 0 0) ≡ get_or now k (entry_of 0 0) = λ k ne. get_or-set_other now i k c
    (entry_of 0 0) ne in
    record {
      inside = more_inside (λ k. get_or (set now i c) k (entry_of 0 0) ≡ overwritten d c (get_or old k (entry_of 0 0))) from i
          (λ k a b. other k (λ e. omega arith) ∙ so_far.inside k a b) here;
      below = λ k h. other k (λ e. omega arith) ∙ so_far.below k h;
      above = λ k h. other k (λ e. omega arith) ∙ so_far.above k (omega arith);
    }
