-- What a row of places holds, by number, and what a write or a step of `next` changes in it.
use Rattle.std.proofs.Common.{◌≡◌, ◌≢◌, ℕ, zero, suc, ◌+◌, ◌%◌, ◌<◌, ◌≤◌, ◌⊎◌, inl, inr, true, false, cond, List, length, get_or, set, Option, Some, None, refl}
use Rattle.std.proofs.Common.{sym, ap, ◌∙◌, arith, length-set, eq-eqb, ne_eqb, is_some, true≢false}
use Rattle.std.specs.Ordering.{nat_cmp, eq_by_cmp}
use Rattle.std.specs.Cmp.{nat_cmp_total, unsigned_tied}
use Rattle.std.specs.FinMap.{find, get, insert, remove, get-from_entries, get-insert, get-remove, same_map, nat_cmp-IsAntisymmetric}
use Rattle.std.proofs.lemmas.Bool.{cases_lt, cases_eq, cond-true, cond-false}
use Rattle.reorder.specs.Places.{pair_before, at_number, pairs_from, held_in}
use Rattle.reorder.proofs.Rows.{apart, other_place, place_before, at_written, at_other}

pub tied : (q n : ℕ) → q ≡ n → eq_by_cmp nat_cmp q n ≡ true
tied q n same = unsigned_tied q n ∙ eq-eqb q n same

pub untied : (q n : ℕ) → q ≢ n → eq_by_cmp nat_cmp q n ≡ false
untied q n other = unsigned_tied q n ∙ ne_eqb q n other

module _ {T : Type 0} where
  find_here : (q n : ℕ) (o : Option T) (pairs : List (ℕ × T)) → q ≡ n → find nat_cmp q pairs ≡ None
      → find nat_cmp q (pair_before n o pairs) ≡ o
  find_here q n None pairs same none = none
  find_here q n (Some x) pairs same none = ap (λ b. cond b (Some x) (find nat_cmp q pairs)) (tied q n same)

  find_there : (q n : ℕ) (o : Option T) (pairs : List (ℕ × T)) → q ≢ n
      → find nat_cmp q (pair_before n o pairs) ≡ find nat_cmp q pairs
  find_there q n None pairs other = refl
  find_there q n (Some x) pairs other = ap (λ b. cond b (Some x) (find nat_cmp q pairs)) (untied q n other)

  find_outside : (places : List (Option T)) (count n q : ℕ) → (q < n) ⊎ (n + count ≤ q)
      → find nat_cmp q (pairs_from places n count) ≡ None
  find_outside places zero n q out = refl
  find_outside places (suc count) n q out =
      let other : q ≢ n = elim out [ inl low ↦ λ e. omega arith | inr high ↦ λ e. omega arith ] in
      let further : (q < n + 1) ⊎ (n + 1 + count ≤ q) = elim out
      [ inl low ↦ inl (omega arith) | inr high ↦ inr (omega arith) ] in
      find_there q n (at_number places n) _ other ∙ find_outside places count (n + 1) q further

  find_inside : (places : List (Option T)) (count n q : ℕ) → n ≤ q → q < n + count
      → find nat_cmp q (pairs_from places n count) ≡ at_number places q
  find_inside places zero n q low high = absurd (omega arith)
  find_inside places (suc count) n q low high = elim (cases_eq q n) [
    | inl same ↦ find_here q n (at_number places n) _ same (find_outside places count (n + 1) q (inl (omega arith)))
        ∙ ap (at_number places) (sym same)
    | inr other ↦ find_there q n (at_number places n) _ other
        ∙ find_inside places count (n + 1) q (omega arith) (omega arith)
  ]

  -- a number of the window has what is at its place
  pub held_inside : (places : List (Option T)) (next q : ℕ) → next ≤ q → q < next + length places
      → get (held_in places next) q ≡ at_number places q
  held_inside places next q low high = get-from_entries nat_cmp_total _ q
      ∙ find_inside places (length places) next q low high

  -- any other number has nothing
  pub held_outside : (places : List (Option T)) (next q : ℕ) → (q < next) ⊎ (next + length places ≤ q)
      → get (held_in places next) q ≡ None
  held_outside places next q out = get-from_entries nat_cmp_total _ q ∙ find_outside places (length places) next q out

  -- a number that is held is in the window
  pub held_within : (places : List (Option T)) (next q : ℕ) → is_some (get (held_in places next) q) ≡ true
      → (next ≤ q) × (q < next + length places)
  held_within places next q held = elim (cases_lt q next) [
    | inl low ↦ absurd (true≢false (sym held ∙ ap is_some (held_outside places next q (inl low))))
    | inr from ↦ elim (cases_lt q (next + length places)) [
      | inl upto ↦ (from, upto)
      | inr high ↦ absurd (true≢false (sym held ∙ ap is_some (held_outside places next q (inr high))))
    ]
  ]

  module _ (places : List (Option T)) (next n : ℕ) (o : Option T) (some : 0 < length places) (low : next ≤ n)
      (high : n < next + length places) where
    abbrev pub written : List (Option T)
    written = set places (n % length places) o

    same_length : length written ≡ length places
    same_length = length-set places (n % length places) o

    held_at_written : get (held_in written next) n ≡ o
    held_at_written = held_inside written next n low (rw same_length high) ∙ at_written places n o some

    held_at_other : (q : ℕ) → q ≢ n → get (held_in written next) q ≡ get (held_in places next) q
    held_at_other q other = elim (cases_lt q next) [
      | inl below ↦ held_outside written next q (inl below) ∙ sym (held_outside places next q (inl below))
      | inr from ↦ elim (cases_lt q (next + length places)) [
        | inl upto ↦
            held_inside written next q from (rw same_length upto)
            ∙ at_other places n o q (other_place (length places) next q n some from upto low high other)
            ∙ sym (held_inside places next q from upto)
        | inr past ↦ held_outside written next q (inr (rw same_length past))
            ∙ sym (held_outside places next q (inr past))
      ]
    ]

    -- a write at the place of a number of the window changes what is held at that number, and nothing else
    pub held_written : (q : ℕ) → get (held_in written next) q ≡ cond (eq_by_cmp nat_cmp q n) o
        (get (held_in places next) q)
    held_written q = elim (cases_eq q n) [
      | inl same ↦ ap (get (held_in written next)) same ∙ held_at_written ∙ sym (cond-true _ o _ (tied q n same))
      | inr other ↦ held_at_other q other ∙ sym (cond-false _ o _ (untied q n other))
    ]

  -- an item put into the place of n is inserted at n
  pub held-put : (places : List (Option T)) (next n : ℕ) (x : T) → 0 < length places → next ≤ n
      → n < next + length places → held_in (set places (n % length places) (Some x)) next ≡ insert
      (held_in places next) n x
  held-put places next n x some low high = same_map nat_cmp_total nat_cmp-IsAntisymmetric _ _
      (λ q. held_written places next n (Some x) some low high q ∙ sym (get-insert nat_cmp_total _ n x q))

  -- an item taken from the place of n is removed at n
  pub held-taken : (places : List (Option T)) (next n : ℕ) → 0 < length places → next ≤ n → n < next + length places
      → held_in (set places (n % length places) None) next ≡ remove (held_in places next) n
  held-taken places next n some low high = same_map nat_cmp_total nat_cmp-IsAntisymmetric _ _
      (λ q. held_written places next n None some low high q ∙ sym (get-remove nat_cmp_total _ n q))

  module _ (places : List (Option T)) (next later : ℕ) (some : 0 < length places) (on : next ≤ later)
      (vacant : (n : ℕ) → next ≤ n → n < later → n < next + length places → at_number places n ≡ None) where
    passed : (q : ℕ) → q < later → get (held_in places next) q ≡ None
    passed q below = elim (cases_lt q next) [
      | inl low ↦ held_outside places next q (inl low)
      | inr from ↦ elim (cases_lt q (next + length places)) [
        | inl upto ↦ held_inside places next q from upto ∙ vacant q from below upto
        | inr past ↦ held_outside places next q (inr past)
      ]
    ]

    -- a number that only the later window has shares its place with one that was passed
    gained : (q : ℕ) → next + length places ≤ q → q < later + length places → at_number places q ≡ None
    gained q past upto =
        let before = place_before (length places) next q some (omega arith) in
        let a_row_on : before.0 + length places ≤ q =
        elim (cases_lt q (before.0 + length places)) [
          | inl near ↦
              absurd (apart (length places) before.0 q some (omega (arith, before.2)) near before.4)
          | inr far ↦
              far
        ] in
        ap (λ place. get_or places place None) (sym before.4) ∙ vacant before.0 before.1 (omega arith) before.2

    ahead : (q : ℕ) → later ≤ q → get (held_in places later) q ≡ get (held_in places next) q
    ahead q from = elim (cases_lt q (later + length places)) [
      | inl upto ↦ held_inside places later q from upto ∙ elim (cases_lt q (next + length places)) [
        | inl both ↦ sym (held_inside places next q (omega arith) both)
        | inr past ↦ gained q past upto ∙ sym (held_outside places next q (inr past))
      ]
      | inr past ↦ held_outside places later q (inr past) ∙ sym (held_outside places next q (inr (omega arith)))
    ]

    -- `next` may pass numbers whose places are empty
    pub held_later : held_in places later ≡ held_in places next
    held_later = same_map nat_cmp_total nat_cmp-IsAntisymmetric _ _ (λ q. elim (cases_lt q later) [
      | inl below ↦ held_outside places later q (inl below) ∙ sym (passed q below)
      | inr from ↦ ahead q from
    ])
