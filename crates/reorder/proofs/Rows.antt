-- Which places numbers have.
use Rattle.std.proofs.Common.{◌≡◌, ◌≢◌, ℕ, ◌+◌, ◌-◌, ◌%◌, ◌<◌, ◌≤◌, ◌⊎◌, inl, inr, List, length, set, Option, None, sym, ap, ◌∙◌, mod-lt, mod-eq_of_lt, arith}
use Rattle.std.proofs.Common.{length-set, get_or-set_same, get_or-set_other}
use native.Mathlib.Nat.{mod-eq-sub-mod, mod-add-mod, mod-le, add-mod-mod}
use Rattle.std.proofs.lemmas.Bool.{cases_lt, cases_order}
use Rattle.reorder.specs.Places.{at_number}

-- a step of less than a row wraps at most once
pub wraps_once : (size place : ℕ) → place < size + size → ((place < size) × (place % size ≡ place)) ⊎
    ((size ≤ place) × (place % size ≡ place - size))
wraps_once size place below = elim (cases_lt place size) [
  | inl low ↦ inl (low, mod-eq_of_lt low)
  | inr high ↦ inr (high, mod-eq-sub-mod high ∙ mod-eq_of_lt (omega arith))
]

-- two different numbers less than a row apart have different places
pub apart : (size a b : ℕ) → 0 < size → a < b → b < a + size → a % size ≢ b % size
apart size a b some above near same =
    let low : a % size < size = mod-lt a some in
    let ahead : (a % size + (b - a)) % size ≡ b % size = mod-add-mod a size (b - a)
    ∙ ap (λ n. n % size) (omega arith) in
    elim (wraps_once size (a % size + (b - a)) (omega arith))
    [ inl near ↦ omega (arith, near) | inr far ↦ omega (arith, far) ]

-- two different numbers of one window have different places
pub other_place : (size next a b : ℕ) → 0 < size → next ≤ a → a < next + size → next ≤ b → b < next + size → a ≢ b
    → a % size ≢ b % size
other_place size next a b some a_low a_high b_low b_high other same = elim (cases_order a b) [
  | inl equal ↦ other equal
  | inr (inl below) ↦ apart size a b some below (omega arith) same
  | inr (inr above) ↦ apart size b a some above (omega arith) (sym same)
]

-- the place of a number past the window is that of a number of the window
pub place_before : (size next q : ℕ) → 0 < size → next ≤ q → (n : ℕ) × (next ≤ n) × (n < next + size) × (n ≤ q)
    × (n % size ≡ q % size)
place_before size next q some from = (
  next + (q - next) % size,
  omega arith,
  omega (arith, mod-lt (q - next) some),
  omega (arith, mod-le (q - next) size),
  add-mod-mod next (q - next) size ∙ ap (λ m. m % size) (omega arith),
)

module _ {T : Type 0} (places : List (Option T)) (n : ℕ) (o : Option T) where
  -- a write at the place of n is what is at n
  pub at_written : 0 < length places → at_number (set places (n % length places) o) n ≡ o
  at_written some = rw length-set (get_or-set_same places (n % length places) o None (mod-lt n some))

  -- and nothing else
  pub at_other : (q : ℕ) → q % length places ≢ n % length places
      → at_number (set places (n % length places) o) q ≡ at_number places q
  at_other q other = rw length-set (get_or-set_other places (n % length places) (q % length places) o None other)
