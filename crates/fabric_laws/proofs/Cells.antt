-- Lists read by index: joined, cut, and the values that the slots of a span hold
use Rattle.std.proofs.Common.{◌≡◌, ℕ, zero, suc, ◌+◌, ◌-◌, ◌<◌, ◌≤◌, List, [], ◌∷◌, ◌++◌, length, map, take, drop, sym, refl, ap, ◌∙◌, arith, replicate}
use Rattle.std.specs.Prelude.{slice_get, Option, Some, None}
use mathlib.Core.Option.{some, some-injective, some-ne-none}
use lib.ListN.{get_elem?}
use Rattle.fabric_laws.specs.Kinds.{held, run}

module _ {X : Type 0} where
  pub get_left : (xs ys : List X) (p : ℕ) → p < length xs → slice_get (xs ++ ys) p ≡ slice_get xs p
  get_left [] ys p lt = absurd (omega arith)
  get_left (x ∷ xs) ys zero lt = refl
  get_left (x ∷ xs) ys (suc p) lt = get_left xs ys p (omega arith)

  pub get_right : (xs ys : List X) (p : ℕ) → length xs ≤ p → slice_get (xs ++ ys) p ≡ slice_get ys (p - length xs)
  get_right [] ys p le = ap (slice_get ys) (let e : p ≡ p - 0 = omega arith in e)
  get_right (x ∷ xs) ys zero le = absurd (omega arith)
  get_right (x ∷ xs) ys (suc p) le = get_right xs ys p (omega arith) ∙ ap (slice_get ys) (let e : p - length xs ≡ suc p - suc (length xs) = omega arith in e)

  -- an element of the rest after n, or of the first m, is one of the list
  pub get_dropped : (n : ℕ) (xs : List X) (i : ℕ) → slice_get (drop n xs) i ≡ slice_get xs (n + i)
  get_dropped zero xs i = ap (slice_get xs) (let e : i ≡ 0 + i = omega arith in e)
  get_dropped (suc n) [] i = refl
  get_dropped (suc n) (x ∷ xs) i = get_dropped n xs i ∙ ap (slice_get (x ∷ xs)) (let e : suc (n + i) ≡ suc n + i = omega arith in e)

  pub get_taken : (m : ℕ) (xs : List X) (i : ℕ) → i < m → slice_get (take m xs) i ≡ slice_get xs i
  get_taken zero xs i lt = absurd (omega arith)
  get_taken (suc m) [] i lt = refl
  get_taken (suc m) (x ∷ xs) zero lt = refl
  get_taken (suc m) (x ∷ xs) (suc i) lt = get_taken m xs i (omega arith)

  -- reading one of n equal elements
  pub one_of_many : (n : ℕ) (y : X) (k : ℕ) → k < n → get_elem? (replicate n y) k ≡ some y
  one_of_many zero y k lt = absurd (omega arith)
  one_of_many (suc n) y zero lt = refl
  one_of_many (suc n) y (suc k) lt = one_of_many n y k (omega arith)

  pub many_alike : (n : ℕ) (y : X) (k : ℕ) (z : X) → get_elem? (replicate n y) k ≡ some z → z ≡ y
  many_alike zero y k z e = absurd (some-ne-none z (sym e))
  many_alike (suc n) y zero z e = sym (some-injective y z e)
  many_alike (suc n) y (suc k) z e = many_alike n y k z e

  pub behind_many : (n : ℕ) (y : X) (zs : List X) (k : ℕ) → get_elem? (replicate n y ++ zs) (n + k) ≡ get_elem? zs k
  behind_many zero y zs k = ap (get_elem? zs) (let e : 0 + k ≡ k = omega arith in e)
  behind_many (suc n) y zs k = ap (get_elem? (replicate (suc n) y ++ zs)) (let e : suc n + k ≡ suc (n + k) = omega arith in e) ∙ behind_many n y zs k

  pub before_rest : (n : ℕ) (y : X) (zs : List X) (k : ℕ) → k < n → get_elem? (replicate n y ++ zs) k ≡ some y
  before_rest zero y zs k lt = absurd (omega arith)
  before_rest (suc n) y zs zero lt = refl
  before_rest (suc n) y zs (suc k) lt = before_rest n y zs k (omega arith)

  pub length-many : (n : ℕ) (y : X) → length (replicate n y) ≡ n
  length-many zero y = refl
  length-many (suc n) y = ap suc (length-many n y)

module _ {T : Type 0} where
  -- items in the first cells, and others after them
  pub item_in_front : (items : List T) (zs : List (Option T)) (k : ℕ) (x : T) → slice_get items k ≡ Some x → get_elem? (map Some items ++ zs) k ≡ some (Some x)
  item_in_front [] zs k x h = absurd (let u : None ≡ Some x = h in cc)
  item_in_front (y ∷ items) zs zero x h = let same : y ≡ x = (let u : Some y ≡ Some x = h in cc) in ap (λ (v : T). some (Some v)) same
  item_in_front (y ∷ items) zs (suc k) x h = item_in_front items zs k x h

  pub item_of : (items : List T) (k : ℕ) (x : T) → slice_get items k ≡ Some x → get_elem? (map Some items) k ≡ some (Some x)
  item_of [] k x h = absurd (let u : None ≡ Some x = h in cc)
  item_of (y ∷ items) zero x h = let same : y ≡ x = (let u : Some y ≡ Some x = h in cc) in ap (λ (v : T). some (Some v)) same
  item_of (y ∷ items) (suc k) x h = item_of items k x h

  -- a cell of items holds one
  pub cell_of : (items : List T) (k : ℕ) (z : Option T) → get_elem? (map Some items) k ≡ some z → (x : T) × (z ≡ Some x) × (slice_get items k ≡ Some x)
  cell_of [] k z e = absurd (some-ne-none z (sym e))
  cell_of (x ∷ items) zero z e = (x, sym (some-injective (Some x) z e), refl)
  cell_of (x ∷ items) (suc k) z e = cell_of items k z e

  pub behind_items : (items : List T) (zs : List (Option T)) (k : ℕ) → get_elem? (map Some items ++ zs) (length items + k) ≡ get_elem? zs k
  behind_items [] zs k = ap (get_elem? zs) (let e : 0 + k ≡ k = omega arith in e)
  behind_items (x ∷ items) zs k =
      ap (get_elem? (map Some (x ∷ items) ++ zs)) (let e : suc (length items) + k ≡ suc (length items + k) = omega arith in e) ∙ behind_items items zs k

  pub length-cells : (items : List T) → length (map Some items) ≡ length items
  length-cells [] = refl
  length-cells (x ∷ items) = ap suc (length-cells items)

  -- a hand whose slots hold these items, and nothing else, holds these items
  pub held_none : (slot : ℕ → ℕ) (p n : ℕ) → held (run slot p (replicate n (let z : Option T = None in z))) ≡ []
  held_none slot p zero = refl
  held_none slot p (suc n) = held_none slot (suc p) n

  pub held_items : (slot : ℕ → ℕ) (p : ℕ) (items : List T) (n : ℕ) → held (run slot p (map Some items ++ replicate n None)) ≡ items
  held_items slot p [] n = held_none slot p n
  held_items slot p (x ∷ items) n = ap (λ l. x ∷ l) (held_items slot (suc p) items n)
