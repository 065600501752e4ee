-- Items that carry one buffer each, in parts of a list
use Rattle.std.proofs.Common.{◌≡◌, ℕ, ◌++◌, List, [], ◌∷◌, length, take, drop, reverse, refl, ap, arith, true, false}
use Rattle.std.specs.Prelude.{Bool, ◌&&◌, ◌==◌, Some, slice_get}
use Rattle.std.specs.List.{list_all, sum_by}
use Rattle.std.proofs.lemmas.List.Sums.{get_or-le-sum_by, sum_by-append, sum_by-cons}
use Rattle.std.proofs.lemmas.Option.{get_or_from_slice_get, slice_get_within}
use Rattle.ringcore_laws.specs.FreeRings.{AreSingle}
use Rattle.ringapi.proofs.Counts.{sum_parts, sum_turned}

abbrev pub one_unless : Bool → ℕ
one_unless true = 0
one_unless false = 1

both_true : (t u : Bool) → t ≡ true → u ≡ true → (t && u) ≡ true
both_true true u e f = f
both_true false u e f = absurd (let z : false ≡ true = e in cc)

pub first_of : (t u : Bool) → (t && u) ≡ true → t ≡ true
first_of true u e = refl
first_of false u e = absurd (let z : false ≡ true = e in cc)

pub rest_of : (t u : Bool) → (t && u) ≡ true → u ≡ true
rest_of true u e = e
rest_of false u e = absurd (let z : false ≡ true = e in cc)

none_is : (t : Bool) → one_unless t ≡ 0 → t ≡ true
none_is true e = refl
none_is false e = absurd (omega (arith, e))

module _ {T : Type 0} (tags : T → List ℕ) where
  -- an item that doesn't carry one
  abbrev pub odd : T → ℕ
  odd x = one_unless (length (tags x) == 1)

  pub none_odd : (items : List T) → AreSingle tags items → sum_by odd items ≡ 0
  none_odd [] single = refl
  none_odd (x ∷ items) single =
      omega (
        arith,
        sum_by-cons odd x items,
        ap one_unless (first_of (length (tags x) == 1) (list_all (λ y. length (tags y) == 1) items) single),
        none_odd items (rest_of (length (tags x) == 1) (list_all (λ y. length (tags y) == 1) items) single),
      )

  pub from_none : (items : List T) → sum_by odd items ≡ 0 → AreSingle tags items
  from_none [] none = refl
  from_none (x ∷ items) none =
      let both = sum_by-cons odd x items in
      let one : odd x ≡ 0 = omega (arith, none, both) in
      both_true (length (tags x) == 1) (list_all (λ y. length (tags y) == 1) items) (none_is (length (tags x) == 1) one)
      (from_none items (omega (arith, none, both)))

  -- of items that carry one buffer each, each does
  pub single_at : (items : List T) (i : ℕ) (x : T) → AreSingle tags items → slice_get items i ≡ Some x → (length (tags x) == 1) ≡ true
  single_at items i x single at =
      none_is (length (tags x) == 1)
      (omega (
        arith,
        get_or-le-sum_by odd items i x (slice_get_within items i x at),
        ap odd (get_or_from_slice_get items i x x at),
        none_odd items single,
      ))

  pub single_both : (items more : List T) → AreSingle tags items → AreSingle tags more → AreSingle tags (items ++ more)
  single_both items more one two =
      from_none (items ++ more) (omega (arith, sum_by-append odd items more, none_odd items one, none_odd more two))

  pub single_later : (items more : List T) → AreSingle tags (items ++ more) → AreSingle tags more
  single_later items more all = from_none more (omega (arith, sum_by-append odd items more, none_odd (items ++ more) all))

  pub single_take : (k : ℕ) (items : List T) → AreSingle tags items → AreSingle tags (take k items)
  single_take k items all = from_none (take k items) (omega (arith, sum_parts odd k items, none_odd items all))

  pub single_drop : (k : ℕ) (items : List T) → AreSingle tags items → AreSingle tags (drop k items)
  single_drop k items all = from_none (drop k items) (omega (arith, sum_parts odd k items, none_odd items all))

  -- what is poured out of a list, and what stays
  pub single_poured : (k : ℕ) (items : List T) → AreSingle tags items → AreSingle tags (reverse (drop k items) ++ take k items)
  single_poured k items all =
      from_none (reverse (drop k items) ++ take k items)
      (omega (
        arith,
        sum_by-append odd (reverse (drop k items)) (take k items),
        sum_turned odd (drop k items),
        sum_parts odd k items,
        none_odd items all,
      ))
