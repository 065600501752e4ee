-- Gifts, one after another, and the table of owners
use Rattle.std.proofs.Common.{◌≡◌, ◌≢◌, ℕ, ◌+◌, ◌<◌, ◌≤◌, max, List, [], ◌∷◌, ◌++◌, map, length, length-append, take, drop, get_or, set, Option, Some, None}
use Rattle.std.proofs.Common.{◌==◌, true, false, inl, inr, refl, sym, ap, ◌∙◌, subst, arith}
use Rattle.std.specs.Prelude.{is_some}
use Rattle.std.specs.List.{range_with_len}
use Rattle.std.specs.Option.{option_to_list, unwrap_or}
use Rattle.std.proofs.lemmas.List.{take_more, append-nil, take-append-drop, get_or-set_other, get_or-set_same, length-set, get_or-map, length-map, ext_get_or}
use Rattle.std.proofs.lemmas.List.FromFn.{length-range_with_len, get_or-range_with_len}
use Rattle.std.proofs.lemmas.Grind.{flat_map-append}
use Rattle.std.proofs.lemmas.Bool.Decides.{nat_tests}
use Rattle.ringcore_laws.proofs.Lists.{greatest_ge, greatest-append}
use Rattle.geom.proofs.Lists.{same_or_not}
use Rattle.steps_file.specs.Plans.{Gift, Named, IsLawful, owner_in, owners, buffer_count, gifts_of, AreGivenOnce, IsTable}

-- the greatest buffer, with one more gift
pub count_more : (gifts : List Gift) (k : ℕ) (d : Gift) → k < length gifts
    → buffer_count (take (k + 1) gifts) ≡ max (buffer_count (take k gifts)) ((get_or gifts k d).0 + 1)
count_more gifts k d there =
    let g = get_or gifts k d in
    let f = λ (gift : Gift). gift.0 + 1 in
    ap buffer_count (take_more gifts k d there)
    ∙ greatest-append f (take k gifts) (g ∷ [])
    ∙ ap (max (buffer_count (take k gifts))) (let e : max (g.0 + 1) 0 ≡ g.0 + 1 = omega arith in e)

pub within_count : (gifts : List Gift) (k : ℕ) (d : Gift) → k < length gifts → (get_or gifts k d).0 + 1 ≤ buffer_count gifts
within_count gifts k d there = greatest_ge (λ (gift : Gift). gift.0 + 1) gifts k d there

owners_more : (b : ℕ) (gifts : List Gift) (k : ℕ) (d : Gift) → k < length gifts
    → owners b (take (k + 1) gifts) ≡ owners b (take k gifts) ++ owner_in b (get_or gifts k d)
owners_more b gifts k d there =
    let g = get_or gifts k d in
    ap (owners b) (take_more gifts k d there)
    ∙ flat_map-append (owner_in b) (take k gifts) (g ∷ [])
    ∙ ap (λ xs. owners b (take k gifts) ++ xs) (append-nil (owner_in b g))

owner_same : (b : ℕ) (g : Gift) → g.0 ≡ b → owner_in b g ≡ g.1 ∷ []
owner_same b g same = let e : (g.0 == b) ≡ true = grind (arith, nat_tests) in search e

owner_other : (b : ℕ) (g : Gift) → g.0 ≢ b → owner_in b g ≡ []
owner_other b g other = let e : (g.0 == b) ≡ false = grind (arith, nat_tests) in search e

-- no gift yet
pub table_none : (count : ℕ) (table : List (Option ℕ)) (gifts : List Gift) → length table ≡ count
    → ((b : ℕ) → b < count → get_or table b None ≡ None) → IsTable count table (take 0 gifts)
table_none count table gifts sized none = record { sized = sized; each = λ b lt. ap option_to_list (sym (none b lt)) }

-- one more gift, of a buffer that had no owner
pub table_more : (count : ℕ) (table after : List (Option ℕ)) (gifts : List Gift) (k : ℕ) (d : Gift) → k < length gifts
    → IsTable count table (take k gifts) → (get_or gifts k d).0 < count → get_or table (get_or gifts k d).0 None ≡ None
    → after ≡ set table (get_or gifts k d).0 (Some (get_or gifts k d).1) → IsTable count after (take (k + 1) gifts)
table_more count table after gifts k d there before fits free changed =
    let g = get_or gifts k d in
    let long : g.0 < length table = omega (arith, before.sized) in
    record {
      sized = ap length changed ∙ length-set table g.0 (Some g.1) ∙ before.sized;
      each = λ b lt.
          owners_more b gifts k d there
          ∙ (elim (same_or_not g.0 b) [
            | inl same ↦
                let was : owners b (take k gifts) ≡ [] = before.each b lt ∙ ap option_to_list (ap (λ i. get_or table i None) (sym same) ∙ free) in
                let now : get_or after b None ≡ Some g.1 =
                ap (λ t. get_or t b None) changed ∙ ap (λ i. get_or (set table g.0 (Some g.1)) i None) (sym same)
                ∙ get_or-set_same table g.0 (Some g.1) None long in
                ap (λ xs. xs ++ owner_in b g) was ∙ owner_same b g same ∙ ap option_to_list (sym now)
            | inr other ↦
                let back : b ≢ g.0 = λ e. other (sym e) in
                let now : get_or after b None ≡ get_or table b None =
                ap (λ t. get_or t b None) changed ∙ get_or-set_other table g.0 b (Some g.1) None back in
                ap (λ xs. owners b (take k gifts) ++ xs) (owner_other b g other)
                ∙ append-nil (owners b (take k gifts))
                ∙ before.each b lt
                ∙ ap option_to_list (sym now)
          ]);
    }

some_list : (o : Option ℕ) → is_some o ≡ true → length (option_to_list o) ≡ 1
some_list (Some x) is = refl
some_list None is = absurd (let h : false ≡ true = is in cc)

-- a gift of a buffer that has an owner
pub twice_given : (count : ℕ) (table : List (Option ℕ)) (gifts : List Gift) (k : ℕ) (d : Gift) → k < length gifts
    → IsTable count table (take k gifts) → (get_or gifts k d).0 < count → is_some (get_or table (get_or gifts k d).0 None) ≡ true
    → 1 < length (owners (get_or gifts k d).0 gifts)
twice_given count table gifts k d there before fits owned =
    let g = get_or gifts k d in
    let was : length (owners g.0 (take k gifts)) ≡ 1 = ap length (before.each g.0 fits) ∙ some_list (get_or table g.0 None) owned in
    let now : owners g.0 (take (k + 1) gifts) ≡ owners g.0 (take k gifts) ++ g.1 ∷ [] =
    owners_more g.0 gifts k d there ∙ ap (λ xs. owners g.0 (take k gifts) ++ xs) (owner_same g.0 g refl) in
    let whole : owners g.0 gifts ≡ owners g.0 (take (k + 1) gifts) ++ owners g.0 (drop (k + 1) gifts) =
    ap (owners g.0) (sym (take-append-drop (k + 1) gifts)) ∙ flat_map-append (owner_in g.0) (take (k + 1) gifts) (drop (k + 1) gifts) in
    omega (
      arith,
      ap length whole,
      length-append (owners g.0 (take (k + 1) gifts)) (owners g.0 (drop (k + 1) gifts)),
      ap length now,
      length-append (owners g.0 (take k gifts)) (g.1 ∷ []),
    )

first_owner : (o : Option ℕ) → unwrap_or o 0 ≡ get_or (option_to_list o) 0 0
first_owner (Some x) = refl
first_owner None = refl

-- the owners of the table are those of the gifts
pub gifts_from_table : (table : List (Option ℕ)) (gifts : List Gift) → IsTable (buffer_count gifts) table gifts
    → map (λ o. unwrap_or o 0) table ≡ gifts_of gifts
gifts_from_table table gifts is =
    let n = buffer_count gifts in
    let f = λ (b : ℕ). get_or (owners b gifts) 0 0 in
    let long : length (map (λ o. unwrap_or o 0) table) ≡ n = length-map table (λ o. unwrap_or o 0) ∙ is.sized in
    let long_too : length (gifts_of gifts) ≡ n = length-map (range_with_len 0 n) f ∙ length-range_with_len 0 n in
    ext_get_or 0 (map (λ o. unwrap_or o 0) table) (gifts_of gifts) (long ∙ sym long_too) (λ i lt.
    let small : i < n = omega (arith, long) in
    let within : i < length table = omega (arith, is.sized) in
    let in_range : i < length (range_with_len 0 n) = omega (arith, length-range_with_len 0 n) in
    let at : get_or (range_with_len 0 n) i 0 ≡ i = get_or-range_with_len 0 n i 0 small ∙ (let e : 0 + i ≡ i = omega arith in e) in
    get_or-map (λ o. unwrap_or o 0) table i None 0 within
    ∙ first_owner (get_or table i None)
    ∙ ap (λ (xs : List ℕ). get_or xs 0 0) (sym (is.each i small))
    ∙ ap f (sym at)
    ∙ sym (get_or-map f (range_with_len 0 n) i 0 0 in_range))

pub once_from_table : (count : ℕ) (table : List (Option ℕ)) (gifts : List Gift) → IsTable count table gifts → buffer_count gifts ≡ count
    → ((b : ℕ) → b < length table → is_some (get_or table b None) ≡ true) → AreGivenOnce gifts
once_from_table count table gifts is same all = λ b lt.
    let small : b < count = omega arith in
    let within : b < length table = omega (arith, is.sized) in
    ap length (is.each b small) ∙ some_list (get_or table b None) (all b within)

pub missing_from_table : (count : ℕ) (table : List (Option ℕ)) (gifts : List Gift) (b : ℕ) → IsTable count table gifts → buffer_count gifts ≡ count
    → b < length table → get_or table b None ≡ None → AreGivenOnce gifts → ⊥
missing_from_table count table gifts b is same within none once =
    let small : b < count = omega (arith, is.sized) in
    let lt : b < buffer_count gifts = omega arith in
    let empty : length (owners b gifts) ≡ 0 = ap length (is.each b small) ∙ ap (λ o. length (option_to_list o)) none in
    omega (arith, once b lt)

pub length-gifts_of : (gifts : List Gift) → length (gifts_of gifts) ≡ buffer_count gifts
length-gifts_of gifts =
    length-map (range_with_len 0 (buffer_count gifts)) (λ b. get_or (owners b gifts) 0 0) ∙ length-range_with_len 0 (buffer_count gifts)

-- gifts that no valid plan has
pub unlawful_gifts : (p : Named) (gifts : List Gift) → gifts ≡ p.gifts → (AreGivenOnce gifts → buffer_count gifts ≤ 65536 → ⊥) → IsLawful p → ⊥
unlawful_gifts p gifts same bad lawful =
    bad (subst AreGivenOnce (sym same) lawful.once) (omega (arith, lawful.plan.few_buffers, length-gifts_of p.gifts, ap buffer_count same))
