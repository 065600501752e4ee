-- Cells that move, one after another, to the end of another list: in order, or the last first.
use Rattle.std.proofs.Common.{◌≡◌, ◌+◌, ◌-◌, ◌<◌, ℕ, zero, suc, List, [], ◌∷◌, ◌++◌, length, take, drop, reverse, set, get_or, replicate, sym, refl, ap, ◌∙◌}
use Rattle.std.proofs.Common.{Option, None, arith, append_assoc}
use Rattle.std.proofs.Math.Seq.{set-append_seam}
use Rattle.std.proofs.lemmas.List.{get_or-reverse, length-append, length-drop, length-take, take_more}

module _ {T : Type 0} where
  at_seam : (i : ℕ) (all : List (Option T)) (d : Option T) → i < length all → get_or (replicate i None ++ drop i all) i d ≡ get_or all i d
  at_seam zero all d lt = refl
  at_seam (suc i) [] d lt = absurd (omega arith)
  at_seam (suc i) (x ∷ xs) d lt = at_seam i xs d (omega arith)

  blank_next : (i : ℕ) (all : List (Option T)) → i < length all → set (replicate i None ++ drop i all) i None ≡ replicate (suc i) None ++ drop (suc i) all
  blank_next zero [] lt = absurd (omega arith)
  blank_next zero (x ∷ xs) lt = refl
  blank_next (suc i) [] lt = absurd (omega arith)
  blank_next (suc i) (x ∷ xs) lt = ap (λ (l : List (Option T)). None ∷ l) (blank_next i xs (omega arith))

  -- one more cell was taken out
  pub left_one : (all other now : List (Option T)) (i : ℕ) → i < length all → other ≡ replicate i None ++ drop i all → now ≡ set other i None
      → now ≡ replicate (i + 1) None ++ drop (i + 1) all
  left_one all other now i lt is changed =
      changed ∙ (ap (λ l. set l i None) is ∙ (blank_next i all lt
      ∙ ap (λ n. replicate n None ++ drop n all) (let e : suc i ≡ i + 1 = omega arith in e)))

  pub first_at : (all other : List (Option T)) (i : ℕ) (cell : Option T) → i < length all → other ≡ replicate i None ++ drop i all
      → cell ≡ get_or other i cell → cell ≡ get_or all i cell
  first_at all other i cell lt rest told = told ∙ (ap (λ l. get_or l i cell) rest ∙ at_seam i all cell lt)

  -- and is after those before it
  pub moved_one : (had all to now : List (Option T)) (i at : ℕ) (cell : Option T) → i < length all
      → to ≡ had ++ (take i all ++ replicate (length all - i) None)
      → cell ≡ get_or all i cell → at ≡ length had + i → now ≡ set to at cell
      → now ≡ had ++ (take (i + 1) all ++ replicate (length all - (i + 1)) None)
  moved_one had all to now i at cell lt is cell_is place changed =
      let others : List (Option T) = replicate (length all - (i + 1)) None in
      let v = had ++ take i all in
      let long : length v ≡ length had + i = omega (arith, length-append had (take i all), length-take i all) in
      let blank : ◌≡◌ {A = List (Option T)} (replicate (length all - i) None) (None ∷ others) =
      (λ k. replicate (let z : length all - i ≡ suc (length all - (i + 1)) = omega arith in z k) None) in
      let to_is : to ≡ v ++ None ∷ others = is ∙ (ap (λ l. had ++ (take i all ++ l)) blank ∙ sym (append_assoc had (take i all) (None ∷ others))) in
      let more : take (i + 1) all ≡ take i all ++ cell ∷ [] = take_more all i cell lt ∙ ap (λ x. take i all ++ x ∷ []) (sym cell_is) in
      changed
      ∙ ((λ k. set (to_is k) ((place ∙ sym long) k) cell)
      ∙ (set-append_seam v None others cell
      ∙ (append_assoc had (take i all) (cell ∷ others)
      ∙ ap (λ l. had ++ l) (sym (append_assoc (take i all) (cell ∷ []) others) ∙ ap (λ l. l ++ others) (sym more)))))

  -- the last first
  at_drop : (k : ℕ) (all : List (Option T)) (j : ℕ) (d : Option T) → get_or (drop k all) j d ≡ get_or all (k + j) d
  at_drop zero all j d = ap (λ n. get_or all n d) (let e : j ≡ 0 + j = omega arith in e)
  at_drop (suc k) [] j d = refl
  at_drop (suc k) (x ∷ xs) j d = at_drop k xs j d ∙ ap (λ n. get_or (x ∷ xs) n d) (let e : suc (k + j) ≡ suc k + j = omega arith in e)

  at_front : (m : ℕ) (all more : List (Option T)) (j : ℕ) (d : Option T) → j < m → j < length all → get_or (take m all ++ more) j d ≡ get_or all j d
  at_front zero all more j d low lt = absurd (omega arith)
  at_front (suc m) [] more j d low lt = absurd (omega arith)
  at_front (suc m) (x ∷ xs) more zero d low lt = refl
  at_front (suc m) (x ∷ xs) more (suc j) d low lt = at_front m xs more j d (omega arith) (omega arith)

  pub last_at : (all other : List (Option T)) (k i at : ℕ) (cell : Option T) → i < length all - k → other ≡ take (length all - i) all ++ replicate i None
      → at ≡ length all - 1 - i → cell ≡ get_or other at cell → cell ≡ get_or (reverse (drop k all)) i cell
  last_at all other k i at cell lt rest place told =
      let behind : length (drop k all) ≡ length all - k = length-drop k all in
      let turned : get_or (reverse (drop k all)) i cell ≡ get_or (drop k all) (length (drop k all) - 1 - i) cell =
      get_or-reverse (drop k all) i cell (omega (arith, behind)) in
      let found : get_or (drop k all) (length (drop k all) - 1 - i) cell ≡ get_or all at cell =
      at_drop k all (length (drop k all) - 1 - i) cell
      ∙ ap (λ n. get_or all n cell) (let e : k + (length (drop k all) - 1 - i) ≡ at = omega (arith, behind, place) in e) in
      told ∙ (ap (λ l. get_or l at cell) rest ∙ (at_front (length all - i) all (replicate i None) at cell (omega (arith, place)) (omega (arith, place))
      ∙ sym (turned ∙ found)))

  pub left_last : (all other now : List (Option T)) (i at : ℕ) → i < length all → other ≡ take (length all - i) all ++ replicate i None
      → at ≡ length all - 1 - i → now ≡ set other at None
      → now ≡ take (length all - (i + 1)) all ++ replicate (i + 1) None
  left_last all other now i at lt rest place changed =
      let m : ℕ = length all - (i + 1) in
      let v = take m all in
      let x : Option T = get_or all m None in
      let others : List (Option T) = replicate i None in
      let long : length v ≡ m = omega (arith, length-take m all) in
      let one_more : take (length all - i) all ≡ v ++ x ∷ [] =
      (λ k. take (let z : length all - i ≡ m + 1 = omega arith in z k) all) ∙ take_more all m None (omega arith) in
      let is : other ≡ v ++ x ∷ others = rest ∙ (ap (λ l. l ++ others) one_more ∙ append_assoc v (x ∷ []) others) in
      changed
      ∙ ((λ k. set (is k) ((let z : at ≡ length v = omega (arith, long, place) in z) k) None)
      ∙ (set-append_seam v x others None ∙ (λ k. v ++ replicate ((let z : suc i ≡ i + 1 = omega arith in z) k) None)))
