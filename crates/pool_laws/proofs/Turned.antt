-- A list that is turned, in two parts
use Rattle.std.proofs.Common.{◌≡◌, ◌++◌, ◌-◌, ℕ, List, [], ◌∷◌, take, drop, length, reverse, ap, sym, ◌∙◌, arith}
use Rattle.std.proofs.Math.Seq.{drop-append_seam, take-append_seam}
use Rattle.std.proofs.lemmas.List.{length-append, length-drop, length-reverse, reverse-append, reverse-reverse, take-append-drop}

module _ {T : Type 0} (k : ℕ) (items : List T) where
  both_turned : reverse items ≡ reverse (drop k items) ++ reverse (take k items)
  both_turned = ap reverse (sym (take-append-drop k items)) ∙ reverse-append (take k items) (drop k items)

  long_turned : length items - k ≡ length (reverse (drop k items))
  long_turned = sym (length-reverse (drop k items) ∙ length-drop k items)

  -- what stands last in a turned list, turned again, is the first of it
  pub first_turned : (n : ℕ) → n ≡ length items - k → reverse (drop n (reverse items)) ≡ take k items
  first_turned n is =
      ap reverse ((λ i. drop ((is ∙ long_turned) i) (both_turned i)) ∙ drop-append_seam (reverse (drop k items)) (reverse (take k items)))
      ∙ reverse-reverse (take k items)

  pub rest_turned : (n : ℕ) → n ≡ length items - k → reverse (take n (reverse items)) ≡ drop k items
  rest_turned n is =
      ap reverse ((λ i. take ((is ∙ long_turned) i) (both_turned i)) ∙ take-append_seam (reverse (drop k items)) (reverse (take k items)))
      ∙ reverse-reverse (drop k items)

-- a list whose last item is gone
module _ {T : Type 0} (items rest : List T) (x : T) (is : items ≡ rest ++ x ∷ []) where
  one_less : length items - 1 ≡ length rest
  one_less = omega (arith, ap length is, length-append rest (x ∷ []))

  pub last_kept : rest ≡ take (length items - 1) items
  last_kept = sym ((λ i. take (one_less i) (is i)) ∙ take-append_seam rest (x ∷ []))

  pub last_turned : x ∷ [] ≡ reverse (drop (length items - 1) items)
  last_turned = sym (ap reverse ((λ i. drop (one_less i) (is i)) ∙ drop-append_seam rest (x ∷ [])))

module _ {T : Type 0} where
  -- a list that was poured out of another and back
  pub poured_back : (items others back : List T) → others ≡ reverse items → back ≡ [] ++ reverse others → back ≡ items
  poured_back items others back is poured = poured ∙ (ap reverse is ∙ reverse-reverse items)

  pub poured_behind : (k : ℕ) (items front others all : List T) → others ≡ reverse (drop k items) → all ≡ front ++ reverse others
      → all ≡ front ++ drop k items
  poured_behind k items front others all is poured = poured ∙ ap (λ l. front ++ l) (ap reverse is ∙ reverse-reverse (drop k items))
