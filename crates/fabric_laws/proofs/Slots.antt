-- A hand takes the slots of a run of positions, and gives them back
use Rattle.std.proofs.Common.{◌≡◌, ℕ, zero, suc, ◌+◌, ◌<◌, ◌≢◌, List, [], ◌∷◌, ◌++◌, length, set, sym, refl, ap, ◌∙◌, subst, arith, length-set}
use mathlib.Core.Option.{some, none, some-injective, some-ne-none}
use mathlib.Core.Option as maybe
use lib.ListN.{get_elem?}
use Rattle.atomic_table.specs.Table.{Act, keeps, takes, gives, chain, carried_after, homes_after, Valid}
use Rattle.atomic_table.proofs.Lists.{set_here, set_else}
use Rattle.fabric_laws.specs.Kinds.{run}

pub some_below : {X : Type 0} (l : List X) (i : ℕ) (a : X) → get_elem? l i ≡ some a → i < length l
some_below [] i a e = absurd (some-ne-none a (sym e))
some_below (x ∷ xs) zero a e = omega arith
some_below (x ∷ xs) (suc i) a e = let k = some_below xs i a e in omega arith

module _ (slot : ℕ → ℕ) where
  -- no two of these positions have the same slot
  abbrev pub AreApart : ℕ → ℕ → Type 0
  AreApart p n = (j k : ℕ) → j < n → k < n → slot (p + j) ≡ slot (p + k) → j ≡ k

  fewer : (p n : ℕ) → AreApart p (suc n) → AreApart (suc p) n
  fewer p n apart j k lj lk e =
      let same : suc j ≡ suc k = apart (suc j) (suc k) (omega arith) (omega arith)
      (ap slot (let z : p + suc j ≡ suc p + j = omega arith in z) ∙ (e ∙ ap slot (let z : suc p + k ≡ p + suc k = omega arith in z))) in
      omega arith

  first_off : (p n : ℕ) → AreApart p (suc n) → (k : ℕ) → k < n → slot p ≢ slot (suc p + k)
  first_off p n apart k lt e =
      let same : 0 ≡ suc k = apart 0 (suc k) (omega arith) (omega arith)
      (ap slot (let z : p + 0 ≡ p = omega arith in z) ∙ (e ∙ ap slot (let z : suc p + k ≡ p + suc k = omega arith in z))) in
      omega arith

module _ {S : Type 0} where
  -- takes each, the last first
  abbrev pub takes_all : List (ℕ × S) → Act S
  takes_all [] = keeps
  takes_all (x ∷ xs) = chain (takes_all xs) (takes x.0 x.1)

  abbrev pub emptied : List (maybe.Option S) → List (ℕ × S) → List (maybe.Option S)
  emptied hs [] = hs
  emptied hs (x ∷ xs) = set (emptied hs xs) x.0 none

  pub takes_carried : (c xs : List (ℕ × S)) → carried_after c (takes_all xs) ≡ xs ++ c
  takes_carried c [] = refl
  takes_carried c (x ∷ xs) = ap (λ (l : List (ℕ × S)). x ∷ l) (takes_carried c xs)

  pub takes_homes : (hs : List (maybe.Option S)) (c xs : List (ℕ × S)) → homes_after hs c (takes_all xs) ≡ emptied hs xs
  takes_homes hs c [] = refl
  takes_homes hs c (x ∷ xs) = ap (λ (l : List (maybe.Option S)). set l x.0 none) (takes_homes hs c xs)

  pub length-emptied : (hs : List (maybe.Option S)) (xs : List (ℕ × S)) → length (emptied hs xs) ≡ length hs
  length-emptied hs [] = refl
  length-emptied hs (x ∷ xs) = length-set (emptied hs xs) x.0 none ∙ length-emptied hs xs

  -- gives back n slots, the one taken last first
  abbrev pub gives_all : ℕ → Act S
  gives_all zero = keeps
  gives_all (suc n) = chain gives (gives_all n)

  pub gives_valid : (n : ℕ) (hs : List (maybe.Option S)) (c : List (ℕ × S)) → Valid hs c (gives_all n)
  gives_valid zero hs c = tt
  gives_valid (suc n) hs [] = (tt, gives_valid n hs [])
  gives_valid (suc n) hs (x ∷ xs) = (tt, gives_valid n (set hs x.0 (some x.1)) xs)

  module _ (slot : ℕ → ℕ) where
    -- a slot of none of these positions is unchanged
    pub emptied_else : (hs : List (maybe.Option S)) (p : ℕ) (ys : List S) (i : ℕ) → ((k : ℕ) → k < length ys → i ≢ slot (p + k))
        → get_elem? (emptied hs (run slot p ys)) i ≡ get_elem? hs i
    emptied_else hs p [] i off = refl
    emptied_else hs p (y ∷ ys) i off =
        set_else (emptied hs (run slot (suc p) ys)) (slot p) i none (λ e. off 0 (omega arith) (e ∙ ap slot (let z : p ≡ p + 0 = omega arith in z)))
        ∙ emptied_else hs (suc p) ys i (λ k lt e. off (suc k) (omega arith) (e ∙ ap slot (let z : suc p + k ≡ p + suc k = omega arith in z)))

    pub takes_valid : (hs : List (maybe.Option S)) (c : List (ℕ × S)) (p : ℕ) (ys : List S) → AreApart slot p (length ys)
        → ((k : ℕ) (y : S) → get_elem? ys k ≡ some y → get_elem? hs (slot (p + k)) ≡ some (some y)) → Valid hs c (takes_all (run slot p ys))
    takes_valid hs c p [] apart here = tt
    takes_valid hs c p (y ∷ ys) apart here = (
      takes_valid hs c (suc p) ys (fewer slot p (length ys) apart)
          (λ k z e. subst (λ (n : ℕ). get_elem? hs (slot n) ≡ some (some z)) (let q : p + suc k ≡ suc p + k = omega arith in q) (here (suc k) z e)),
      ap (λ (l : List (maybe.Option S)). get_elem? l (slot p)) (takes_homes hs c (run slot (suc p) ys))
          ∙ (emptied_else hs (suc p) ys (slot p) (first_off slot p (length ys) apart)
          ∙ subst (λ (n : ℕ). get_elem? hs (slot n) ≡ some (some y)) (let q : p + 0 ≡ p = omega arith in q) (here 0 y refl)),
    )

    abbrev pub filled : List (maybe.Option S) → ℕ → List S → List (maybe.Option S)
    filled hs p [] = hs
    filled hs p (y ∷ ys) = filled (set hs (slot p) (some y)) (suc p) ys

    pub gives_carried : (p : ℕ) (ys : List S) (c : List (ℕ × S)) → carried_after (run slot p ys ++ c) (gives_all (length ys)) ≡ c
    gives_carried p [] c = refl
    gives_carried p (y ∷ ys) c = gives_carried (suc p) ys c

    pub gives_homes : (hs : List (maybe.Option S)) (p : ℕ) (ys : List S) (c : List (ℕ × S))
        → homes_after hs (run slot p ys ++ c) (gives_all (length ys)) ≡ filled hs p ys
    gives_homes hs p [] c = refl
    gives_homes hs p (y ∷ ys) c = gives_homes (set hs (slot p) (some y)) (suc p) ys c

    pub length-filled : (hs : List (maybe.Option S)) (p : ℕ) (ys : List S) → length (filled hs p ys) ≡ length hs
    length-filled hs p [] = refl
    length-filled hs p (y ∷ ys) = length-filled (set hs (slot p) (some y)) (suc p) ys ∙ length-set hs (slot p) (some y)

    pub filled_else : (hs : List (maybe.Option S)) (p : ℕ) (ys : List S) (i : ℕ) → ((k : ℕ) → k < length ys → i ≢ slot (p + k))
        → get_elem? (filled hs p ys) i ≡ get_elem? hs i
    filled_else hs p [] i off = refl
    filled_else hs p (y ∷ ys) i off =
        filled_else (set hs (slot p) (some y)) (suc p) ys i (λ k lt e. off (suc k) (omega arith)
        (e ∙ ap slot (let z : suc p + k ≡ p + suc k = omega arith in z)))
        ∙ set_else hs (slot p) i (some y) (λ e. off 0 (omega arith) (e ∙ ap slot (let z : p ≡ p + 0 = omega arith in z)))

    pub filled_here : (hs : List (maybe.Option S)) (p : ℕ) (ys : List S) (k : ℕ) (y : S) → AreApart slot p (length ys)
        → ((k : ℕ) → k < length ys → slot (p + k) < length hs)
        → get_elem? ys k ≡ some y → get_elem? (filled hs p ys) (slot (p + k)) ≡ some (some y)
    filled_here hs p [] k y apart inside e = absurd (some-ne-none y (sym e))
    filled_here hs p (x ∷ xs) zero y apart inside e =
        let q : p + 0 ≡ p = omega arith in
        subst (λ (n : ℕ). get_elem? (filled (set hs (slot p) (some x)) (suc p) xs) (slot n) ≡ some (some y)) (sym q)
        (filled_else (set hs (slot p) (some x)) (suc p) xs (slot p) (first_off slot p (length xs) apart)
        ∙ (set_here hs (slot p) (some x) (subst (λ (n : ℕ). slot n < length hs) q (inside 0 (omega arith))) ∙ ap some e))
    filled_here hs p (x ∷ xs) (suc k) y apart inside e =
        let q : p + suc k ≡ suc p + k = omega arith in
        let same = length-set hs (slot p) (some x) in
        subst (λ (n : ℕ). get_elem? (filled (set hs (slot p) (some x)) (suc p) xs) (slot n) ≡ some (some y)) (sym q)
        (filled_here (set hs (slot p) (some x)) (suc p) xs k y (fewer slot p (length xs) apart)
        (λ j lt. let z : p + suc j ≡ suc p + j = omega arith in omega (arith, ap slot z, inside (suc j) (omega arith))) e)
