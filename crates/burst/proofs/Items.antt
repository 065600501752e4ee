-- Lists of options whose entries all hold something.
use Rattle.std.proofs.Common.{◌≡◌, ◌<◌, ℕ, zero, suc, take, drop, get_or, List, [], ◌∷◌, ◌++◌, map, length, sym, refl, ap, ◌∙◌, Option, Some, None, IsSome}
use Rattle.std.proofs.Common.{IfNone, arith, ◌↔◌, rules}
use Rattle.std.specs.Prelude.{reverse, slice_get}
use Rattle.std.specs.Option.{option_to_list}
use Rattle.std.proofs.lemmas.List.{length-map, map-append, length-append, reverse-append, reverse-reverse}
use Rattle.burst.specs.Items.{somes}

module _ {T : Type 0} where
  somes_of : (xs : List T) → somes (map Some xs) ≡ xs
  somes_of [] = refl
  somes_of (x ∷ xs) = ap (λ (l : List T). x ∷ l) (somes_of xs)

  -- cells that hold the items xs, each one there
  pub record Holds (cells : List (Option T)) (xs : List T) : Type 0 where
    pub cells_are : cells ≡ map Some xs

  pub full : (cells : List (Option T)) (xs : List T) → Holds cells xs → cells ≡ map Some (somes cells)
  full cells xs h = h.cells_are ∙ ap (map Some) (sym (somes_of xs) ∙ ap somes (sym h.cells_are))

  pub seen : (cells : List (Option T)) (xs : List T) → Holds cells xs → somes cells ≡ xs
  seen cells xs h = ap somes h.cells_are ∙ somes_of xs

  pub held : (cells : List (Option T)) (xs : List T) → cells ≡ map Some (somes cells) → somes cells ≡ xs → Holds cells xs
  held cells xs e f = record { cells_are = e ∙ ap (map Some) f }

  pub length_held : (cells : List (Option T)) (xs : List T) → Holds cells xs → length cells ≡ length xs
  length_held cells xs h = ap length h.cells_are ∙ length-map xs Some

  pub pushed : (cells : List (Option T)) (xs : List T) (x : T) (later : List (Option T)) → Holds cells xs → later ≡ cells ++ Some x ∷ []
      → Holds later (xs ++ x ∷ [])
  pushed cells xs x later h e = record { cells_are = e ∙ ap (λ (l : List (Option T)). l ++ Some x ∷ []) h.cells_are ∙ sym (map-append Some xs (x ∷ [])) }

  pub appended : (cells more : List (Option T)) (xs ys : List T) (later : List (Option T)) → Holds cells xs → Holds more ys → later ≡ cells ++ more
      → Holds later (xs ++ ys)
  appended cells more xs ys later h i e = record { cells_are = e ∙ ((λ k. h.cells_are k ++ i.cells_are k) ∙ sym (map-append Some xs ys)) }

  map_reverse : (xs : List T) → ◌≡◌ {A = List (Option T)} (reverse (map Some xs)) (map Some (reverse xs))
  map_reverse [] = refl
  map_reverse (x ∷ xs) =
      reverse-append (Some x ∷ []) (map Some xs) ∙ ap (λ (l : List (Option T)). l ++ Some x ∷ []) (map_reverse xs) ∙ sym (map-append Some (reverse xs) (x ∷ []))
      ∙ ap (map Some) (sym (reverse-append (x ∷ []) xs))

  pub turned : (cells : List (Option T)) (xs : List T) (later : List (Option T)) → Holds cells xs → later ≡ reverse cells → Holds later (reverse xs)
  turned cells xs later h e = record { cells_are = e ∙ ap reverse h.cells_are ∙ map_reverse xs }

  map_take : (k : ℕ) (xs : List T) → ◌≡◌ {A = List (Option T)} (take k (map Some xs)) (map Some (take k xs))
  map_take zero xs = refl
  map_take (suc k) [] = refl
  map_take (suc k) (x ∷ xs) = ap (λ (l : List (Option T)). Some x ∷ l) (map_take k xs)

  map_drop : (k : ℕ) (xs : List T) → ◌≡◌ {A = List (Option T)} (drop k (map Some xs)) (map Some (drop k xs))
  map_drop zero xs = refl
  map_drop (suc k) [] = refl
  map_drop (suc k) (x ∷ xs) = map_drop k xs

  -- the first items, and the others
  pub first : (k : ℕ) (cells : List (Option T)) (xs : List T) (later : List (Option T)) → Holds cells xs → later ≡ take k cells → Holds later (take k xs)
  first k cells xs later h e = record { cells_are = e ∙ (ap (take k) h.cells_are ∙ map_take k xs) }

  behind : (k : ℕ) (cells : List (Option T)) (xs : List T) → Holds cells xs → Holds (drop k cells) (drop k xs)
  behind k cells xs h = record { cells_are = ap (drop k) h.cells_are ∙ map_drop k xs }

  pub poured : (k : ℕ) (cells more : List (Option T)) (xs ys : List T) (later : List (Option T)) → Holds cells xs → Holds more ys
      → later ≡ more ++ reverse (drop k cells) → Holds later (ys ++ reverse (drop k xs))
  poured k cells more xs ys later h i e =
      appended more (reverse (drop k cells)) ys (reverse (drop k xs)) later i
      (turned (drop k cells) (drop k xs) (reverse (drop k cells)) (behind k cells xs h) refl) e

  -- the item in a cell
  pub in_cell : (cells : List (Option T)) (xs : List T) (i : ℕ) (cell : Option T) → Holds cells xs → i < length xs → cell ≡ get_or cells i cell
      → slice_get xs i ≡ cell
  in_cell cells xs i cell h lt e = go xs i lt (e ∙ ap (λ l. get_or l i cell) h.cells_are)
    where
      go : (xs : List T) (i : ℕ) → i < length xs → ◌≡◌ {A = Option T} cell (get_or (map Some xs) i cell) → slice_get xs i ≡ cell
      go [] i lt e = absurd (omega arith)
      go (x ∷ xs) zero lt e = sym e
      go (x ∷ xs) (suc i) lt e = go xs i (omega arith) e

  -- what a list of items is before and after its last one is removed
  pub record Pops (xs : List T) (cells : List (Option T)) (cell : Option T) : Type 0 where
    pub rest : List T
    pub item : T
    pub is : cell ≡ Some item
    pub holds : Holds cells rest
    pub items : xs ≡ rest ++ item ∷ []

  pub popped : (xs : List T) (cells : List (Option T)) (cell : Option T) → ◌≡◌ {A = List (Option T)} (map Some xs) (cells ++ cell ∷ []) → Pops xs cells cell
  popped [] cells cell e = absurd (omega (arith, ap length e, length-append cells (cell ∷ [])))
  popped (x ∷ []) [] cell e = record { rest = []; item = x; is = cc; holds = record { cells_are = refl }; items = refl }
  popped (x ∷ y ∷ xs) [] cell e = absurd (omega (arith, ap length e))
  popped (x ∷ xs) (c ∷ cells) cell e =
      let p = popped xs cells cell cc in
      let first : c ≡ Some x = cc in
      record {
        rest = x ∷ p.rest;
        item = p.item;
        is = p.is;
        holds = record { cells_are = (λ k. first k ∷ p.holds.cells_are k) };
        items =
            ap (λ (l : List T). x ∷ l) p.items;
      }

  pub popped_items : (xs : List T) (cells : List (Option T)) (cell : Option T) → Pops xs cells cell → xs ≡ somes cells ++ option_to_list cell
  popped_items xs cells cell p = rw (p.is, seen cells p.rest p.holds) p.items

  pub popped_variant : (xs : List T) (cells : List (Option T)) (cell : Option T) → Pops xs cells cell → IsSome cell ↔ (0 < length xs)
  popped_variant xs cells cell p = (λ _. omega (arith, ap length p.items, length-append p.rest (p.item ∷ [])), λ _. rw p.is (search rules))

  pub popped_there : (xs : List T) (cells : List (Option T)) (cell : Option T) (P : Type 0) → Pops xs cells cell → IfNone cell P
  popped_there xs cells cell P p = rw p.is (search rules)

  -- the first item is removed: the list is reversed, the last one is removed, and the list is reversed again
  turned_single : (o : Option T) → reverse (option_to_list o) ≡ option_to_list o
  turned_single None = refl
  turned_single (Some x) = refl

  pub first_off : (xs ys zs later : List T) (o : Option T) → ys ≡ reverse xs → ys ≡ zs ++ option_to_list o → later ≡ reverse zs → xs ≡ option_to_list o ++ later
  first_off xs ys zs later o e f h =
      sym (reverse-reverse xs) ∙ (ap reverse (sym e ∙ f) ∙ (reverse-append zs (option_to_list o) ∙ (λ k. turned_single o k ++ sym h k)))

  pub none_left : (zs later : List T) (o : Option T) → IfNone o (zs ≡ []) → later ≡ reverse zs → IfNone o (later ≡ [])
  none_left zs later None e h = h ∙ ap reverse e
  none_left zs later (Some x) e h = e
