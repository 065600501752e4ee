-- A window of a list, as a segment is a window of its buffer: `take len (drop start items)`, when what is written is in
-- it, before it or after it.
use Rattle.std.proofs.Common.{◌≡◌, ◌+◌, ◌-◌, ◌<◌, ◌≤◌, ℕ, zero, suc, List, [], ◌∷◌, ◌++◌, length, take, drop, set, sym, refl, ap, ◌∙◌, arith, append_assoc}
use Rattle.std.specs.List.{refill}
use Rattle.std.proofs.Math.Seq.{take-set-lt}
use Rattle.std.proofs.lemmas.List.{length-drop, length-append, length-take-le, take_all, take_at, drop_at, take-take, drop-drop, drop-take, take-append-le}
use Rattle.std.proofs.lemmas.List.{drop-append-le, drop_all, append-nil, drop-set-add}
use Rattle.mbuf.specs.Buffer.{Buffer, overwritten}

module _ {X : Type 0} where
  -- ws written over as many elements of xs from i on, as `with_items_from` has it
  abbrev pub over : ℕ → List X → List X → List X
  over i xs ws = overwritten i ws xs

  abbrev pub written : ℕ → ℕ → List X → List X → List X
  written n i xs ws = refill n xs (over i xs ws)

  pub length_over : (i : ℕ) (xs ws : List X) → i + length ws ≤ length xs → length (over i xs ws) ≡ length xs
  length_over i xs ws fits =
      omega (
        arith,
        length-append (take i xs) (ws ++ drop (length ws) (drop i xs)),
        length-append ws (drop (length ws) (drop i xs)),
        length-take-le i xs (omega arith),
        length-drop (length ws) (drop i xs),
        length-drop i xs,
      )

  written_is : (n i : ℕ) (xs ws : List X) → n ≡ length xs → i + length ws ≤ n → written n i xs ws ≡ over i xs ws
  written_is n i xs ws e fits =
      let long = length_over i xs ws (omega arith) in
      let none : drop (length (over i xs ws)) xs ≡ [] = drop_all _ xs (omega arith) in
      ap (λ (l : List X). take n (over i xs ws ++ l)) none ∙ ap (take n) (append-nil (over i xs ws)) ∙ take_all n (over i xs ws) (omega arith)

  pub length_window : (n start len : ℕ) (items : List X) → n ≡ length items → start + len ≤ n → length (take len (drop start items)) ≡ len
  length_window n start len items e fits = length-take-le len (drop start items) (omega (arith, length-drop start items))

  take_more : (xs ys : List X) (m : ℕ) → take (length xs + m) (xs ++ ys) ≡ xs ++ take m ys
  take_more [] ys m = ap (λ k. take k ys) (omega arith)
  take_more (x ∷ xs) ys m =
      (let e : suc (length xs) + m ≡ suc (length xs + m) = omega arith in ap (λ k. take k (x ∷ (xs ++ ys))) e) ∙ ap (λ (l : List X). x ∷ l) (take_more xs ys m)

  -- what is written after the window joins it
  pub window_append : (n start len : ℕ) (items xs : List X) → n ≡ length items → start + len + length xs ≤ n
      → take (len + length xs) (drop start (written n (start + len) items xs)) ≡ take len (drop start items) ++ xs
  window_append n start len items xs e fits =
      let i = start + len in
      let rest : List X = drop (length xs) (drop i items) in
      let window : List X = take len (drop start items) in
      let front : length (take i items) ≡ i = length-take-le i items (omega arith) in
      let long = length_window n start len items e (omega arith) in
      let parts : drop start (over i items xs) ≡ window ++ (xs ++ rest) =
      drop-append-le start (take i items) (xs ++ rest) (omega arith) ∙ ap (λ (l : List X). l ++ (xs ++ rest)) (drop-take start len items) in
      ap (λ (l : List X). take (len + length xs) (drop start l)) (written_is n i items xs e fits)
      ∙ ap (take (len + length xs)) (parts ∙ sym (append_assoc window xs rest))
      ∙ take_at (window ++ xs) rest (len + length xs) (omega (arith, length-append window xs))

  -- what is written right before the window joins it
  pub window_prepend : (n start len : ℕ) (items xs : List X) → n ≡ length items → start + len ≤ n → length xs ≤ start
      → take (len + length xs) (drop (start - length xs) (written n (start - length xs) items xs)) ≡ xs ++ take len (drop start items)
  window_prepend n start len items xs e fits room =
      let i = start - length xs in
      let at : i + length xs ≡ start = omega arith in
      let rest : List X = drop (length xs) (drop i items) in
      let behind : rest ≡ drop start items = drop-drop (length xs) i items ∙ ap (λ k. drop k items) at in
      let more : len + length xs ≡ length xs + len = omega arith in
      ap (λ (l : List X). take (len + length xs) (drop i l)) (written_is n i items xs e (omega arith))
      ∙ ap (take (len + length xs)) (drop_at (take i items) (xs ++ rest) i (length-take-le i items (omega arith)))
      ∙ ap (λ k. take k (xs ++ rest)) more ∙ take_more xs rest len ∙ ap (λ (l : List X). xs ++ take len l) behind

  -- what is written inside the window is in it
  pub window_write : (n start len at : ℕ) (items xs : List X) → n ≡ length items → start + len ≤ n → at + length xs ≤ len
      → take len (drop start (written n (start + at) items xs)) ≡ overwritten at xs (take len (drop start items))
  window_write n start len at items xs e fits inside =
      let i = start + at in
      let m = len - at - length xs in
      let base : List X = drop start items in
      let front : List X = take at base in
      let rest : List X = drop (length xs) (drop i items) in
      let long : length front ≡ at = length-take-le at base (omega (arith, length-drop start items)) in
      let whole : len ≡ length front + (length xs + m) = omega (arith, long) in
      let parts : drop start (over i items xs) ≡ front ++ (xs ++ rest) =
      drop-append-le start (take i items) (xs ++ rest) (omega (arith, length-take-le i items (omega arith)))
      ∙ ap (λ (l : List X). l ++ (xs ++ rest)) (drop-take start at items) in
      let behind : rest ≡ drop (length xs) (drop at base) = ap (drop (length xs)) (sym (drop-drop at start items)) in
      let split : len ≡ at + (length xs + m) = omega arith in
      let window : drop (length xs) (drop at (take len base)) ≡ take m rest = ap (λ k. drop (length xs) (drop at (take k base))) split
      ∙ ap (drop (length xs)) (drop-take at (length xs + m) base) ∙ drop-take (length xs) m (drop at base) ∙ ap (take m) (sym behind) in
      ap (λ (l : List X). take len (drop start l)) (written_is n i items xs e (omega arith))
      ∙ ap (take len) parts
      ∙ ap (λ k. take k (front ++ (xs ++ rest))) whole
      ∙ take_more front (xs ++ rest) (length xs + m)
      ∙ ap (λ (l : List X). front ++ l) (take_more xs rest m)
      ∙ (λ k. sym (take-take at len base (omega arith)) k ++ (xs ++ sym window k))

  pub window_cut_front : (start len n : ℕ) (items : List X) → n ≤ len → take (len - n) (drop (start + n) items) ≡ drop n (take len (drop start items))
  window_cut_front start len n items fits =
      let more : len ≡ n + (len - n) = omega arith in
      sym (ap (λ k. drop n (take k (drop start items))) more ∙ drop-take n (len - n) (drop start items) ∙ ap (take (len - n)) (drop-drop n start items))

  pub window_set : (start len i : ℕ) (items : List X) (v : X) → i < len
      → take len (drop start (set items (start + i) v)) ≡ set (take len (drop start items)) i v
  window_set start len i items v below = ap (take len) (drop-set-add start items i v) ∙ take-set-lt len (drop start items) i v below

  refilled_front : (n : ℕ) (ws ys : List X) → take n (ws ++ drop (length ws) ys) ≡ take n (ws ++ drop (length ws) (take n ys))
  refilled_front n [] ys = sym (take-take n n ys (omega arith))
  refilled_front zero (w ∷ ws) ys = refl
  refilled_front (suc n) (w ∷ ws) [] = refl
  refilled_front (suc n) (w ∷ ws) (y ∷ ys) = ap (λ (l : List X). w ∷ l) (refilled_front n ws ys)

  -- what is written from the start of the window on, however long it is, fills the window as far as it goes
  pub window_refill : (n start len : ℕ) (items ws : List X) → n ≡ length items → start + len ≤ n
      → take len (drop start (written n start items ws)) ≡ refill (length (take len (drop start items))) (take len (drop start items)) ws
  window_refill n start len items ws e fits =
      let mid : List X = ws ++ drop (length ws) (drop start items) in
      let rest : List X = drop (length (over start items ws)) items in
      let front : length (take start items) ≡ start = length-take-le start items (omega arith) in
      let more : n ≡ start + (n - start) = omega arith in
      let long : n - start ≤ length mid =
      omega (arith, length-append ws (drop (length ws) (drop start items)), length-drop (length ws) (drop start items), length-drop start items) in
      ap (λ k. take len (drop start (take k (over start items ws ++ rest)))) more
      ∙ ap (take len) (drop-take start (n - start) (over start items ws ++ rest))
      ∙ take-take len (n - start) (drop start (over start items ws ++ rest)) (omega arith)
      ∙ ap (take len) (ap (drop start) (append_assoc (take start items) mid rest) ∙ drop_at (take start items) (mid ++ rest) start front)
      ∙ take-append-le len mid rest (omega arith)
      ∙ refilled_front len ws (drop start items)
      ∙ ap (λ k. refill k (take len (drop start items)) ws) (sym (length_window n start len items e fits))

-- two buffers with the same number and reserve that have the same headroom, bytes and tailroom
pub same_buffer : (number reserve h h' t t' : ℕ) (xs xs' : List ℕ) → h ≡ h' → xs ≡ xs' → t ≡ t'
    → ◌≡◌ {A = Buffer} (record { number = number; reserve = reserve; headroom = h; bytes = xs; tailroom = t })
    (record { number = number; reserve = reserve; headroom = h'; bytes = xs'; tailroom = t' })
same_buffer number reserve h h' t t' xs xs' eh ex et = λ k. record { number = number; reserve = reserve; headroom = eh k; bytes = ex k; tailroom = et k }
