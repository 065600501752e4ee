-- Bytes that are copied segment by segment.
use Rattle.std.proofs.Common.{◌≡◌, ◌+◌, ◌-◌, ◌≤◌, ℕ, zero, suc, min, List, [], ◌∷◌, ◌++◌, length, take, drop, replicate, sym, refl, ap, ◌∙◌, arith}
use Rattle.std.proofs.Math.Seq.{take-append-add}
use Rattle.std.proofs.lemmas.List.{length-append, length-drop, length-take, take_min, drop_min, take-take, drop-take, drop-drop, take-replicate, drop-replicate}
use Rattle.std.proofs.lemmas.List.{length-replicate, take-append-drop, nil_from_length}
use Rattle.std.proofs.lemmas.List.Sums.{sum_by-cons}
use Rattle.mbuf.specs.Buffer.{Buffer, room_of, fresh, appended, blanked, overwritten}
use Rattle.mbuf.specs.Chain.{bytes_of, space_of, shape_of, filled}

module _ {X : Type 0} where
  pub take_split : (xs ys : List X) (m : ℕ) → take m (xs ++ ys) ≡ take m xs ++ take (m - length xs) ys
  take_split [] ys m = (let e : m ≡ m - 0 = omega arith in ap (λ k. take k ys) e) ∙ split m
    where
      split : (m : ℕ) → take (m - 0) ys ≡ take m [] ++ take (m - 0) ys
      split zero = refl
      split (suc m) = refl
  take_split (x ∷ xs) ys zero = let e : 0 ≡ 0 - suc (length xs) = omega arith in ap (λ k. take k ys) e
  take_split (x ∷ xs) ys (suc m) =
      ap (λ (l : List X). x ∷ l) (take_split xs ys m ∙ (let e : m - length xs ≡ suc m - suc (length xs) = omega arith in ap (λ k. take m xs ++ take k ys) e))

  pub drop_split : (xs ys : List X) (m : ℕ) → drop m (xs ++ ys) ≡ drop m xs ++ drop (m - length xs) ys
  drop_split [] ys m = (let e : m ≡ m - 0 = omega arith in ap (λ k. drop k ys) e) ∙ split m
    where
      split : (m : ℕ) → drop (m - 0) ys ≡ drop m [] ++ drop (m - 0) ys
      split zero = refl
      split (suc m) = refl
  drop_split (x ∷ xs) ys zero = let e : 0 ≡ 0 - suc (length xs) = omega arith in ap (λ k. x ∷ (xs ++ drop k ys)) e
  drop_split (x ∷ xs) ys (suc m) = drop_split xs ys m ∙ (let e : m - length xs ≡ suc m - suc (length xs) = omega arith in ap (λ k. drop m xs ++ drop k ys) e)

  -- m bytes from index `at` on: those in the first segment, and the others after it
  pub copied : (xs ys : List X) (at m start n : ℕ) → start ≡ min at (length xs) → n ≡ min m (length xs - start)
      → take n (drop start xs) ++ take (m - n) (drop (at - start) ys) ≡ take m (drop at (xs ++ ys))
  copied xs ys at m start n e f =
      let from : drop start xs ≡ drop at xs = ap (λ k. drop k xs) e ∙ drop_min at xs in
      let long : n ≡ min m (length (drop at xs)) = f ∙ ap (min m) (sym (length-drop start xs) ∙ ap length from) in
      let front : take n (drop start xs) ≡ take m (drop at xs) = (λ k. take (long k) (from k)) ∙ take_min m (drop at xs) in
      let over : at - start ≡ at - length xs = omega arith in
      let left : m - n ≡ m - length (drop at xs) = omega arith in
      (λ k. front k ++ take (left k) (drop (over k) ys))
      ∙ sym (take_split (drop at xs) (drop (at - length xs) ys) m)
      ∙ ap (take m) (sym (drop_split xs ys at))

  pub copied_as : (xs ys front rest : List X) (at m start n : ℕ) → start ≡ min at (length xs) → n ≡ min m (length xs - start)
      → front ≡ take n (drop start xs) → rest ≡ take (m - n) (drop (at - start) ys) → front ++ rest ≡ take m (drop at (xs ++ ys))
  copied_as xs ys front rest at m start n e f is_front is_rest = (λ k. is_front k ++ is_rest k) ∙ copied xs ys at m start n e f

  -- all but the last n of two lists, if the second has that many
  pub take_past : (xs ys : List X) (n : ℕ) → n ≤ length ys → take (length (xs ++ ys) - n) (xs ++ ys) ≡ xs ++ take (length ys - n) ys
  take_past xs ys n fits =
      (let more : length (xs ++ ys) - n ≡ length xs + (length ys - n) = omega (arith, length-append xs ys) in ap (λ k. take k (xs ++ ys)) more)
      ∙ take-append-add xs ys (length ys - n)

  front_written : (xs ys ws : List X) (n : ℕ) → n ≡ min (length ws) (length xs)
      → overwritten 0 (take n ws) xs ++ overwritten 0 (drop n ws) ys ≡ overwritten 0 ws (xs ++ ys)
  front_written [] ys ws zero e = refl
  front_written [] ys ws (suc n) e = absurd (omega arith)
  front_written (x ∷ xs) ys [] zero e = refl
  front_written (x ∷ xs) ys [] (suc n) e = absurd (omega arith)
  front_written (x ∷ xs) ys (w ∷ ws) zero e = absurd (omega arith)
  front_written (x ∷ xs) ys (w ∷ ws) (suc n) e = ap (λ (l : List X). w ∷ l) (front_written xs ys ws n (omega arith))

  -- what is written over two lists: the first n over those of the first, the others after them
  both_written : (xs ys ws : List X) (at start n more : ℕ) → start ≡ min at (length xs) → n ≡ min (length ws) (length xs - start) → more ≡ at - start
      → overwritten start (take n ws) xs ++ overwritten more (drop n ws) ys ≡ overwritten at ws (xs ++ ys)
  both_written [] ys ws at zero zero more e f g = let same : more ≡ at = omega arith in ap (λ k. overwritten k ws ys) same
  both_written [] ys ws at zero (suc n) more e f g = absurd (omega arith)
  both_written [] ys ws at (suc start) n more e f g = absurd (omega arith)
  both_written (x ∷ xs) ys ws zero zero n more e f g =
      let none : more ≡ 0 = omega arith in
      ap (λ k. overwritten 0 (take n ws) (x ∷ xs) ++ overwritten k (drop n ws) ys) none ∙ front_written (x ∷ xs) ys ws n (omega arith)
  both_written (x ∷ xs) ys ws zero (suc start) n more e f g = absurd (omega arith)
  both_written (x ∷ xs) ys ws (suc at) zero n more e f g = absurd (omega arith)
  both_written (x ∷ xs) ys ws (suc at) (suc start) n more e f g =
      ap (λ (l : List X). x ∷ l) (both_written xs ys ws at start n more (omega arith) (omega arith) (omega arith))

  pub written_as : (xs ys ws front rest first others : List X) (at start n : ℕ) → start ≡ min at (length xs) → n ≡ min (length ws) (length xs - start)
      → front ≡ take n ws → rest ≡ drop n ws → first ≡ overwritten start front xs → others ≡ overwritten (at - start) rest ys
      → first ++ others ≡ overwritten at ws (xs ++ ys)
  written_as xs ys ws front rest first others at start n e f is_front is_rest is_first is_others =
      (λ k. is_first k ++ is_others k) ∙ (λ k. overwritten start (is_front k) xs ++ overwritten (at - start) (is_rest k) ys)
      ∙ both_written xs ys ws at start n (at - start) e f refl

  -- what is written after the first of two lists
  pub written_past : (xs ys ws : List X) (at more : ℕ) → at ≡ length xs + more → overwritten at ws (xs ++ ys) ≡ xs ++ overwritten more ws ys
  written_past [] ys ws at more e = let same : at ≡ more = omega arith in ap (λ k. overwritten k ws ys) same
  written_past (x ∷ xs) ys ws zero more e = absurd (omega arith)
  written_past (x ∷ xs) ys ws (suc at) more e = ap (λ (l : List X). x ∷ l) (written_past xs ys ws at more (omega arith))

  pub drop_past : (xs ys : List X) (at more : ℕ) → at ≡ length xs + more → drop at (xs ++ ys) ≡ drop more ys
  drop_past [] ys at more e = let same : at ≡ more = omega arith in ap (λ k. drop k ys) same
  drop_past (x ∷ xs) ys zero more e = absurd (omega arith)
  drop_past (x ∷ xs) ys (suc at) more e = drop_past xs ys at more (omega arith)

abbrev pub zeros : ℕ → List ℕ
zeros n = replicate n 0

pub filled_zeros : (b : Buffer) (chain : List Buffer) (n here : ℕ) → here ≡ min n (room_of b)
    → filled (zeros n) (b ∷ chain) ≡ appended (zeros here) (fresh b) ∷ filled (zeros (n - here)) chain
filled_zeros b chain n here e = λ k. appended (front k) (fresh b) ∷ filled (rest k) chain
  where
    front : take (room_of b) (zeros n) ≡ zeros here
    front = sym (take_min (room_of b) (zeros n)) ∙ (let less : min (room_of b) (length (zeros n)) ≡ here =
        omega (arith, length-replicate {A = ℕ} n 0) in ap (λ k. take k (zeros n)) less) ∙ take-replicate here n 0 (omega arith)

    rest : drop (room_of b) (zeros n) ≡ zeros (n - here)
    rest = drop-replicate (room_of b) n 0 ∙ (let more : n - room_of b ≡ n - here = omega arith in ap (λ k. zeros k) more)

pub filled_part : (b : Buffer) (chain : List Buffer) (bytes : List ℕ) (at n here : ℕ) → here ≡ min n (room_of b) → at + n ≤ length bytes
    → filled (take n (drop at bytes)) (b ∷ chain) ≡ appended (take here (drop at bytes)) (fresh b) ∷ filled (take (n - here) (drop (at + here) bytes)) chain
filled_part b chain bytes at n here e there = λ k. appended (front k) (fresh b) ∷ filled (rest k) chain
  where
    long : length (take n (drop at bytes)) ≡ n
    long = omega (arith, length-take n (drop at bytes), length-drop at bytes)

    front : take (room_of b) (take n (drop at bytes)) ≡ take here (drop at bytes)
    front = sym (take_min (room_of b) (take n (drop at bytes)))
        ∙ (let less : min (room_of b) (length (take n (drop at bytes))) ≡ here = omega (arith, long, e) in ap (λ k. take k (take n (drop at bytes))) less)
        ∙ take-take here n (drop at bytes) (omega arith)

    rest : drop (room_of b) (take n (drop at bytes)) ≡ take (n - here) (drop (at + here) bytes)
    rest = sym (drop_min (room_of b) (take n (drop at bytes)))
        ∙ (let less : min (room_of b) (length (take n (drop at bytes))) ≡ here = omega (arith, long, e) in ap (λ k. drop k (take n (drop at bytes))) less)
        ∙ (let more : n ≡ here + (n - here) = omega arith in ap (λ k. drop here (take k (drop at bytes))) more)
        ∙ drop-take here (n - here) (drop at bytes) ∙ ap (take (n - here)) (drop-drop here at bytes)

-- a chain that is filled with bytes for which it has the space holds them
pub bytes_of-filled : (bytes : List ℕ) (chain : List Buffer) → length bytes ≤ space_of chain → bytes_of (filled bytes chain) ≡ bytes
bytes_of-filled bytes [] fits = sym (nil_from_length bytes (omega arith))
bytes_of-filled bytes (b ∷ chain) fits =
    ap (λ (l : List ℕ). take (room_of b) bytes ++ l) (bytes_of-filled (drop (room_of b) bytes) chain
    (omega (arith, length-drop (room_of b) bytes, sum_by-cons room_of b chain)))
    ∙ take-append-drop (room_of b) bytes

pub filled_front : (b : Buffer) (chain : List Buffer) (bytes : List ℕ) (here : ℕ) → here ≡ min (length bytes) (room_of b)
    → filled bytes (b ∷ chain) ≡ appended (take here bytes) (fresh b) ∷ filled (drop here bytes) chain
filled_front b chain bytes here e = λ k. appended (front k) (fresh b) ∷ filled (rest k) chain
  where
    less : min (room_of b) (length bytes) ≡ here
    less = omega (arith, e)

    front : take (room_of b) bytes ≡ take here bytes
    front = sym (take_min (room_of b) bytes) ∙ ap (λ k. take k bytes) less

    rest : drop (room_of b) bytes ≡ drop here bytes
    rest = sym (drop_min (room_of b) bytes) ∙ ap (λ k. drop k bytes) less

of_shape : (chain : List Buffer) → length (bytes_of chain) ≡ length (bytes_of (shape_of chain))
of_shape [] = refl
of_shape (b ∷ chain) =
    omega (
      arith,
      length-append b.bytes (bytes_of chain),
      length-append (blanked b).bytes (bytes_of (shape_of chain)),
      length-replicate {A = ℕ} (length b.bytes) 0,
      of_shape chain,
    )
