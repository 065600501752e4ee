-- Cells of which the first are in use, and the others hold nothing.
use Rattle.std.proofs.Common.{◌≡◌, ◌+◌, ◌-◌, ◌<◌, ◌≤◌, ℕ, zero, suc, List, [], ◌∷◌, ◌++◌, length, take, drop, set, get_or, replicate, sym, refl, ap, ◌∙◌}
use Rattle.std.proofs.Common.{Option, None, arith, append_assoc, length-set, take-append-drop}
use Rattle.std.proofs.Math.Seq.{take-append_seam, set-append_seam}
use Rattle.std.proofs.lemmas.List.{length-append, length-replicate, length-take, replicate-append-replicate}
use Rattle.std.specs.Prelude.{slice_index_or}
use Rattle.burst.specs.Cells.{IsInFront}

pub all_alike : {X : Type 0} (x : X) (xs : List X) (n : ℕ) → length xs ≡ n → ((i : ℕ) (d : X) → i < n → slice_index_or xs i d ≡ x) → xs ≡ replicate n x
all_alike x [] zero e at = refl
all_alike x [] (suc n) e at = absurd (omega arith)
all_alike x (y ∷ ys) zero e at = absurd (omega arith)
all_alike x (y ∷ ys) (suc n) e at = λ k. at 0 x (omega arith) k ∷ all_alike x ys n (omega arith) (λ i d below. at (suc i) d (omega arith)) k

last_off : {X : Type 0} (d : X) (xs : List X) (m : ℕ) → length xs ≡ suc m → xs ≡ take m xs ++ get_or xs m d ∷ []
last_off d [] m e = absurd (omega arith)
last_off d (x ∷ []) zero e = refl
last_off d (x ∷ y ∷ xs) zero e = absurd (omega arith)
last_off d (x ∷ xs) (suc m) e = ap (λ l. x ∷ l) (last_off d xs m (omega arith))

module _ {T : Type 0} where
  -- the first m cells are ys, and there are no more
  pub lies : (N m : ℕ) (ys xs : List (Option T)) → xs ≡ ys ++ replicate (N - m) None → length ys ≡ m → m ≤ N → take m xs ≡ ys
  lies N m ys xs e many fits = (λ k. take (sym many k) (e k)) ∙ take-append_seam ys (replicate (N - m) None)

  pub in_front : (N m : ℕ) (ys xs : List (Option T)) → xs ≡ ys ++ replicate (N - m) None → length ys ≡ m → m ≤ N → IsInFront N m xs
  in_front N m ys xs e many fits =
      let t = lies N m ys xs e many fits in
      (e ∙ (λ k. sym t k ++ replicate (N - m) None), ap length t ∙ many, fits)

  pub none_in_front : (N : ℕ) (xs : List (Option T)) → xs ≡ replicate N None → IsInFront N 0 xs
  none_in_front N xs e = in_front N 0 [] xs (e ∙ (λ k. replicate (let z : N ≡ N - 0 = omega arith in z k) None)) refl (omega arith)

  pub pushed : (N n : ℕ) (xs : List (Option T)) (x : Option T) → IsInFront N n xs → n < N → IsInFront N (n + 1) (set xs n x)
  pushed N n xs x p room =
      let v = take n xs in
      let others : List (Option T) = replicate (N - (n + 1)) None in
      let is : set xs n x ≡ (v ++ x ∷ []) ++ others =
      (λ k. set ((p.0 ∙ (λ j. v ++ replicate (let z : N - n ≡ suc (N - (n + 1)) = omega arith in z j) None)) k) (sym p.1 k) x)
      ∙ (set-append_seam v None others x ∙ sym (append_assoc v (x ∷ []) others)) in
      in_front N (n + 1) (v ++ x ∷ []) (set xs n x) is (length_snoc v n p.1) (omega arith)
    where
      length_snoc : (v : List (Option T)) (n : ℕ) → length v ≡ n → length (v ++ x ∷ []) ≡ n + 1
      length_snoc [] n e = omega arith
      length_snoc (y ∷ ys) n e = let q = length_snoc ys (n - 1) (omega arith) in omega arith

  pub popped : (N n : ℕ) (xs : List (Option T)) → IsInFront N n xs → 0 < n → IsInFront N (n - 1) (set xs (n - 1) None)
  popped N n xs p some =
      let v = take n xs in
      let w = take (n - 1) v in
      let last = get_or v (n - 1) None in
      let others : List (Option T) = replicate (N - n) None in
      let long : length w ≡ n - 1 = omega (arith, length-take (n - 1) v, p.1) in
      let v_is : v ≡ w ++ last ∷ [] = last_off None v (n - 1) (omega (arith, p.1)) in
      let xs_is : xs ≡ w ++ last ∷ others = p.0 ∙ (ap (λ l. l ++ others) v_is ∙ append_assoc w (last ∷ []) others) in
      let is : set xs (n - 1) None ≡ w ++ replicate (N - (n - 1)) None =
      (λ k. set (xs_is k) (sym long k) None)
      ∙ (set-append_seam w last others None ∙ (λ k. w ++ replicate (let z : suc (N - n) ≡ N - (n - 1) = omega (arith, p.2) in z k) None)) in
      in_front N (n - 1) w (set xs (n - 1) None) is long (omega (arith, p.2))

  -- further cells that hold nothing are counted as used
  pub lengthened : (N n m : ℕ) (xs : List (Option T)) → IsInFront N n xs → n + m ≤ N
      → IsInFront N (n + m) xs × (take (n + m) xs ≡ take n xs ++ replicate m None)
  lengthened N n m xs p room =
      let v : List (Option T) = take n xs ++ replicate m None in
      let blank : ◌≡◌ {A = List (Option T)} (replicate (N - n) None) (replicate m None ++ replicate (N - (n + m)) None) =
      sym (replicate-append-replicate m (N - (n + m)) None ∙ (λ k. replicate (let z : m + (N - (n + m)) ≡ N - n = omega arith in z k) None)) in
      let is : xs ≡ v ++ replicate (N - (n + m)) None =
      p.0 ∙ (ap (λ l. take n xs ++ l) blank ∙ sym (append_assoc (take n xs) (replicate m None) (replicate (N - (n + m)) None))) in
      let long : length v ≡ n + m =
      length-append (take n xs) (replicate m None) ∙ omega (arith, p.1, length-replicate m (let z : Option T = None in z)) in
      (in_front N (n + m) v xs is long room, lies N (n + m) v xs is long room)

  -- cells at the end that hold nothing are no longer counted as used
  pub shortened : (N n k : ℕ) (xs : List (Option T)) → IsInFront N n xs → k ≤ n → drop k (take n xs) ≡ replicate (n - k) None
      → IsInFront N k xs × (take k xs ≡ take k (take n xs))
  shortened N n k xs p fits blank =
      let v = take k (take n xs) in
      let is : xs ≡ v ++ replicate (N - k) None =
      p.0 ∙ (ap (λ l. l ++ replicate (N - n) None) (sym (take-append-drop k (take n xs)) ∙ ap (λ l. v ++ l) blank)
      ∙ (append_assoc v (replicate (n - k) None) (replicate (N - n) None)
      ∙ ap (λ l. v ++ l) (replicate-append-replicate (n - k) (N - n) None
      ∙ (λ j. replicate (let z : (n - k) + (N - n) ≡ N - k = omega (arith, p.2) in z j) None)))) in
      let long : length v ≡ k = omega (arith, length-take k (take n xs), p.1) in
      let low : k ≤ N = omega (arith, p.2) in
      (in_front N k v xs is long low, lies N k v xs is long low)

  -- a cell in use is changed
  pub replaced : (N n i : ℕ) (xs : List (Option T)) (x : Option T) → IsInFront N n xs → i < n → IsInFront N n (set xs i x)
  replaced N n i xs x p below =
      let v = take n xs in
      let is : set xs i x ≡ set v i x ++ replicate (N - n) None =
      (λ k. set (p.0 k) i x) ∙ set_first v (replicate (N - n) None) i (omega (arith, p.1)) in
      in_front N n (set v i x) (set xs i x) is (length-set v i x ∙ p.1) p.2
    where
      set_first : (v w : List (Option T)) (i : ℕ) → i < length v → set (v ++ w) i x ≡ set v i x ++ w
      set_first [] w i h = absurd (omega arith)
      set_first (y ∷ v) w zero h = refl
      set_first (y ∷ v) w (suc i) h = ap (λ l. y ∷ l) (set_first v w i (omega arith))
