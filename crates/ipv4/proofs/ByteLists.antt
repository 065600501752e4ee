-- Parts and edits of lists of bytes.
use Rattle.std.proofs.Common.{ℕ, zero, suc, ◌<◌, List, [], ◌∷◌, get_or, slice_set, take, drop, arith}
use Rattle.ipv4.specs.Bytes.{AreBytes}

bytes_cons : (x : ℕ) (xs : List ℕ) → x < 256 → AreBytes xs → (i : ℕ) → get_or (x ∷ xs) i 0 < 256
bytes_cons x xs h all zero = h
bytes_cons x xs h all (suc i) = all i

pub AreBytes-set : (xs : List ℕ) (i v : ℕ) → v < 256 → AreBytes xs → AreBytes (slice_set xs i v)
AreBytes-set [] i v h all = all
AreBytes-set (x ∷ xs) zero v h all = bytes_cons v xs h (λ k. all (suc k))
AreBytes-set (x ∷ xs) (suc i) v h all = bytes_cons x (slice_set xs i v) (all 0) (AreBytes-set xs i v h (λ k. all (suc k)))

pub AreBytes-take : (n : ℕ) (xs : List ℕ) → AreBytes xs → AreBytes (take n xs)
AreBytes-take zero xs all = λ k. omega arith
AreBytes-take (suc n) [] all = all
AreBytes-take (suc n) (x ∷ xs) all = bytes_cons x (take n xs) (all 0) (AreBytes-take n xs (λ k. all (suc k)))

pub AreBytes-drop : (n : ℕ) (xs : List ℕ) → AreBytes xs → AreBytes (drop n xs)
AreBytes-drop zero xs all = all
AreBytes-drop (suc n) [] all = all
AreBytes-drop (suc n) (x ∷ xs) all = AreBytes-drop n xs (λ k. all (suc k))
