-- The bytes of a buffer from a start to an end, after a step of the start or a write after the end.
use Rattle.std.proofs.Common.{◌≡◌, ℕ, ◌+◌, ◌-◌, ◌≤◌, List, ◌++◌, length, take, drop, slice_range, Option, Some, None, refl, sym, ap, ◌∙◌, arith, append_assoc}
use Rattle.std.proofs.Common.{take-append-drop, subst}
use Rattle.std.proofs.lemmas.List.{drop-take, drop-drop, take_at, drop_at, take-append-le, length-take-le}
use Rattle.std.proofs.KnownBytes.{Consumes-trans}
use borrow.Rule.Slice.PartMut.{put_mid, post_of}
use Rattle.std.specs.Io.KnownBytes.{Keeps, Consumes, prepend_known}
use lib.Seq.{take-add}

pub stepped : (xs : List ℕ) (start end count : ℕ) → start + count ≤ end
    → slice_range xs (start + count) end ≡ drop count (slice_range xs start end)
stepped xs start end count inside =
    let parts : end - start ≡ count + (end - (start + count)) = omega arith in
    sym (ap (λ j. drop count (take j (drop start xs))) parts ∙ drop-take count _ (drop start xs)
    ∙ ap (take (end - (start + count))) (drop-drop count start xs))

-- the same bytes, counted from the front
pub behind : (xs : List ℕ) (start end : ℕ) → start ≤ end → slice_range xs start end ≡ drop start (take end xs)
behind xs start end ordered =
    let parts : end ≡ start + (end - start) = omega arith in
    sym (ap (λ j. drop start (take j xs)) parts ∙ drop-take start (end - start) xs)

pub grown : (xs ys : List ℕ) (start end n : ℕ) → start ≤ end → take end ys ≡ take end xs
    → slice_range ys start (end + n) ≡ slice_range xs start end ++ take n (drop end ys)
grown xs ys start end n ordered same =
    let sum : end + n - start ≡ (end - start) + n = omega arith in
    let back : start + (end - start) ≡ end = omega arith in
    ap (λ j. take j (drop start ys)) sum ∙ take-add (end - start) n (drop start ys)
    ∙ ap (λ t. t ++ take n (drop (end - start) (drop start ys))) (behind ys start end ordered ∙ ap (drop start) same ∙ sym (behind xs start end ordered))
    ∙ ap (λ t. slice_range xs start end ++ take n t) (drop-drop (end - start) start ys ∙ ap (λ j. drop j ys) back)

pub kept : (xs ys : List ℕ) (start end : ℕ) → start ≤ end → take end ys ≡ take end xs
    → slice_range ys start end ≡ slice_range xs start end
kept xs ys start end ordered same = behind ys start end ordered ∙ ap (drop start) same ∙ sym (behind xs start end ordered)

-- what comes after the read bytes came from the device
pub prepend_known-grown : (a b : Option (List ℕ)) (old new more : List ℕ) → new ≡ old ++ more → Consumes a b more
    → Keeps (prepend_known old a) (prepend_known new b)
prepend_known-grown None b old new more e h = tt
prepend_known-grown (Some x) None old new more e h = absurd h
prepend_known-grown (Some x) (Some y) old new more e h =
    ap (λ l. l ++ y) e ∙ append_assoc old more y ∙ ap (λ l. old ++ l) (sym h)

pub prepend_known-same : (a b : Option (List ℕ)) (old new : List ℕ) → new ≡ old → Keeps a b
    → Keeps (prepend_known old a) (prepend_known new b)
prepend_known-same None b old new e h = tt
prepend_known-same (Some x) None old new e h = absurd h
prepend_known-same (Some x) (Some y) old new e h = ap (λ l. l ++ y) e ∙ ap (λ l. old ++ l) h

-- what is returned from the front is taken from what is unread
pub prepend_known-dropped : (a : Option (List ℕ)) (xs ys : List ℕ) (n : ℕ) → ys ≡ drop n xs
    → Consumes (prepend_known xs a) (prepend_known ys a) (take n xs)
prepend_known-dropped None xs ys n e = tt
prepend_known-dropped (Some x) xs ys n e =
    ap (λ l. l ++ x) (sym (take-append-drop n xs)) ∙ append_assoc (take n xs) (drop n xs) x ∙ ap (λ l. take n xs ++ (l ++ x)) (sym e)

pub kept-Consumes : (a b c : Option (List ℕ)) (bs : List ℕ) → Keeps a b → Consumes b c bs → Consumes a c bs
kept-Consumes None b c bs p q = tt
kept-Consumes (Some x) None c bs p q = absurd p
kept-Consumes (Some x) (Some y) None bs p q = absurd q
kept-Consumes (Some x) (Some y) (Some z) bs p q = sym p ∙ q

-- what was read after the first bytes
pub read_more : (a b c : Option (List ℕ)) (xs ys : List ℕ) (at k n : ℕ) → at ≤ length xs → n ≤ length ys
    → Consumes a b (take at xs) → Consumes b c (take n ys) → Consumes a c (take (at + n) (put_mid at k xs ys))
read_more a b c xs ys at k n within fits p q =
    let after = ys ++ post_of at k xs in
    let all = take at xs ++ after in
    let len = length-take-le at xs within in
    let e : take (at + n) all ≡ take at xs ++ take n ys =
    take-add at n all ∙ (rw (take_at (take at xs) after at len, drop_at (take at xs) after at len, take-append-le n ys (post_of at k xs) fits) refl) in
    subst (Consumes a c) (sym e) (Consumes-trans a b c _ _ p q)
