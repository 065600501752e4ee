-- A stack of words in an array, as runs of words are written into it, read out of it and moved in it
use Rattle.std.proofs.Common.{◌≡◌, ℕ, ◌+◌, ◌-◌, ◌≤◌, ◌<◌, ◌++◌, ◌∷◌, List, [], length, slice_set, take, drop, reverse, refl, sym, ap, ◌∙◌, arith}
use Rattle.std.proofs.lemmas.List.{drop-take, drop_at, length-drop, length-take-le, take-take, take_at}
use Rattle.std.proofs.Math.Seq.{drop-append-add, paste, take-append-add}
use Rattle.std.proofs.lemmas.List.Edits.{take-paste}
use Rattle.std.proofs.lemmas.Slice.{take-put_mid}
use borrow.Rule.Slice.PartMut.{put_mid}
use Rattle.pool_laws.specs.Caches.{cached_after_get, taken_by_get}
use Rattle.pool.specs.Stacks.{added}

module _ {T : Type 0} (xs : List T) (c : ℕ) where
  -- the words from the place r on
  pub run_from : (r : ℕ) → r ≤ c → take (c - r) (drop r xs) ≡ drop r (take c xs)
  run_from r le = sym (ap (λ k. drop r (take k xs)) (split r le) ∙ drop-take r (c - r) xs)
    where
      split : (r' : ℕ) → r' ≤ c → c ≡ r' + (c - r')
      split r' le' = omega (arith, le')

module _ {T : Type 0} (xs : List T) (c : ℕ) (fits : c ≤ length xs) where
  -- the words from the place k on, moved to the front
  pub moved_front : (k : ℕ) (later : List T) → k ≤ c → later ≡ paste xs 0 (drop k xs) (c - k) → take (c - k) later ≡ drop k (take c xs)
  moved_front k later le is =
      ap (take (c - k)) is
      ∙ (ap (λ n. take n (paste xs 0 (drop k xs) (c - k))) (plain (c - k))
      ∙ (take-paste xs 0 (drop k xs) (c - k) (omega arith) (omega (arith, length-drop k xs, fits)) ∙ run_from xs c k le))
    where
      plain : (n : ℕ) → n ≡ 0 + n
      plain n = omega arith

  -- the first n words, of which the first k are turned
  pub served_run : (n k : ℕ) (copied turned : List T) → n ≤ length (take c xs) → k ≤ n → copied ≡ take n xs → turned ≡ reverse (take k copied)
      → turned ++ drop k copied ≡ reverse (take k (take c xs)) ++ take (n - k) (drop k (take c xs))
  served_run n k copied turned enough le is turns =
      let few : n ≤ c = omega (arith, enough, length-take-le c xs fits) in
      let same : copied ≡ take n (take c xs) = is ∙ sym (take-take n c xs few) in
      let front : turned ≡ reverse (take k (take c xs)) = turns ∙ ap reverse (ap (take k) same ∙ take-take k n (take c xs) le) in
      let rest : drop k copied ≡ take (n - k) (drop k (take c xs)) = ap (drop k) same ∙ sym (run_from (take c xs) n k le) in
      λ i. front i ++ rest i

-- n places after the first c of an array that is xs, and what they have after a call
module _ {T : Type 0} (xs at new : List T) (c n : ℕ) (is : at ≡ xs) (fits : c ≤ length xs) where
  pub pushed_run : length new ≡ n → take (c + n) (put_mid c (c + n - c) at new) ≡ take c xs ++ new
  pushed_run long =
      take-put_mid c (c + n - c) at new (c + n) (omega (arith, long)) (omega (arith, ap length is, fits)) ∙ ap (λ l. take c l ++ new) is

  -- and of which the first t are pushed
  pub pushed_part : (t : ℕ) → length new ≡ n → t ≤ n → take (c + t) (put_mid c (c + n - c) at new) ≡ take c xs ++ take t new
  pushed_part t long le =
      sym (take-take (c + t) (c + n) (put_mid c (c + n - c) at new) (omega (arith, le)))
      ∙ (ap (take (c + t)) (pushed_run long)
      ∙ (ap (λ k. take (k + t) (take c xs ++ new)) (sym (length-take-le c xs fits)) ∙ take-append-add (take c xs) new t))

  pub part_long : length (take c xs) + n ≤ length xs → length (take (c + n - c) (drop c at)) ≡ n
  part_long room =
      let all = length-take-le c xs fits in
      let split : c + n - c ≡ n = omega arith in
      length-take-le (c + n - c) (drop c at) (omega (arith, length-drop c at, ap length is, room, all, split)) ∙ split

-- a word written to a slice of one place
pub one_place : {T : Type 0} (xs : List T) (x : T) → length xs ≡ 1 → slice_set xs 0 x ≡ x ∷ []
one_place [] x one = absurd (omega (arith, one))
one_place (y ∷ []) x one = refl
one_place (y ∷ z ∷ zs) x one = absurd (omega (arith, one))

-- what comes after a list that is the front of another
module _ {T : Type 0} (before behind after : List T) (is : after ≡ before ++ behind) where
  pub added_is : added before after ≡ behind
  added_is = ap (drop (length before)) is ∙ drop_at before behind (length before) refl

  pub front_kept : after ≡ before ++ added before after
  front_kept = is ∙ ap (λ l. before ++ l) (sym added_is)

-- a get that the cache can't serve: what it gives, and what is left
module _ {T : Type 0} (n : ℕ) (cache taken all : List T) (short : length cache < n) (is : all ≡ cache ++ taken) where
  cut : length cache - n ≡ 0
  cut = omega (arith, short)

  pub served : (k : ℕ) (items : List T) → k ≡ length cache → items ≡ reverse (take k all) ++ take (n - k) (drop k all)
      → items ≡ taken_by_get n cache taken
  served k items at moved =
      moved
      ∙ ((λ i. reverse (take (at i) (is i)) ++ take (n - at i) (drop (at i) (is i)))
      ∙ ((λ i. reverse (take_at cache taken (length cache) refl i) ++ take (n - length cache) (drop_at cache taken (length cache) refl i))
      ∙ ap (λ k'. reverse (drop k' cache) ++ take (n - length cache) taken) (sym cut)))

  pub unserved : (later : List T) → later ≡ drop n all → later ≡ cached_after_get n cache taken
  unserved later left =
      left
      ∙ ((λ i. drop (split i) (is i)) ∙ (drop-append-add cache taken (n - length cache)
      ∙ ap (λ k'. take k' cache ++ drop (n - length cache) taken) (sym cut)))
    where
      split : n ≡ length cache + (n - length cache)
      split = omega (arith, short)
