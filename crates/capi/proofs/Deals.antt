-- How a get deals out what the cache has and what the free ring gave, and why a cache takes what it is given
use Rattle.std.proofs.Common.{◌≡◌, ◌+◌, ◌-◌, ◌*◌, ◌/◌, ◌<◌, ◌≤◌, ◌++◌, ◌∙◌, ℕ, List, [], Err, inl, inr, arith, length, take, drop, reverse, sym, ap, subst}
use Rattle.std.proofs.lemmas.List.{append-nil, length-append, length-drop, reverse-reverse}
use Rattle.fabric_laws.specs.declared.view.View.{View}
use Rattle.fabric.specs.Settles.{AreNotOwnBuffers, AreOwnBuffers}
use Rattle.pool_laws.specs.Caches.{cached_after_get, taken_by_get, threshold}
use Rattle.pool_laws.specs.Calls.{PutsCached}
use Rattle.pool_laws.specs.declared.faults.PoolFault.{PoolFault}
use Rattle.pool_laws.specs.declared.faults.PoolFault.TheVariants.{Short, Worn, CacheFull, NotYours, BadSize}
use Rattle.pool_laws.proofs.Counts.{count_get}
use Rattle.ringapi.proofs.Counts.{count_both, count_parts}
use Rattle.capi.specs.PoolMembers.{numbers_of}
use Rattle.capi.specs.declared.pools.member.Number.{Number}
use Rattle.capi.proofs.Attempts.{all_single}

same_left : (n : ℕ) → n - n ≡ 0
same_left n = omega arith

-- a cache holds what its size is
pub size_fits : (size : ℕ) → size ≤ 3 * size / 2
size_fits size = omega arith

module _ (n : ℕ) (cache taken : List Number) (short : length cache < n) where
  pub dealt : (front rest : List Number) → front ≡ taken_by_get (length cache) cache [] → rest ≡ take (n - length cache) taken
      → front ++ rest ≡ taken_by_get n cache taken
  dealt front rest first then =
      let same = same_left (length cache) in
      let none : length cache - n ≡ 0 = omega (arith, short) in
      let whole : front ≡ reverse cache = first ∙ (ap (λ k. reverse (drop k cache) ++ take k []) same ∙ append-nil (reverse cache)) in
      (λ i. whole i ++ then i) ∙ ap (λ k. reverse (drop k cache) ++ take (n - length cache) taken) (sym none)

  pub dealt_cache : (later last : List Number) → later ≡ cached_after_get (length cache) cache []
      → last ≡ later ++ drop (n - length cache) taken → last ≡ cached_after_get n cache taken
  dealt_cache later last first then =
      let same = same_left (length cache) in
      let none : length cache - n ≡ 0 = omega (arith, short) in
      let empty : later ≡ [] = first ∙ ap (λ k. take k cache ++ drop k []) same in
      then ∙ (ap (λ l. l ++ drop (n - length cache) taken) empty
      ∙ ap (λ k. take k cache ++ drop (n - length cache) taken) (sym none))

-- all that was cached, the oldest first again
pub turned_back : (n : ℕ) (cache got : List Number) → n ≡ length cache → got ≡ taken_by_get n cache [] → reverse got ≡ cache
turned_back n cache got all is =
    ap reverse (is ∙ (ap (λ k. reverse (drop (length cache - k) cache) ++ take (k - length cache) []) all
    ∙ (ap (λ k. reverse (drop k cache) ++ take k []) (same_left (length cache)) ∙ append-nil (reverse cache)))) ∙ reverse-reverse cache

-- nothing is left then
pub none_left : (n : ℕ) (cache later : List Number) → n ≡ length cache → later ≡ cached_after_get n cache [] → later ≡ []
none_left n cache later all is =
    is ∙ (ap (λ k. take (length cache - k) cache ++ drop (k - length cache) []) all
    ∙ ap (λ k. take k cache ++ drop k []) (same_left (length cache)))

module _ (v : View Number) where
  pub dealt_own : (n : ℕ) (cache taken : List Number) → AreOwnBuffers numbers_of v (taken ++ cache)
      → AreOwnBuffers numbers_of v (taken_by_get n cache taken ++ cached_after_get n cache taken)
  dealt_own n cache taken own = (
    λ b. omega (
      arith,
      own.0 b,
      count_both numbers_of b taken cache,
      count_both numbers_of b (taken_by_get n cache taken) (cached_after_get n cache taken),
      count_get numbers_of b n cache taken,
    ),
    all_single (taken_by_get n cache taken ++ cached_after_get n cache taken),
  )

  pub rest_own : (k : ℕ) (cache taken : List Number) → AreOwnBuffers numbers_of v (taken ++ cache)
      → AreOwnBuffers numbers_of v (drop k taken)
  rest_own k cache taken own = (
    λ b. omega (arith, own.0 b, count_both numbers_of b taken cache, count_parts numbers_of b k taken),
    all_single (drop k taken),
  )

  -- own numbers are not others'
  pub own_not_other : (items : List Number) → AreOwnBuffers numbers_of v items → AreNotOwnBuffers numbers_of v items → ⊥
  own_not_other items own (inl x) = omega (arith, own.0 x.0, x.1)
  own_not_other items own (inr odd) = odd own.1

  -- a cache refuses no own numbers that fit
  pub fits_cached : (size : ℕ) (cache items rest later : List Number) (e : PoolFault)
      → AreOwnBuffers numbers_of v (cache ++ items) → length (cache ++ items) ≤ threshold size
      → PutsCached numbers_of v size {X = Unit {0}} cache items (Err e) rest later → ⊥
  fits_cached size cache items rest later NotYours own fits is = own_not_other (cache ++ items) own is.0
  fits_cached size cache items rest later CacheFull own fits is = omega (arith, fits, is.1)
  fits_cached size cache items rest later Short own fits is = is
  fits_cached size cache items rest later Worn own fits is = is
  fits_cached size cache items rest later BadSize own fits is = is

  -- what is left of those that the free ring gave fits into an empty cache
  pub rest_fits : (size missing : ℕ) (before cache taken items rest later : List Number) (e : PoolFault)
      → AreOwnBuffers numbers_of v (taken ++ before) → cache ≡ [] → length taken ≤ missing + size → items ≡ drop missing taken
      → PutsCached numbers_of v size {X = Unit {0}} cache items (Err e) rest later → ⊥
  rest_fits size missing before cache taken items rest later e own none few all is =
      fits_cached size cache (drop missing taken) rest later e
      (subst (λ (l : List Number). AreOwnBuffers numbers_of v (l ++ drop missing taken)) (sym none) (rest_own missing before taken own))
      (omega (
        arith,
        length-append cache (drop missing taken),
        ap length none,
        length-drop missing taken,
        few,
        size_fits size,
      ))
      (subst (λ (l : List Number). PutsCached numbers_of v size {X = Unit {0}} cache l (Err e) rest later) all is)
