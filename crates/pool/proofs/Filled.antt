-- What a get into a slice gives, by what is at the front of it
use Rattle.std.proofs.Common.{◌≡◌, ℕ, ◌-◌, ◌≤◌, ◌++◌, List, [], Ok, Err, IfOk, length, take, drop, reverse, refl, sym, ap, subst, ◌∙◌, append-nil, arith}
use Rattle.std.specs.Prelude.{Result}
use Rattle.std.proofs.lemmas.List.{drop_all, length-append, length-drop, length-reverse, length-take, length-take-le, take-append-drop}
use Rattle.fabric_laws.specs.declared.view.View.{View}
use Rattle.fabric.specs.Settles.{AreOwnBuffers}
use Rattle.pool_laws.specs.Caches.{taken_by_get}
use Rattle.pool_laws.specs.Calls.{GetsCached}
use Rattle.pool_laws.specs.declared.faults.PoolFault.{PoolFault}
use Rattle.pool.specs.Slices.{filled}

module _ {T : Type 0} where
  -- a get from the cache alone gives as many as it should
  all_given : (n : ℕ) (cache : List T) → n ≤ length cache → length (taken_by_get n cache []) ≡ n
  all_given n cache enough =
      let nothing : List T = [] in
      omega (
        arith,
        enough,
        length-append (reverse (drop (length cache - n) cache)) (take (n - length cache) nothing),
        length-reverse (drop (length cache - n) cache),
        length-drop (length cache - n) cache,
        length-take (n - length cache) nothing,
      )

  -- a front of as many words as the slice had places is all of it
  whole_front : (count : ℕ) (words before : List T) → length (take count words) ≡ length before → drop count words ≡ drop count before
      → count ≤ length words → take count words ≡ words
  whole_front count words before long out le =
      let none : drop count words ≡ [] = out ∙ drop_all count before (omega (arith, long, length-take-le count words le)) in
      sym (append-nil (take count words)) ∙ (ap (λ l. take count words ++ l) (sym none) ∙ take-append-drop count words)

  pub gets_filled : {X : Type 0} (A : Type 0) (result : Result X PoolFault) (count : ℕ) (cache later words before : List T)
      → IfOk result (λ _. A × (drop count words ≡ drop count before) × (count ≤ length words))
      → GetsCached (length before) cache result (take count words) later → GetsCached (length before) cache result (filled result words) later
  gets_filled A (Ok x) count cache later words before beside told =
      let long = ap length told.1 ∙ all_given (length before) cache told.0 in
      (told.0, sym (whole_front count words before long beside.1 beside.2) ∙ told.1, told.2)
  gets_filled A (Err e) count cache later words before beside told = (told.0, told.1, refl, told.3)

  pub own_filled : {X : Type 0} (A : Type 0) (tags : T → List ℕ) (v : View T) (result : Result X PoolFault) (count : ℕ) (cache later words before : List T)
      → IfOk result (λ _. A × (drop count words ≡ drop count before) × (count ≤ length words))
      → GetsCached (length before) cache result (take count words) later
      → IfOk result (λ _. AreOwnBuffers tags v (take count words ++ later)) → IfOk result (λ _. AreOwnBuffers tags v (words ++ later))
  own_filled A tags v (Ok x) count cache later words before beside told own =
      let long = ap length told.1 ∙ all_given (length before) cache told.0 in
      subst (λ l. AreOwnBuffers tags v (l ++ later)) (whole_front count words before long beside.1 beside.2) own
  own_filled A tags v (Err e) count cache later words before beside told own = own
