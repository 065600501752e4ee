-- What the calls of a pool keep: its ring is free, and its cache the hand's own
use Rattle.std.proofs.Common.{◌≡◌, ℕ, ◌++◌, inl, inr, List, take, drop, reverse, sym, ap, subst, arith}
use Rattle.burst.specs.declared.tagged.Tagged.{Ghosts}
use Rattle.fabric.specs.declared.stored.Stored.{Ghosts as StoredGhosts}
use Rattle.ringcore_laws.specs.FreeRings.{AreSingle}
use Rattle.ringcore_laws.specs.Sound.{holds, occurrences_in}
use Rattle.fabric_laws.specs.declared.view.View.{View}
use Rattle.fabric.specs.declared.hand.cache_hand.CacheHand.{CacheHand}
use Rattle.fabric.specs.CacheHands.{AreKept, Keeps, KeepsLess, KeepsNoMore, SameCacheHand, view_of_cache_hand}
use Rattle.fabric.specs.Settles.{AreNotOwnBuffers, AreOwnBuffers}
use Rattle.ringapi.proofs.Counts.{count_both, count_parts, count_turned}
use Rattle.ringapi.proofs.Singles.{single_later, single_poured}

module _ {T : Type 0} {S : Type 0} {G : Ghosts T} {H : StoredGhosts S T} (tags : T → List ℕ) where
  -- what a cache_hand keeps back is the hand's own
  pub own_kept : (k : CacheHand T S G H) (cache : List T) → Keeps tags k cache → AreSingle tags cache → AreOwnBuffers tags (view_of_cache_hand k) cache
  own_kept k cache keeps single = ((λ b. omega (arith, keeps b)), single)

  pub same_view : (k l : CacheHand T S G H) → SameCacheHand k l → view_of_cache_hand l ≡ view_of_cache_hand k
  same_view k l same = ap (λ s. s.me.0) same

  pub none_own : (k l : CacheHand T S G H) (cache list : List T) → Keeps tags k cache → KeepsNoMore tags k list l
      → AreNotOwnBuffers tags (view_of_cache_hand k) (cache ++ list)
  none_own k l cache list keeps none = elim none.1 [
    | inl more ↦ inl (more.0, omega (arith, keeps more.0, more.1, count_both tags more.0 cache list))
    | inr odd ↦ inr (λ single. odd (single_later tags cache list single))
  ]

  -- it keeps back the newest of a cache no more
  pub are_kept : (k : CacheHand T S G H) (n : ℕ) (cache items : List T) → Keeps tags k cache → items ≡ reverse (drop n cache) → AreKept tags k items
  are_kept k n cache items keeps is b =
      omega (
        arith,
        keeps b,
        ap (λ l. occurrences_in tags b l) is,
        count_turned tags b (drop n cache),
        count_parts tags b n cache,
      )

  pub less_kept : (k l : CacheHand T S G H) (n : ℕ) (cache items later : List T) → SameCacheHand k l → Keeps tags k cache → items ≡ reverse (drop n cache)
      → later ≡ take n cache → KeepsLess tags k items l → Keeps tags l later
  less_kept k l n cache items later same keeps is left less b =
      omega (
        arith,
        keeps b,
        less b,
        ap (λ l. occurrences_in tags b l) is,
        ap (λ l. occurrences_in tags b l) left,
        count_turned tags b (drop n cache),
        count_parts tags b n cache,
        ap (λ (v : View T). holds tags b v.party) (same_view k l same),
      )

module _ {T : Type 0} (tags : T → List ℕ) where
  pub later_own : (v : View T) (items cache : List T) → AreOwnBuffers tags v (items ++ cache) → AreOwnBuffers tags v cache
  later_own v items cache own =
      ((λ b. omega (arith, own.0 b, count_both tags b items cache)), single_later tags items cache own.1)

  pub same_own : (v w : View T) (cache later : List T) → w.party ≡ v.party → later ≡ cache → AreOwnBuffers tags v cache → AreOwnBuffers tags w later
  same_own v w cache later kept same own = (
    (λ b. omega (arith, own.0 b, ap (holds tags b) kept, ap (λ l. occurrences_in tags b l) same)),
    subst (AreSingle tags) (sym same) own.1,
  )

  pub hit_own : (v : View T) (k : ℕ) (cache items later : List T) → items ≡ reverse (drop k cache) → later ≡ take k cache
      → AreOwnBuffers tags v cache → AreOwnBuffers tags v (items ++ later)
  hit_own v k cache items later gives keeps own =
      let all : items ++ later ≡ reverse (drop k cache) ++ take k cache = λ i. gives i ++ keeps i in (
        (λ b. omega (
          arith,
          own.0 b,
          ap (λ l. occurrences_in tags b l) all,
          count_both tags b (reverse (drop k cache)) (take k cache),
          count_turned tags b (drop k cache),
          count_parts tags b k cache,
        )),
        subst (AreSingle tags) (sym all) (single_poured tags k cache own.1),
      )
