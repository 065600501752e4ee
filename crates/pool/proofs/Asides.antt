-- A cache whose hand sets its buffers aside, or not
use Rattle.std.proofs.Common.{◌≡◌, ℕ, ◌<◌, ◌≤◌, ◌++◌, inl, inr, List, [], refl, sym, subst, arith, Bool, true, false}
use Rattle.burst.specs.declared.tagged.Tagged.{Ghosts}
use Rattle.geom.specs.declared.plan.RingPlan.{RingPlan}
use Rattle.ringcore_laws.specs.declared.party.Party.{Party}
use Rattle.ringcore_laws.specs.Moves.{Owns}
use Rattle.ringcore_laws.specs.Sound.{holds, occurrences_in}
use Rattle.ringcore_laws.proofs.RingLaws.{below_or_not}
use Rattle.fabric.specs.declared.stored.Stored.{Ghosts as StoredGhosts}
use Rattle.fabric.specs.declared.hand.cache_hand.CacheHand.{CacheHand}
use Rattle.fabric.specs.CacheHands.{AreNotSpare, AreSpare, Keeps, spare, view_of_cache_hand}
use Rattle.fabric.specs.Settles.{AreNotYours, AreOwnBuffers, AreYours}
use Rattle.ringapi.proofs.Counts.{count_both}
use Rattle.ringapi.proofs.Singles.{single_both, single_later}
use Rattle.pool.specs.Asides.{AreApart, set_aside_of}

module _ {T : Type 0} (tags : T → List ℕ) where
  -- what is set aside is among what the cache has
  pub aside_le : (aside : Bool) (cache : List T) (b : ℕ) → occurrences_in tags b (set_aside_of aside cache) ≤ occurrences_in tags b cache
  aside_le true cache b = omega arith
  aside_le false cache b = omega arith

module _ {T : Type 0} {S : Type 0} {G : Ghosts T} {H : StoredGhosts S T} (k : CacheHand T S G H) where
  -- items that are spare and apart from the cache are the hand's beside it
  pub owned_beside : (aside : Bool) (cache items : List T) → Keeps G.numbers k (set_aside_of aside cache) → Owns G.numbers (view_of_cache_hand k).party cache
      → AreApart G.numbers aside cache items → ((b : ℕ) → occurrences_in G.numbers b items ≤ spare k b)
      → Owns G.numbers (view_of_cache_hand k).party (cache ++ items)
  owned_beside true cache items keeps own apart few b = omega (arith, keeps b, few b, count_both G.numbers b cache items)
  owned_beside false cache items keeps own apart few b = elim (below_or_not 0 (occurrences_in G.numbers b items)) [
    | inl some ↦ omega (arith, keeps b, few b, apart b some, count_both G.numbers b cache items)
    | inr gone ↦ omega (arith, gone, own b, count_both G.numbers b cache items)
  ]

  -- one that isn't spare, or that the cache has, is not
  pub lacks_beside : (aside : Bool) (cache items : List T) (b : ℕ) → Keeps G.numbers k (set_aside_of aside cache)
      → spare k b < occurrences_in G.numbers b items → holds G.numbers b (view_of_cache_hand k).party < occurrences_in G.numbers b (cache ++ items)
  lacks_beside aside cache items b keeps more =
      omega (arith, keeps b, more, aside_le G.numbers aside cache b, count_both G.numbers b cache items)

  pub twice_beside : (cache items : List T) (b : ℕ) → 1 < occurrences_in G.numbers b (cache ++ items)
      → holds G.numbers b (view_of_cache_hand k).party < occurrences_in G.numbers b (cache ++ items)
  twice_beside cache items b twice = omega (arith, twice, (k.well b).0)

  pub both_beside : (cache items : List T) (b : ℕ) → 0 < occurrences_in G.numbers b items → 0 < occurrences_in G.numbers b cache
      → holds G.numbers b (view_of_cache_hand k).party < occurrences_in G.numbers b (cache ++ items)
  both_beside cache items b there here = twice_beside cache items b (omega (arith, there, here, count_both G.numbers b cache items))

  pub yours_beside : (plan : RingPlan) (aside : Bool) (cache items : List T) → Keeps G.numbers k (set_aside_of aside cache)
      → AreOwnBuffers G.numbers (view_of_cache_hand k) cache → AreApart G.numbers aside cache items → AreSpare G.numbers plan k items
      → AreYours G.numbers plan (view_of_cache_hand k) (cache ++ items)
  yours_beside plan aside cache items keeps own apart spare = record {
    owned = owned_beside aside cache items keeps own.0 apart spare.spare;
    single = λ free. single_both G.numbers cache items own.1 (spare.single free);
  }

  pub not_yours : (plan : RingPlan) (aside : Bool) (cache items : List T) → Keeps G.numbers k (set_aside_of aside cache)
      → AreNotSpare G.numbers plan k items → AreNotYours G.numbers plan (view_of_cache_hand k) (cache ++ items)
  not_yours plan aside cache items keeps other = elim other [
    | inl more ↦ inl (more.0, lacks_beside aside cache items more.0 keeps more.1)
    | inr odd ↦ inr (odd.0, λ single. odd.1 (single_later G.numbers cache items single))
  ]

  -- where nothing is set aside: each buffer of the items is spare, and with the cache they carry none twice
  pub owned_once : (cache items : List T) → Keeps G.numbers k [] → Owns G.numbers (view_of_cache_hand k).party cache
      → ((b : ℕ) → 0 < occurrences_in G.numbers b items → spare k b ≡ 1) → ((b : ℕ) → occurrences_in G.numbers b (cache ++ items) ≤ 1)
      → Owns G.numbers (view_of_cache_hand k).party (cache ++ items)
  owned_once cache items keeps own each once b = elim (below_or_not 0 (occurrences_in G.numbers b items)) [
    | inl some ↦ omega (arith, keeps b, each b some, once b)
    | inr gone ↦ omega (arith, gone, own b, count_both G.numbers b cache items)
  ]

-- items that were pushed, or not
pub own_after : {T : Type 0} (tags : T → List ℕ) (party : Party T) (t : Bool) (new old items : List T) → (t ≡ true → new ≡ old ++ items) → (t ≡ false → new ≡ old)
    → (t ≡ true → Owns tags party (old ++ items)) → Owns tags party old → Owns tags party new
own_after tags party true new old items pushed back both own = subst (Owns tags party) (sym (pushed refl)) (both refl)
own_after tags party false new old items pushed back both own = subst (Owns tags party) (sym (back refl)) own
