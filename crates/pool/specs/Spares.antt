-- Whether items carry buffers that a hand may spare
use Rattle.std.specs.Prelude.{◌≡◌, ◌<◌, ℕ, List}
use Rattle.ringcore_laws.specs.Sound.{occurrences_in}
use Rattle.burst.specs.declared.tagged.Tagged.{Ghosts}
use Rattle.fabric.specs.declared.stored.Stored.{Ghosts as StoredGhosts}
use Rattle.fabric.specs.declared.hand.cache_hand.CacheHand.{CacheHand}
use Rattle.fabric.specs.CacheHands.{spare}

module _ {T : Type 0} {S : Type 0} {G : Ghosts T} {H : StoredGhosts S T} (tags : T → List ℕ) (k : CacheHand T S G H) where
  -- each of their buffers is spare, or one isn't
  abbrev pub EachIsSpare : List T → Type 0
  EachIsSpare items = (b : ℕ) → 0 < occurrences_in tags b items → spare k b ≡ 1

  abbrev pub SomeIsNotSpare : List T → Type 0
  SomeIsNotSpare items = (b : ℕ) × (0 < occurrences_in tags b items) × (spare k b ≡ 0)
