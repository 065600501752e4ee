-- A cache's hand and the whole hand
use Rattle.std.specs.Prelude.{Option, Some, None}
use Rattle.burst.specs.declared.tagged.Tagged.{Ghosts}
use Rattle.fabric.specs.declared.stored.Stored.{Ghosts as StoredGhosts}
use Rattle.fabric.specs.declared.hand.Hand.{Hand}
use Rattle.fabric.specs.declared.hand.cache_hand.CacheHand.{CacheHand}
use Rattle.fabric.specs.CacheHands.{IsCacheHandFor}

-- both are there, and they are one
abbrev pub IsWhole : {T : Type 0} {S : Type 0} {G : Ghosts T} {H : StoredGhosts S T} → Option (CacheHand T S G H)
    → Option (Hand T S G H) → Type 0
IsWhole None h = ⊥
IsWhole (Some k) None = ⊥
IsWhole (Some k) (Some h) = IsCacheHandFor h k
