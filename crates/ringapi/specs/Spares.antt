-- Hands for threads that come later
use Rattle.std.specs.Prelude.{◌≡◌, ◌⊎◌, ℕ, List, [], All}
use Rattle.burst.specs.declared.tagged.Tagged.{Ghosts}
use Rattle.fabric.specs.declared.stored.Stored.{Ghosts as StoredGhosts}
use Rattle.fabric_laws.specs.declared.view.View.{View}
use Rattle.fabric_laws.specs.Changes.{kept, newborn}
use Rattle.fabric.specs.Hands.{IsHandOf, view}
use Rattle.fabric.specs.declared.fabric.Fabric.{Fabric}
use Rattle.fabric.specs.declared.hand.Hand.{Hand}

-- this is the view of a hand that has done nothing and owns no buffer
abbrev pub IsUnused : {T : Type 0} → View T → Type 0
IsUnused v = v ≡ newborn v.plans v.pool v.parts []

-- the hand has what it had, and maybe only half of its parts
abbrev pub IsSameBut : {T : Type 0} → View T → View T → Type 0
IsSameBut v w = (w ≡ v) ⊎ (w ≡ kept v)

module _ {T : Type 0} {S : Type 0} {G : Ghosts T} {H : StoredGhosts S T} {N : ℕ} where
  -- a hand of a fabric that has done nothing and owns no buffer
  abbrev pub IsSpareOf : Fabric T N S → Hand T S G H → Type 0
  IsSpareOf f h = IsHandOf f h × IsUnused (view h)

  abbrev pub AreSpare : Fabric T N S → List (Hand T S G H) → Type 0
  AreSpare f hands = All (λ h. IsSpareOf f h) hands
