-- Caches whose hand sets their buffers aside, and others
use Rattle.std.specs.Prelude.{◌≡◌, ◌<◌, ℕ, Bool, true, false, List, [], ⊤}
use Rattle.ringcore_laws.specs.Sound.{occurrences_in}

module _ {T : Type 0} where
  -- the items of a cache whose buffers its hand sets aside: all, or none
  abbrev pub set_aside_of : Bool → List T → List T
  set_aside_of true items = items
  set_aside_of false items = []

  -- no item carries a buffer of a cache whose hand doesn't set it aside
  abbrev pub AreApart : (T → List ℕ) → Bool → List T → List T → Type 0
  AreApart tags true cache items = ⊤
  AreApart tags false cache items = (b : ℕ) → 0 < occurrences_in tags b items → occurrences_in tags b cache ≡ 0
