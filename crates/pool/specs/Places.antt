-- Where the buffers of words lie
use Rattle.std.specs.Prelude.{◌≡◌, ◌≤◌, ℕ, List, slice_get, slice_index_or}
use Rattle.ringcore_laws.specs.Sound.{occurrences, occurrences_in}
use Rattle.fabric.specs.Owned.{told}

module _ {T : Type 0} (tags : T → List ℕ) where
  -- a row has a place for each buffer: words carry it as often as the word at its place does, so no other word does
  abbrev pub ArePlaced : List ℕ → List T → Type 0
  ArePlaced at words =
      (b : ℕ) → occurrences_in tags b words ≡ occurrences b (told tags (slice_get words (slice_index_or at b 0)))

  -- the words carry no buffer from n on
  abbrev pub AreBelow : ℕ → List T → Type 0
  AreBelow n words = (b : ℕ) → n ≤ b → occurrences_in tags b words ≡ 0

  -- they carry no buffer twice
  abbrev pub AreOnce : List T → Type 0
  AreOnce words = (b : ℕ) → occurrences_in tags b words ≤ 1
