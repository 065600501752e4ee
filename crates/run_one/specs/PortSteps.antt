-- What a call changes in the ports.
use Rattle.std.specs.Prelude.{◌≡◌, ◌<◌, ◌≤◌, ℕ, List, [], if◌then◌else◌, Option, Some, slice_get}
use Rattle.std.specs.Io.KnownBytes.{Keeps, Appends, append_known}
use Rattle.ipv4.specs.declared.verdicts.Verdict.{Verdict}
use Rattle.pcapio.specs.Begin.{Begins}
use Rattle.pcapio_laws.specs.Capture.{Packet}
use Rattle.pcapio.specs.Counted.{told}
use Rattle.pcapio_laws.specs.Text.{record_text}
use Rattle.pcapio.specs.Writer.{text, sink_of}
use Rattle.pcapio.specs.declared.counted.Counted.{Counted}
use Rattle.pcapio.specs.declared.writer.Writer.{Writer}
use Rattle.counters.specs.Counted.{is_sent_by}

-- what is written to a port for one record
abbrev pub part_at : ℕ → Verdict → Packet → List ℕ
part_at q verdict packet = if is_sent_by q verdict then record_text packet else []

module _ {W : Type 0} where
  -- each port has one more part, as it is given for each
  abbrev pub AreLonger : (W → Option (List ℕ)) → List (Writer W) → List (Writer W) → (ℕ → List ℕ) → Type 0
  AreLonger contents old new part = (q : ℕ) (w : Writer W) → slice_get new q ≡ Some w
      → (was : Writer W) × (slice_get old q ≡ Some was) × Appends (text contents was) (text contents w) (part q)

  -- each port received a prefix of what its writer had and one more part
  abbrev pub AreCut : (W → Option (List ℕ)) → List (Writer W) → List (Writer W) → (ℕ → List ℕ) → Type 0
  AreCut contents old new part = (q : ℕ) (w : Writer W) → slice_get new q ≡ Some w
      → (was : Writer W) × (slice_get old q ≡ Some was)
      × Begins (told contents (sink_of w)) (append_known (text contents was) (part q))

  -- each port received everything its writer had
  abbrev pub AreTold : (W → Option (List ℕ)) → List (Writer W) → List (Writer W) → Type 0
  AreTold contents old new = (q : ℕ) (w : Writer W) → slice_get new q ≡ Some w
      → (was : Writer W) × (slice_get old q ≡ Some was) × Keeps (text contents was) (told contents (sink_of w))

  -- each port received a prefix of what its writer had
  abbrev pub AreCutShort : (W → Option (List ℕ)) → List (Writer W) → List (Writer W) → Type 0
  AreCutShort contents old new = (q : ℕ) (w : Writer W) → slice_get new q ≡ Some w
      → (was : Writer W) × (slice_get old q ≡ Some was) × Begins (told contents (sink_of w)) (text contents was)

  -- the ports below index i received everything their writers had, and the others are as they were
  abbrev pub AreToldBelow : (W → Option (List ℕ)) → ℕ → List (Writer W) → List (Writer W) → Type 0
  AreToldBelow contents i old new = (q : ℕ) (w : Writer W) → slice_get new q ≡ Some w
      → (was : Writer W) × (slice_get old q ≡ Some was)
      × (q < i → Keeps (text contents was) (told contents (sink_of w))) × (i ≤ q → w ≡ was)

  -- each device received everything its writer had
  abbrev pub AllTold : (W → Option (List ℕ)) → List (Writer W) → List (Counted W) → Type 0
  AllTold contents writers devices = (q : ℕ) (d : Counted W) → slice_get devices q ≡ Some d
      → (w : Writer W) × (slice_get writers q ≡ Some w) × Keeps (text contents w) (told contents d)

  -- each device received a prefix of what its writer had
  abbrev pub AllBegun : (W → Option (List ℕ)) → List (Writer W) → List (Counted W) → Type 0
  AllBegun contents writers devices = (q : ℕ) (d : Counted W) → slice_get devices q ≡ Some d
      → (w : Writer W) × (slice_get writers q ≡ Some w) × Begins (told contents d) (text contents w)
