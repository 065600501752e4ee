-- What the ports of a run received.
use Rattle.std.specs.Prelude.{◌≡◌, ℕ, List, ◌++◌, length, take, map, Option, None, Some, slice_get}
use Rattle.std.specs.Io.KnownBytes.{Appends}
use Rattle.pcapio.specs.Counted.{told}
use Rattle.pcapio_laws.specs.Text.{file_header}
use Rattle.pcapio.specs.Writer.{text, fault_of, sink_of}
use Rattle.pcapio.specs.declared.counted.Counted.{Counted}
use Rattle.pcapio_laws.specs.declared.format.Resolution.{Resolution}
use Rattle.pcapio.specs.declared.writer.Writer.{Writer}
use Rattle.stages_laws.specs.Output.{Fate, output_of}

-- how many bytes are known
abbrev pub known_len : Option (List ℕ) → ℕ
known_len None = 0
known_len (Some bytes) = length bytes

-- the bytes are known, and a prefix of these
abbrev pub IsBeginning : Option (List ℕ) → List ℕ → Type 0
IsBeginning told whole = told ≡ Some (take (known_len told) whole)

-- each port has the text of these fates, part of it still in its writer's buffer, after what its device received before
-- the run
abbrev pub AreTexts : {W : Type 0}
    → (W → Option (List ℕ)) → List (Option (List ℕ)) → Resolution → List Fate → List (Writer W) → Type 0
AreTexts contents before resolution outs writers = (q : ℕ) (w : Writer _) (x : List ℕ) → slice_get writers q ≡ Some w
    → slice_get before q ≡ Some (Some x) → text contents w ≡ Some (x ++ output_of resolution q outs)

-- each port received a prefix of that text
abbrev pub AreBegun : {W : Type 0}
    → (W → Option (List ℕ)) → List (Option (List ℕ)) → Resolution → List Fate → List (Writer W) → Type 0
AreBegun contents before resolution outs writers = (q : ℕ) (w : Writer _) (x : List ℕ) → slice_get writers q ≡ Some w
    → slice_get before q ≡ Some (Some x) → IsBeginning (told contents (sink_of w)) (x ++ output_of resolution q outs)

-- no writer has a fault
abbrev pub AreWell : {W : Type 0} → List (Writer W) → Type 0
AreWell writers = (q : ℕ) (w : Writer _) → slice_get writers q ≡ Some w → fault_of w ≡ None

-- if no port failed, each has the text of the fates so far
abbrev pub HasTexts : {W : Type 0} → (W → Option (List ℕ)) → List (Option (List ℕ)) → Resolution
    → Option (List Fate) → ℕ → Option ℕ → List (Writer W) → Type 0
HasTexts contents before resolution outs next failed writers =
    (all : List Fate) → outs ≡ Some all → failed ≡ None → AreTexts contents before resolution (take next all) writers

-- if one failed, each received a prefix of the whole
abbrev pub HasBegun : {W : Type 0} → (W → Option (List ℕ)) → List (Option (List ℕ)) → Resolution
    → Option (List Fate) → Option ℕ → List (Writer W) → Type 0
HasBegun contents before resolution outs failed writers =
    (all : List Fate) (port : ℕ) → outs ≡ Some all → failed ≡ Some port → AreBegun contents before resolution
    all writers

-- the devices of the writers
abbrev pub devices_of : {W : Type 0} → List (Writer W) → List (Counted W)
devices_of writers = map sink_of writers

-- each writer has a file header to write, and nothing else
abbrev pub AreFresh : {W : Type 0} → (W → Option (List ℕ)) → Resolution → List (Writer W) → Type 0
AreFresh contents resolution writers = (q : ℕ) (w : Writer _) → slice_get writers q ≡ Some w
    → Appends (told contents (sink_of w)) (text contents w) (file_header resolution) × (fault_of w ≡ None)

-- each device received the text of these fates, after what it received before the run
abbrev pub AreOutputs : {W : Type 0}
    → (W → Option (List ℕ)) → List (Option (List ℕ)) → Resolution → List Fate → List (Counted W) → Type 0
AreOutputs contents before resolution outs devices = (q : ℕ) (d : Counted _) (x : List ℕ) → slice_get devices q ≡ Some d
    → slice_get before q ≡ Some (Some x) → told contents d ≡ Some (x ++ output_of resolution q outs)

-- each device received a prefix of that text
abbrev pub AreBeginnings : {W : Type 0}
    → (W → Option (List ℕ)) → List (Option (List ℕ)) → Resolution → List Fate → List (Counted W) → Type 0
AreBeginnings contents before resolution outs devices = (q : ℕ) (d : Counted _) (x : List ℕ) → slice_get devices
    q ≡ Some d
    → slice_get before q ≡ Some (Some x) → IsBeginning (told contents d) (x ++ output_of resolution q outs)
