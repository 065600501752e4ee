-- What was read from a device or written to it, and how often it failed.
use Rattle.std.specs.Prelude.{◌≡◌, ℕ, ◌+◌, ◌-◌, ◌^◌, min, List, Option, take, drop}
use Rattle.std.specs.Io.KnownBytes.{Consumes, Appends, append_known}
use Rattle.pcapio.specs.Begin.{Begins}
use Rattle.pcapio.specs.declared.counted.Counted.{Counted}

-- the device that is counted
abbrev pub device_of : {D : Type 0} → Counted D → D
device_of counted = counted.device

-- how often it failed
abbrev pub failures_of : {D : Type 0} → Counted D → ℕ
failures_of counted = counted.failures

-- the bytes that a reader will return from here on, if they are known
abbrev pub to_come : {R : Type 0} → (R → Option (List ℕ)) → Counted R → Option (List ℕ)
to_come remaining counted = remaining counted.device

-- these n bytes of a buffer, from byte `at` on, were read
abbrev pub GivesAt : {R : Type 0} → (R → Option (List ℕ)) → Counted R → Counted R → List ℕ → ℕ → ℕ → Type 0
GivesAt remaining old new buffer at n =
    Consumes (to_come remaining old) (to_come remaining new) (take n (drop at buffer))

-- the bytes that were written to a writer, if they are known
abbrev pub told : {W : Type 0} → (W → Option (List ℕ)) → Counted W → Option (List ℕ)
told contents counted = contents counted.device

-- these bytes, or a prefix of them, were written to a writer
abbrev pub Tells : {W : Type 0} → (W → Option (List ℕ)) → Counted W → Counted W → List ℕ → Type 0
Tells contents old new bytes = Appends (told contents old) (told contents new) bytes

abbrev pub BeginsToTell : {W : Type 0} → (W → Option (List ℕ)) → Counted W → Counted W → List ℕ → Type 0
BeginsToTell contents old new bytes = Begins (told contents new) (append_known (told contents old) bytes)

-- the count of failures increased, unless it is at its maximum
abbrev pub HasFailed : {D : Type 0} → Counted D → Counted D → Type 0
HasFailed old new = new.failures ≡ min (old.failures + 1) (2 ^ 64 - 1)

abbrev pub HasNotFailed : {D : Type 0} → Counted D → Counted D → Type 0
HasNotFailed old new = new.failures ≡ old.failures
