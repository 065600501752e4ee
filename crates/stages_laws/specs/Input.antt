-- The input of a run: the records of a capture, and how it ends after the last of them.
use Rattle.std.specs.Prelude.{◌≡◌, ℕ, List, Option, None, Some}
use Rattle.pcapio_laws.specs.Capture.{Packet, End, AreRecords}
use Rattle.pcapio_laws.specs.declared.format.ByteOrder.{ByteOrder}

pub record Input : Type 0 where
  pub packets : List Packet
  pub ending : End

-- the bytes after a file's header are these records and this end, if the bytes are known
abbrev pub IsInput : ByteOrder → Option (List ℕ) → Option Input → Type 0
IsInput order None input = input ≡ None
IsInput order (Some bytes) None = ⊥
IsInput order (Some bytes) (Some input) = AreRecords order bytes input.packets input.ending
