-- What a reader has read ahead of its caller.
use Rattle.std.specs.Prelude.{◌≡◌, ℕ, ◌+◌, ◌<◌, min, List, Option, Result, IfSome, length, slice_range}
use Rattle.std.specs.Vec.{with_items_from}
use Rattle.std.proofs.Math.Nat.{min-le_right}
use Rattle.std.specs.Io.KnownBytes.{prepend_known, Keeps, Consumes, ReadConsumes}
use Rattle.pcapio.specs.declared.read_buffer.ReadBuffer.{ReadBuffer}
use Rattle.pcapio.specs.declared.counted.Counted.{Counted}
use Rattle.pcapio.specs.Counted.{to_come}

-- the bytes that were read and not yet consumed
abbrev pub items : ReadBuffer → List ℕ
items ahead = slice_range ahead.buffer.items ahead.start ahead.end

-- the buffer without its first n bytes
abbrev pub past : ReadBuffer → ℕ → ReadBuffer
past ahead n = record ahead { start = min (ahead.start + n) ahead.end; ordered = min-le_right (ahead.start + n) ahead.end }

-- the buffer with these bytes written over those from an index on
abbrev pub with_part : ReadBuffer → ℕ → List ℕ → ReadBuffer
with_part ahead from bytes = record ahead { buffer = with_items_from ahead.buffer from bytes }

module _ {R : Type 0} (remaining : R → Option (List ℕ)) where
  -- the bytes that were not yet consumed, if those of the device are known
  abbrev pub unread : ReadBuffer → Counted R → Option (List ℕ)
  unread ahead device = prepend_known (items ahead) (to_come remaining device)

  -- fewer than n of them are left
  abbrev pub HasFewer : ℕ → ReadBuffer → Counted R → Type 0
  HasFewer n ahead device = IfSome (unread ahead device) (λ bytes. length bytes < n)

  -- none of them was consumed
  abbrev pub KeepsAll : ReadBuffer → Counted R → ReadBuffer → Counted R → Type 0
  KeepsAll a d a' d' = Keeps (unread a d) (unread a' d')

  -- these were returned
  abbrev pub Gives : ReadBuffer → Counted R → ReadBuffer → Counted R → List ℕ → Type 0
  Gives a d a' d' bytes = Consumes (unread a d) (unread a' d') bytes

  -- n of them were skipped
  abbrev pub LetsGo : ReadBuffer → Counted R → ReadBuffer → Counted R → ℕ → Type 0
  LetsGo a d a' d' n = (bytes : List ℕ) × (length bytes ≡ n) × Gives a d a' d' bytes

  -- as many as the result says were read into a buffer; 0 only if there are none or it has no room
  abbrev pub ReadGives : {E : Type 0} → ReadBuffer → Counted R → ReadBuffer → Counted R → Result ℕ E → List ℕ → Type 0
  ReadGives a d a' d' answer buffer = ReadConsumes (unread a d) (unread a' d') answer buffer
