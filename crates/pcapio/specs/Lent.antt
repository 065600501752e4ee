-- A reader that lends the bytes of a record in its buffer.
use Rattle.std.specs.Prelude.{◌≡◌, ◌+◌, ◌≤◌, ℕ, List, length, Option, Some}
use Rattle.std.specs.Borrow.{Lends, RattleType, MutBor, Fml, u8, Array}
use Rattle.std.proofs.lemmas.Option.{none-some}
use Rattle.pcapio.specs.BufferLends.{consumed}
use Rattle.pcapio.specs.ReadBuffer.{items}
use Rattle.pcapio.specs.Reader.{IsSameFile, TakesBody, pending_of, source_of, state_of}
use Rattle.pcapio.specs.ReaderState.{captured_of}
use Rattle.pcapio.specs.contracts.reader.Reader.{the_row}
use Rattle.pcapio.specs.declared.reader.Reader.{Reader}
use Rattle.pcapio.specs.declared.reader_state.ReaderState.TheVariants.{Between}
use Rattle.pcapio.specs.declared.record.Head.{Head}

-- a head is pending, and the header and all bytes of its record are in the reader's buffer
pub record IsBuffered {R : Type 0} (r : Reader R) : Type 0 where
  pub head : Head
  pub pending : pending_of r ≡ Some head
  pub whole : 16 + head.captured ≤ length (items r.ahead)

-- the bytes in the reader's buffer that are still to come
abbrev pub buffered_of : {R : Type 0} → Reader R → List ℕ
buffered_of r = items r.ahead

-- the reader after it lent the bytes of the pending record, where these were written
abbrev pub after_lent : {R : Type 0} → Reader R → List ℕ → Reader R
after_lent r written =
    record r {
      ahead = consumed r.ahead 16 (captured_of r.state) written;
      state = Between;
      pending = λ head is. absurd (none-some head is);
    }

abbrev pub LendsBody : (R : RattleType) → MutBor (Reader R.Denot) → MutBor (List ℕ) → Fml
LendsBody R r bytes = Lends (the_row R) (Array u8 0) r bytes (after_lent r.now)

-- the pending record was taken, and these were its bytes; the device wasn't read
pub record TakesLent {R : Type 0} (remaining : R → Option (List ℕ)) (old new : Reader R) (bytes : List ℕ) : Type 0 where
  pub file : IsSameFile old new
  pub body : TakesBody remaining old new bytes
  pub state : state_of new ≡ Between
  pub device : source_of new ≡ source_of old

-- so it is whatever was written, as long as these bytes are as many
abbrev pub TakesInPlace : {R : Type 0} → (R → Option (List ℕ)) → Reader R → List ℕ → Type 0
TakesInPlace remaining r bytes = (written : List ℕ) → length written ≡ length bytes
    → TakesLent remaining r (after_lent r written) bytes
