-- A read buffer after some of its bytes were consumed and lent for writing.
use Rattle.std.specs.Prelude.{ℕ, ◌+◌, List}
use Rattle.std.specs.Borrow.{Lends, MutBor, Fml, u8, Array}
use Rattle.pcapio.specs.ReadBuffer.{past, with_part}
use Rattle.pcapio.specs.declared.read_buffer.ReadBuffer.{ReadBuffer}
use Rattle.pcapio.specs.contracts.read_buffer.ReadBuffer.{the_row}

-- the first bytes, `before` of them, and the next n were consumed, and what was written is where the latter were
abbrev pub consumed : ReadBuffer → ℕ → ℕ → List ℕ → ReadBuffer
consumed ahead before n written = with_part (past ahead (before + n)) (ahead.start + before) written

abbrev pub LendsFront : MutBor ReadBuffer → ℕ → ℕ → MutBor (List ℕ) → Fml
LendsFront ahead before n part = Lends the_row (Array u8 0) ahead part (consumed ahead.now before n)
