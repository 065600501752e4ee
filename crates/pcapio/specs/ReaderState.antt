-- How far a reader has got.
use Rattle.std.specs.Prelude.{ℕ, Option, Some, None, ⊤, Bool, true, false}
use Rattle.pcapio.specs.declared.record.Head.{Head}
use Rattle.pcapio.specs.declared.reader_state.ReaderState.{ReaderState}
use Rattle.pcapio.specs.declared.reader_state.ReaderState.TheVariants.{Between, Pending, Ended}

-- the head that was returned, whose bytes are still to come
abbrev pub head_of : ReaderState → Option Head
head_of (Pending head) = Some head
head_of _ = None

-- its captured length; 0 if there is none
abbrev pub captured_of : ReaderState → ℕ
captured_of (Pending head) = head.captured
captured_of _ = 0

-- neither at the end nor at a fault
abbrev pub GoesOn : ReaderState → Type 0
GoesOn Between = ⊤
GoesOn (Pending head) = ⊤
GoesOn _ = ⊥

-- the state of a reader after it read the bytes of a record, all of them or those that there are
abbrev pub after_bytes : Bool → ReaderState
after_bytes true = Between
after_bytes false = Ended true

-- whether the file was found to end inside a record
abbrev pub torn_of : ReaderState → Bool
torn_of (Ended torn) = torn
torn_of _ = false
