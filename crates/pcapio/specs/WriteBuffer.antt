-- What a writer holds back from its device.
use Rattle.std.specs.Prelude.{ℕ, List, Option, take, ◌++◌}
use Rattle.std.specs.Io.KnownBytes.{Keeps, Appends, append_known}
use Rattle.mbuf.specs.Buffer.{Buffer}
use Rattle.mbuf.specs.Chain.{bytes_of}
use Rattle.pcapio.specs.Begin.{Begins}
use Rattle.pcapio.specs.Counted.{told}
use Rattle.pcapio.specs.declared.write_buffer.WriteBuffer.{WriteBuffer}
use Rattle.pcapio.specs.declared.counted.Counted.{Counted}

-- the bytes that are waiting in the buffer
abbrev pub waiting : WriteBuffer → List ℕ
waiting behind = take behind.len behind.buffer.items

module _ {W : Type 0} (contents : W → Option (List ℕ)) where
  -- what was written to the device, followed by what is waiting in the buffer, if the first is known
  abbrev pub unsent : WriteBuffer → Counted W → Option (List ℕ)
  unsent behind device = append_known (told contents device) (waiting behind)

  -- these bytes were added
  abbrev pub Adds : WriteBuffer → Counted W → WriteBuffer → Counted W → List ℕ → Type 0
  Adds b d b' d' bytes = Appends (unsent b d) (unsent b' d') bytes

  -- a prefix of everything, followed by these bytes, has been written to the device
  abbrev pub BeginsToAdd : WriteBuffer → Counted W → Counted W → List ℕ → Type 0
  BeginsToAdd b d d' bytes = Begins (told contents d') (append_known (unsent b d) bytes)

  -- everything, or a prefix of it, has been written to the device
  abbrev pub SendsAll : WriteBuffer → Counted W → Counted W → Type 0
  SendsAll b d d' = Keeps (unsent b d) (told contents d')

  abbrev pub BeginsToSend : WriteBuffer → Counted W → Counted W → Type 0
  BeginsToSend b d d' = Begins (told contents d') (unsent b d)

  -- nothing was added
  abbrev pub KeepsUnsent : WriteBuffer → Counted W → WriteBuffer → Counted W → Type 0
  KeepsUnsent b d b' d' = Keeps (unsent b d) (unsent b' d')

  -- a header was added, followed by the bytes of a chain
  abbrev pub AddsRecord : WriteBuffer → Counted W → WriteBuffer → Counted W → List ℕ → List Buffer → Type 0
  AddsRecord b d b' d' head chain = Adds b d b' d' (head ++ bytes_of chain)

  abbrev pub BeginsToAddRecord : WriteBuffer → Counted W → Counted W → List ℕ → List Buffer → Type 0
  BeginsToAddRecord b d d' head chain = BeginsToAdd b d d' (head ++ bytes_of chain)
