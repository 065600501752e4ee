-- How far the reader of a run has got in its input.
use Rattle.std.specs.Prelude.{◌≡◌, ◌≤◌, ◌<◌, ◌*◌, ◌+◌, ℕ, Bool, List, [], length, Option}
use Rattle.std.specs.Io.KnownBytes.{Keeps}
use Rattle.counters.specs.Counted.{counts_of}
use Rattle.counters.specs.Tally.{records_of}
use Rattle.pcapio.specs.Copy.{Stand}
use Rattle.pcapio.specs.Reader.{EndsSo, Takes, order_of, rest, state_of}
use Rattle.pcapio.specs.declared.reader.Reader.{Reader}
use Rattle.pcapio.specs.declared.reader_state.ReaderState.TheVariants.{Between, Pending}
use Rattle.pcapio_laws.specs.Capture.{Packet}
use Rattle.pcapio_laws.specs.declared.format.ByteOrder.{ByteOrder}
use Rattle.stages_laws.specs.Input.{Input, IsInput}
use Rattle.stages_laws.specs.Output.{stamped, oversize}
use Rattle.run_one.specs.InputTotals.{IsCount, AreOversize, HasEnd}
use Rattle.run_one.specs.declared.records.next_record.NextRecord.{NextRecord}
use Rattle.run_one.specs.declared.records.next_record.NextRecord.TheVariants.{Record, Oversize, Ended}
use Rattle.run_one.specs.declared.records.read_state.ReadState.{ReadState}

-- what was read is all of the input
pub record IsAll (input : Option Input) (room ports : ℕ) (progress : ReadState) (torn : Bool) : Type 0 where
  pub count : IsCount input room progress.count
  pub skipped : AreOversize input room ports progress.oversize
  pub end : HasEnd input torn
  pub wide : length progress.oversize.sent ≡ ports

module _ {R : Type 0} (remaining : R → Option (List ℕ)) where
  -- what comes next for a reader: the head of a record with at most 64 segments of bytes, a record with more, which was
  -- skipped, or the end
  abbrev pub IsAhead : ℕ → Reader R → Reader R → NextRecord → Type 0
  IsAhead room old new (Record head) =
      (state_of new ≡ Pending head) × Keeps (rest remaining old) (rest remaining new) × (head.captured ≤ 64 * room)
      × (head.captured ≤ 262144)
  IsAhead room old new Oversize = (packet : Packet) × Takes remaining old new packet
      × (64 * room < length packet.bytes) × (state_of new ≡ Between)
  IsAhead room old new (Ended torn) = EndsSo old.order (rest remaining old) torn

  module _ (input : Option Input) (room ports : ℕ) where
    -- the first records of the input were read, and counted, and the others are still to come
    pub record IsFront (order : ByteOrder) (all : Option (List ℕ)) (packets : List Packet) (reader : Reader R)
        (progress : ReadState) : Type 0 where
      pub whole : IsInput order all input
      pub stand : Stand order all (rest remaining reader) packets
      pub same : order_of reader ≡ order
      pub count : progress.count ≡ length (stamped room packets)
      pub skipped : progress.oversize ≡ counts_of ports (oversize room packets) []
      pub wide : length progress.oversize.sent ≡ ports
      pub many : progress.count + records_of progress.oversize ≡ length packets

    abbrev pub HasRead : Reader R → ReadState → Type 0
    HasRead reader progress = (order : ByteOrder) × (all : Option (List ℕ)) × (packets : List Packet)
        × IsFront order all packets reader progress

    -- the result of a look ahead
    abbrev pub Looks : Reader R → ReadState → ReadState → NextRecord → Type 0
    Looks new before after (Record head) = HasRead new after × (after ≡ before) × (state_of new ≡ Pending head)
        × (head.captured ≤ 64 * room) × (head.captured ≤ 262144)
    Looks new before after Oversize = HasRead new after × (state_of new ≡ Between) × (after.count ≡ before.count)
        × (records_of after.oversize ≡ records_of before.oversize + 1)
    Looks new before after (Ended torn) = IsAll input room ports after torn × (after ≡ before)
