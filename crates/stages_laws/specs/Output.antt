-- What a run makes of the records of its input: which of them it takes, what becomes of each, and what is written to
-- each port
use Rattle.std.specs.Prelude.{ℕ, ◌*◌, nat_le, nat_lt, Bool, List, length, map}
use Rattle.std.specs.List.{filter, count_by}
use Rattle.counters.specs.Counted.{counts_of, is_sent_by}
use Rattle.counters.specs.Tally.{Tally}
use Rattle.ipv4.specs.Forwarding.{Outcome}
use Rattle.ipv4.specs.declared.verdicts.Verdict.{Verdict}
use Rattle.pcapio_laws.specs.Capture.{Packet}
use Rattle.pcapio_laws.specs.Text.{file_text}
use Rattle.pcapio_laws.specs.declared.format.Resolution.{Resolution}

-- what becomes of a frame with this length on the wire: its verdict, and the frame as it leaves
abbrev pub Forwarding : Type 0
Forwarding = List ℕ → ℕ → Outcome

-- whether a record fits into the segments of one packet, at most 64 of `room` bytes each; otherwise it is oversize
abbrev pub fits : ℕ → Packet → Bool
fits room packet = nat_le (length packet.bytes) (64 * room)

-- the records that are numbered, from 0, in the order of the input
abbrev pub stamped : ℕ → List Packet → List Packet
stamped room packets = filter (fits room) packets

abbrev pub is_oversize : ℕ → Packet → Bool
is_oversize room packet = nat_lt (64 * room) (length packet.bytes)

abbrev pub oversize : ℕ → List Packet → ℕ
oversize room packets = count_by (is_oversize room) packets

-- what becomes of a record: its verdict, and the record as it leaves
pub record Fate : Type 0 where
  pub verdict : Verdict
  pub packet : Packet

abbrev pub fate_by : Packet → Outcome → Fate
fate_by packet it = record { verdict = it.verdict; packet = record packet { bytes = it.frame } }

abbrev pub fate : Forwarding → Packet → Fate
fate forwarding packet = fate_by packet (forwarding packet.bytes packet.wire)

-- what becomes of each numbered record, in order
abbrev pub fates : Forwarding → ℕ → List Packet → List Fate
fates forwarding room packets = map (fate forwarding) (stamped room packets)

abbrev pub verdicts : List Fate → List Verdict
verdicts outs = map (λ o. o.verdict) outs

-- the records that are written to port q, in order
abbrev pub records_at : ℕ → List Fate → List Packet
records_at q outs = map (λ o. o.packet) (filter (λ o. is_sent_by q o.verdict) outs)

-- the bytes that are written to port q: a capture of these records, with the resolution of the input
abbrev pub output_of : Resolution → ℕ → List Fate → List ℕ
output_of resolution q outs = file_text resolution (records_at q outs)

-- the counts of these records, with this many ports: the oversize ones, and the verdicts of the others
abbrev pub tally_of : ℕ → Forwarding → ℕ → List Packet → Tally
tally_of ports forwarding room packets =
    counts_of ports (oversize room packets) (verdicts (fates forwarding room packets))
