-- Worked rows: records, and what a run makes of them.
use Rattle.std.specs.Prelude.{ℕ, zero, suc, List, [], ◌∷◌, ◌++◌, true, false, replicate}
use Rattle.ipv4.specs.declared.verdicts.Reason.TheVariants.{NoRoute}
use Rattle.ipv4.specs.declared.verdicts.Verdict.TheVariants.{Send, Drop}
use Rattle.pcapio_laws.specs.Capture.{Packet}
use Rattle.stages_laws.specs.Output.{Forwarding}

-- sent through port 0 or 1, by the first byte, which is replaced by the length on the wire; otherwise dropped
abbrev pub by_first : Forwarding
by_first (zero ∷ frame) wire = record { verdict = Send 0 false; frame = wire ∷ frame }
by_first (suc zero ∷ frame) wire = record { verdict = Send 1 true; frame = wire ∷ frame }
by_first frame wire = record { verdict = Drop NoRoute; frame = frame }

-- a record with these bytes, whose times and lengths are all different
abbrev pub packet : List ℕ → Packet
packet bytes = record { seconds = 1; fraction = 5; wire = 34; bytes = bytes }

-- a record with this many bytes
abbrev pub packet_of_len : ℕ → Packet
packet_of_len n = packet (replicate n 0)

-- the 34 bytes of a frame, as it leaves
abbrev pub leaving : List ℕ
leaving =
    2 ∷ 0 ∷ 0 ∷ 0 ∷ 0 ∷ 32 ∷ 2 ∷ 0 ∷ 0 ∷ 0 ∷ 0 ∷ 16 ∷ 8 ∷ 0 ∷ 69 ∷ 0 ∷ 0 ∷
    20 ∷ 0 ∷ 0 ∷ 0 ∷ 0 ∷ 63 ∷ 17 ∷ 101 ∷ 213 ∷ 10 ∷ 0 ∷ 0 ∷ 1 ∷ 10 ∷ 1 ∷ 2 ∷ 3 ∷ []

-- whatever comes is sent through port 0 as that frame
abbrev pub always : Forwarding
always frame wire = record { verdict = Send 0 false; frame = leaving }

-- the nanosecond capture of that one frame
abbrev pub whole_output : List ℕ
whole_output =
    (77 ∷ 60 ∷ 178 ∷ 161 ∷ 2 ∷ 0 ∷ 4 ∷ 0 ∷ 0 ∷ 0 ∷ 0 ∷ 0 ∷ 0 ∷ 0 ∷ 0 ∷ 0 ∷ 0 ∷ 0 ∷ 4 ∷ 0 ∷ 1 ∷ 0 ∷ 0 ∷ 0 ∷ [])
    ++ (1 ∷ 0 ∷ 0 ∷ 0 ∷ 5 ∷ 0 ∷ 0 ∷ 0 ∷ 34 ∷ 0 ∷ 0 ∷ 0 ∷ 34 ∷ 0 ∷ 0 ∷ 0 ∷ []) ++ leaving

-- five records: to port 0, to port 1, an oversize one, dropped, to port 0 again; a segment has room for one byte
abbrev pub five : List Packet
five =
    packet (0 ∷ 7 ∷ []) ∷ packet (1 ∷ 8 ∷ []) ∷ packet_of_len 65 ∷ packet (9 ∷ 9 ∷ []) ∷ packet (0 ∷ 6 ∷ []) ∷ []
