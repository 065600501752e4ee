-- The report of a run: a line for each number.
use Rattle.std.specs.Prelude.{ℕ, ◌+◌, codes, decimal, Bool, List, [], ◌∷◌, ◌++◌, slice_index, if◌then◌else◌}
use Rattle.counters.specs.Tally.{Tally, records_of}

-- a name, a space and a number
abbrev pub line : List ℕ → ℕ → List ℕ
line name n = name ++ codes " " ++ decimal n ++ codes "\n"

-- a line for each port, from that one on
abbrev pub port_lines : ℕ → List ℕ → List ℕ
port_lines port [] = []
port_lines port (n ∷ counts) = line (codes "port " ++ decimal port) n ++ port_lines (port + 1) counts

-- the reasons, in the order of their numbers
abbrev pub reason_lines : List ℕ → List ℕ
reason_lines dropped =
    line (codes "short") (slice_index dropped 0)
    ++ line (codes "not-ipv4") (slice_index dropped 1)
    ++ line (codes "bad-header") (slice_index dropped 2)
    ++ line (codes "bad-length") (slice_index dropped 3)
    ++ line (codes "bad-checksum") (slice_index dropped 4)
    ++ line (codes "expired") (slice_index dropped 5)
    ++ line (codes "no-route") (slice_index dropped 6)

abbrev pub torn_line : Bool → List ℕ
torn_line torn = if torn then codes "torn yes\n" else codes "torn no\n"

-- the lines for these numbers
unfoldable pub report_lines : ℕ → ℕ → List ℕ → List ℕ → ℕ → Bool → List ℕ
report_lines records oversize sent dropped tagged torn =
    line (codes "records") records
    ++ line (codes "oversize") oversize
    ++ port_lines 0 sent
    ++ reason_lines dropped
    ++ line (codes "tagged") tagged
    ++ torn_line torn

abbrev pub report_of : Tally → Bool → List ℕ
report_of t torn = report_lines (records_of t) t.oversize t.sent t.dropped t.tagged torn
