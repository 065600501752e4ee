-- Worked counts and reports, computed by the definitions.
use Rattle.std.proofs.Common.{◌≡◌, codes, true, false, List, [], ◌∷◌, refl}
use Rattle.std.specs.Fmt.{digits}
use Rattle.ipv4.specs.declared.Verdict.{Verdict}
use Rattle.ipv4.specs.declared.Verdict.TheVariants.{Send, Drop}
use Rattle.ipv4.specs.declared.Reason.TheVariants.{Short, NotIpv4, BadHeader, BadLength, BadChecksum, Expired, NoRoute}
use Rattle.counters.specs.Tally.{records_of, gathered}
use Rattle.counters.specs.Counted.{counts_of}
use Rattle.counters.specs.Report.{report_lines, report_of}

-- each verdict in its own place
abbrev verdicts : List Verdict
verdicts =
    Send 0 false ∷ Send 1 true ∷ Send 1 false ∷ Drop Short ∷ Drop NotIpv4 ∷ Drop NotIpv4 ∷ Drop BadHeader ∷ Drop BadHeader ∷ Drop BadHeader
    ∷ Drop BadLength ∷ Drop BadChecksum ∷ Drop Expired ∷ Drop Expired ∷ Drop NoRoute ∷ []

pub each_in_its_place : counts_of 3 4 verdicts
    ≡ record { oversize = 4; sent = 1 ∷ 2 ∷ 0 ∷ []; dropped = 1 ∷ 2 ∷ 3 ∷ 1 ∷ 1 ∷ 2 ∷ 1 ∷ []; tagged = 1 }
each_in_its_place = refl

pub all_records : records_of (counts_of 3 4 verdicts) ≡ 18
all_records = refl

pub parts : gathered (counts_of 2 1 (Send 0 true ∷ []) ∷ counts_of 2 0 (Send 1 false ∷ Drop Short ∷ []) ∷ counts_of 2 2 [] ∷ [])
    ≡ counts_of 2 3 (Send 0 true ∷ Send 1 false ∷ Drop Short ∷ [])
parts = refl

-- the report of one sent frame and a torn capture
pub one_sent : report_of (counts_of 1 0 (Send 0 false ∷ [])) true ≡ codes "records 1\noversize 0\nport 0 1\nshort 0\nnot-ipv4 0\nbad-header 0\nbad-length 0\nbad-checksum 0\nexpired 0\nno-route 0\ntagged 0\ntorn yes\n"
unfolding report_lines digits
one_sent = refl

-- a different number in each line
pub all_lines : report_of (record { oversize = 2; sent = 3 ∷ 40 ∷ []; dropped = 5 ∷ 6 ∷ 7 ∷ 8 ∷ 9 ∷ 10 ∷ 11 ∷ []; tagged = 12 }) false
    ≡ codes "records 101\noversize 2\nport 0 3\nport 1 40\nshort 5\nnot-ipv4 6\nbad-header 7\nbad-length 8\nbad-checksum 9\nexpired 10\nno-route 11\ntagged 12\ntorn no\n"
unfolding report_lines digits
all_lines = refl

-- numbers of more than 32 bits
pub great_lines : report_of (record { oversize = 4294967296; sent = 4294967297 ∷ []; dropped = 4294967298 ∷ 0 ∷ 0 ∷ 0 ∷ 0 ∷ 0 ∷ 0 ∷ []; tagged = 4294967297 }) false
    ≡ codes "records 12884901891\noversize 4294967296\nport 0 4294967297\nshort 4294967298\nnot-ipv4 0\nbad-header 0\nbad-length 0\nbad-checksum 0\nexpired 0\nno-route 0\ntagged 4294967297\ntorn no\n"
unfolding report_lines digits
great_lines = refl
