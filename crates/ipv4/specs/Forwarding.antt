-- Forwarding of an IPv4 packet in an Ethernet frame: what becomes of a frame, as a function of its bytes.
use Rattle.std.specs.Prelude.{◌≡◌, ◌<◌, ◌≤◌, ℕ, ◌-◌, ◌==◌, Bool, not, List, [], ◌∷◌, ◌++◌, Option, Some, None, Result}
use Rattle.std.specs.Prelude.{Ok, Err, ok_or, length, take, drop, nat_lt, option_and_then, if◌then◌else◌}
use Rattle.lpm.specs.Prefixes.{Members}
use Rattle.lpm.specs.Match.{lookup_in}
use Rattle.ipv4.specs.declared.ports.Hop.{Hop}
use Rattle.ipv4.specs.declared.ports.Ports.{Ports}
use Rattle.ipv4.specs.declared.ports.Way.{Way}
use Rattle.ipv4.specs.declared.verdicts.Reason.{Reason}
use Rattle.ipv4.specs.declared.verdicts.Verdict.{Verdict}
use Rattle.ipv4.specs.Checksum.{ones_complement_sum, complement}
use Rattle.ipv4.specs.Fields.{is_tagged, offset_of, type_of, packet_of, version_of, header_len, total_len, time_to_live}
use Rattle.ipv4.specs.Fields.{destination_of, header_of, body_of, with_time_to_live, with_checksum}
use Rattle.ipv4.specs.Ports.{way_in, way_of}

-- The drops, in the order of the tests: the first row that holds decides. `wire` is the length of the frame on the
-- wire.
abbrev pub drops : List ℕ → ℕ → List (Bool × Reason)
drops frame wire =
    let packet = packet_of frame in
    -- two addresses and a type (IEEE 802.3)
    (nat_lt (length frame) 14, Reason.Short)
    -- after the type of a tag its value and another type (IEEE 802.1Q section 9.6)
    ∷ (nat_lt (length frame) (offset_of frame), Reason.Short)
    -- the type of IPv4, which a second tag is not (RFC 894)
    ∷ (not (type_of frame == 0x0800), Reason.NotIpv4)
    -- a header of at least 20 bytes: RFC 1812 section 5.2.2, test (1); its fields: RFC 791 section 3.1
    ∷ (nat_lt (length packet) 20, Reason.Short)
    -- version and header length: tests (3) and (4)
    ∷ (not (version_of packet == 4), Reason.BadHeader)
    ∷ (nat_lt (header_len packet) 20, Reason.BadHeader)
    ∷ (nat_lt (length packet) (header_len packet), Reason.Short)
    -- total length: test (5), and test (1) on the length on the wire
    ∷ (nat_lt (total_len packet) (header_len packet), Reason.BadLength)
    ∷ (nat_lt (wire - offset_of frame) (total_len packet), Reason.BadLength)
    -- header checksum: test (2)
    ∷ (not (ones_complement_sum (header_of packet) == 0xFFFF), Reason.BadChecksum)
    -- time to live: RFC 1812 section 5.3.1
    ∷ (nat_lt (time_to_live packet) 2, Reason.Expired)
    ∷ []

-- the reason of the first row that holds
abbrev pub first_reason : List (Bool × Reason) → Option Reason
first_reason [] = None
first_reason (row ∷ rows) = if row.0 then Some row.1 else first_reason rows

-- where the destination's longest match leads
abbrev pub way_from : Members → Ports → List ℕ → Option Way
way_from routes ports packet = option_and_then (way_of ports) (lookup_in routes (destination_of packet))

-- the way of a frame for which no row of the drops holds; without a way there is no route (RFC 1812 section 5.2.4)
abbrev pub way_or : Option Reason → Option Way → Result Way Reason
way_or (Some reason) way = Err reason
way_or None way = ok_or way Reason.NoRoute

unfoldable pub judged : Members → Ports → List ℕ → ℕ → Result Way Reason
judged routes ports frame wire = way_or (first_reason (drops frame wire)) (way_from routes ports (packet_of frame))

-- the same where its way was found elsewhere
unfoldable pub judged_along : Option Way → List ℕ → ℕ → Result Way Reason
judged_along way frame wire = way_or (first_reason (drops frame wire)) way

-- where a lookup of the destination found this hop, by the entries of hop numbers and the sources of the ports
abbrev pub judged_by : List Hop → List (List ℕ) → Option ℕ → List ℕ → ℕ → Result Way Reason
judged_by hops sources found frame wire = judged_along (option_and_then (way_in hops sources) found) frame wire

-- one less time to live (RFC 1812 section 5.3.1)
abbrev pub lowered : List ℕ → List ℕ
lowered header = with_time_to_live (time_to_live header - 1) header

-- the complement of the header's sum with checksum 0 (RFC 791 section 3.1)
abbrev pub renewed_checksum : List ℕ → ℕ
renewed_checksum header = complement (ones_complement_sum (with_checksum 0 header))

unfoldable pub renewed : List ℕ → List ℕ
renewed header = with_checksum (renewed_checksum (lowered header)) (lowered header)

-- the bytes before the packet, with the two addresses of the way
abbrev pub addressed : Way → List ℕ → List ℕ
addressed way front = way.to ++ way.from ++ drop 12 front

abbrev pub with_header : List ℕ → List ℕ → List ℕ
with_header header packet = header ++ body_of packet

-- the frame as it leaves: with new addresses and a new header, and every other byte unchanged
unfoldable pub rewritten : Way → List ℕ → List ℕ
rewritten way frame =
    addressed way (take (offset_of frame) frame)
    ++ with_header (renewed (header_of (packet_of frame))) (packet_of frame)

-- what becomes of a frame: the verdict, and its bytes
pub record Outcome : Type 0 where
  pub verdict : Verdict
  pub frame : List ℕ

-- a dropped frame is unchanged
abbrev pub outcome_of : List ℕ → Result Way Reason → Outcome
outcome_of frame (Err reason) = record { verdict = Verdict.Drop reason; frame = frame }
outcome_of frame (Ok way) = record { verdict = Verdict.Send way.port (is_tagged frame); frame = rewritten way frame }

abbrev pub forwarded : Members → Ports → List ℕ → ℕ → Outcome
forwarded routes ports frame wire = outcome_of frame (judged routes ports frame wire)

-- the same where its way was found elsewhere
abbrev pub forwarded_along : Option Way → List ℕ → ℕ → Outcome
forwarded_along way frame wire = outcome_of frame (judged_along way frame wire)

-- where a lookup of the destination found this hop
abbrev pub forwarded_by : List Hop → List (List ℕ) → Option ℕ → List ℕ → ℕ → Outcome
forwarded_by hops sources found frame wire = outcome_of frame (judged_by hops sources found frame wire)

-- the destination of the packet, where the type is that of IPv4 and a header of 20 bytes is there (RFC 894, RFC 791
-- section 3.1)
unfoldable pub destination_in : List ℕ → Option ℕ
destination_in frame =
    if nat_lt (length frame) 14
    then None
    else (if nat_lt (length (packet_of frame)) 20
    then None
    else (if type_of frame == 0x0800 then Some (destination_of (packet_of frame)) else None))

-- a packet whose header is valid, and which isn't at the end of its way: the case in which no row of the drops holds
pub record IsForwardable (packet : List ℕ) : Type 0 where
  pub version : version_of packet ≡ 4
  pub least : 20 ≤ header_len packet
  pub whole : header_len packet ≤ length packet
  pub summed : ones_complement_sum (header_of packet) ≡ 0xFFFF
  pub alive : 1 < time_to_live packet
