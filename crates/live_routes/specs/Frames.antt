-- Frames in memory of the caller's, and what becomes of them
use Rattle.std.specs.Prelude.{ℕ, ◌+◌, ◌<◌, ◌≤◌, List, length, map, Option, unwrap_or, nat_lt, count_by, if◌then◌else◌}
use Rattle.std.specs.Prelude.{⊤}
use Rattle.std.specs.List.{zip}
use denote.MutBor.{at_last}
use Rattle.lpm.specs.Match.{lookup_in}
use Rattle.ipv4.specs.declared.ports.Hop.{Hop}
use Rattle.ipv4.specs.declared.verdicts.Verdict.{Verdict}
use Rattle.ipv4.specs.declared.verdicts.Verdict.TheVariants.{Send, Drop}
use Rattle.ipv4.specs.Reasons.{number_of}
use Rattle.ipv4.specs.Forwarding.{Outcome, destination_in, forwarded_by}
use Rattle.live_routes.specs.Forwarding.{Forwarding}
use Rattle.live_routes.specs.Ports.{sources_of}
use Rattle.live_routes.specs.declared.ports.Port.{Port}
use Rattle.live_routes.specs.declared.frame.Frame.{Frame}

-- it had at least as many bytes on the wire as are there
abbrev pub IsWhole : Frame → Type 0
IsWhole f = length f.bytes.now ≤ f.wire

-- the port of a verdict is below 2^16
abbrev pub HasSmallPort : Verdict → Type 0
HasSmallPort (Send port tagged) = port < 65536
HasSmallPort (Drop reason) = ⊤

-- the number of a verdict: the port, with 2^16 for a tag, or 2^17 and the number of the reason
abbrev pub number_of_verdict : Verdict → ℕ
number_of_verdict (Send port tagged) = if tagged then port + 65536 else port
number_of_verdict (Drop reason) = 131072 + number_of reason

-- the address that is looked up for a frame
abbrev pub address_of : Frame → ℕ
address_of f = unwrap_or (destination_in f.bytes.now) 0

-- the frame with other bytes in the same place
abbrev pub with_bytes : Frame → List ℕ → Frame
with_bytes f bytes = record f { bytes = at_last f.bytes bytes }

-- what becomes of a frame whose destination's lookup found this hop: the number of its verdict, and the frame
abbrev pub found_number : List Hop → List (List ℕ) → Option ℕ → Frame → ℕ
found_number hops sources found f = number_of_verdict (forwarded_by hops sources found f.bytes.now f.wire).verdict

abbrev pub left_by : List Hop → List (List ℕ) → Option ℕ → Frame → Frame
left_by hops sources found f = with_bytes f (forwarded_by hops sources found f.bytes.now f.wire).frame

-- what becomes of a frame's bytes with these routes, next hops and ports: `forwarded` of ipv4, by the law
-- `a_looked_up_frame_is_forwarded` there
abbrev pub forwarded_in : Forwarding Hop Port → List ℕ → ℕ → Outcome
forwarded_in r frame wire =
    let found = lookup_in r.members (unwrap_or (destination_in frame) 0) in
    forwarded_by r.hops (sources_of r.ports) found frame wire

-- the number of the verdict on a frame, and the frame as it is left
abbrev pub verdict_by : Forwarding Hop Port → Frame → ℕ
verdict_by r f = number_of_verdict (forwarded_in r f.bytes.now f.wire).verdict

abbrev pub left : Forwarding Hop Port → Frame → Frame
left r f = with_bytes f (forwarded_in r f.bytes.now f.wire).frame

-- of several frames, each with what its lookup found
abbrev pub found_numbers : List Hop → List (List ℕ) → List (Option ℕ) → List Frame → List ℕ
found_numbers hops sources found frames = map (λ p. found_number hops sources p.0 p.1) (zip found frames)

abbrev pub all_left_by : List Hop → List (List ℕ) → List (Option ℕ) → List Frame → List Frame
all_left_by hops sources found frames = map (λ p. left_by hops sources p.0 p.1) (zip found frames)

-- how many of these numbers of verdicts are of frames that are sent
abbrev pub sent_count : List ℕ → ℕ
sent_count verdicts = count_by (λ v. nat_lt v 131072) verdicts
