-- Worked frames, computed by the definitions: each row of the table of drops, each pair of tests that both hold, and
-- what is sent.
use Rattle.std.proofs.Common.{◌≡◌, ℕ, List, [], ◌∷◌, ◌++◌, true, false, take, replicate, Option, Some, None, slice_get, get_or, refl, sym, ap, ◌∙◌, arith}
use Rattle.std.proofs.lemmas.Option.{none-some, same_Some}
use Rattle.std.specs.Option.{option_map, option_and_then}
use Rattle.lpm.specs.Match.{lookup_in}
use Rattle.lpm.specs.Prefixes.{Members}
use Rattle.ipv4.specs.Prefetched.{AreLookedUp, IsPrefetched}
use Rattle.ipv4.specs.declared.ports.Hop.{Hop}
use Rattle.ipv4.specs.declared.ports.Ports.{Ports}
use Rattle.ipv4.specs.declared.ports.Way.{Way}
use Rattle.ipv4.specs.declared.verdicts.Reason.{Reason}
use Rattle.ipv4.specs.declared.verdicts.Verdict.{Verdict}
use Rattle.ipv4.specs.Checksum.{ones_complement_sum, complement}
use Rattle.ipv4.specs.Fields.{destination_of}
use Rattle.ipv4.specs.Ports.{way_of, leaving}
use Rattle.ipv4.specs.Forwarding.{drops, first_reason, way_from, way_or, judged, outcome_of, forwarded, renewed, rewritten}

-- a header from 10.0.0.1 to 10.1.2.3 with protocol 17: its first byte, total length, time to live and checksum
header : ℕ → ℕ → ℕ → ℕ → ℕ → List ℕ
header first total time high low =
    first ∷ 0 ∷ 0 ∷ total ∷ 0 ∷ 0 ∷ 0 ∷ 0 ∷ time ∷ 0x11 ∷ high ∷ low ∷ 0x0a ∷ 0 ∷ 0 ∷ 0x01 ∷ 0x0a ∷ 0x01 ∷ 0x02 ∷ 0x03 ∷ []

to : List ℕ
to = 2 ∷ 0 ∷ 0 ∷ 0 ∷ 0 ∷ 0x20 ∷ []

from : List ℕ
from = 2 ∷ 0 ∷ 0 ∷ 0 ∷ 0 ∷ 0x10 ∷ []

-- a frame between two addresses
plain : List ℕ → List ℕ
plain packet = (1 ∷ 2 ∷ 3 ∷ 4 ∷ 5 ∷ 6 ∷ 7 ∷ 8 ∷ 9 ∷ 10 ∷ 11 ∷ 12 ∷ 0x08 ∷ 0x00 ∷ []) ++ packet

tagged : List ℕ → List ℕ
tagged packet = (1 ∷ 2 ∷ 3 ∷ 4 ∷ 5 ∷ 6 ∷ 7 ∷ 8 ∷ 9 ∷ 10 ∷ 11 ∷ 12 ∷ 0x81 ∷ 0x00 ∷ 0x20 ∷ 0x05 ∷ 0x08 ∷ 0x00 ∷ []) ++ packet

right : List ℕ
right = header 0x45 0x14 0x40 0x64 0xd5

reason_of : List ℕ → ℕ → Option Reason
reason_of frame wire = first_reason (drops frame wire)

-- sums and their complements
sums : (ones_complement_sum (header 0x45 0x14 0x40 0 0) ≡ 0x9b2a) × (complement 0x9b2a ≡ 0x64d5)
    × (ones_complement_sum (header 0x45 0x14 0x3f 0 0) ≡ 0x9a2a) × (complement 0x9a2a ≡ 0x65d5)
    × (ones_complement_sum (header 0x45 0x14 0x01 0 0) ≡ 0x5c2a) × (complement 0x5c2a ≡ 0xa3d5)
    × (ones_complement_sum right ≡ 0xFFFF)
unfolding ones_complement_sum header right
sums = (refl, refl, refl, refl, refl, refl, refl)

-- the frame with another type
typed : ℕ → ℕ → List ℕ → List ℕ
typed high low packet = take 12 (plain packet) ++ (high ∷ low ∷ packet)

-- a header of 24 bytes, whose option is the last word
optional : ℕ → ℕ → List ℕ
optional high low = header 0x46 0x18 0x40 high low ++ (1 ∷ 1 ∷ 1 ∷ 0 ∷ [])

-- each row of the table, in its order, and none
each_row : (reason_of (take 13 (plain right)) 13 ≡ Some Reason.Short)
    × (reason_of (take 17 (tagged right)) 17 ≡ Some Reason.Short)
    × (reason_of (typed 0x86 0xdd right) 34 ≡ Some Reason.NotIpv4)
    × (reason_of (take 33 (plain right)) 33 ≡ Some Reason.Short)
    × (reason_of (plain (header 0x65 0x14 0x40 0x44 0xd5)) 34 ≡ Some Reason.BadHeader)
    × (reason_of (plain (header 0x44 0x14 0x40 0x65 0xd5)) 34 ≡ Some Reason.BadHeader)
    × (reason_of (plain (header 0x46 0x18 0x40 0x63 0xd1)) 38 ≡ Some Reason.Short)
    × (reason_of (plain (header 0x45 0x13 0x40 0x64 0xd6)) 34 ≡ Some Reason.BadLength)
    × (reason_of (plain (header 0x45 0x15 0x40 0x64 0xd4)) 34 ≡ Some Reason.BadLength)
    × (reason_of (plain (header 0x45 0x14 0x40 0x64 0xd4)) 34 ≡ Some Reason.BadChecksum)
    × (reason_of (plain (header 0x45 0x14 0x01 0xa3 0xd5)) 34 ≡ Some Reason.Expired)
    × (reason_of (plain (header 0x45 0x14 0x00 0xa4 0xd5)) 34 ≡ Some Reason.Expired)
    × (reason_of (plain right) 34 ≡ None)
unfolding ones_complement_sum header right plain tagged typed reason_of
each_row = (refl, refl, refl, refl, refl, refl, refl, refl, refl, refl, refl, refl, refl)

-- both of two tests hold, of rows that have different reasons: the earlier one decides
each_two : (reason_of (take 13 (typed 0x86 0xdd right)) 13 ≡ Some Reason.Short)
    × (reason_of (take 20 (typed 0x86 0xdd right)) 20 ≡ Some Reason.NotIpv4)
    × (reason_of (take 33 (plain (header 0x65 0x14 0x40 0x44 0xd5))) 33 ≡ Some Reason.Short)
    × (reason_of (plain (header 0x6f 0x3c 0x40 0x64 0xd5)) 34 ≡ Some Reason.BadHeader)
    × (reason_of (plain (header 0x4f 0x13 0x40 0x64 0xd5)) 34 ≡ Some Reason.Short)
    × (reason_of (plain (header 0x45 0x15 0x40 0x64 0xd5)) 34 ≡ Some Reason.BadLength)
    × (reason_of (plain (header 0x45 0x14 0x01 0x64 0xd5)) 34 ≡ Some Reason.BadChecksum)
unfolding ones_complement_sum header right plain typed reason_of
each_two = (refl, refl, refl, refl, refl, refl, refl)

-- a header with this identification and checksum
numbered : ℕ → ℕ → ℕ → ℕ → ℕ → List ℕ
numbered high low time sum_high sum_low =
    0x45 ∷ 0 ∷ 0 ∷ 0x14 ∷ high ∷ low ∷ 0 ∷ 0 ∷ time ∷ 0x11 ∷ sum_high ∷ sum_low ∷ 0x0a ∷ 0 ∷ 0 ∷ 0x01 ∷ 0x0a ∷ 0x01 ∷ 0x02 ∷ 0x03 ∷ []

-- frames with a tag, with a second one, with correct options and with options that are left out of the sum, with 0xFFFF
-- for checksum 0, and with fewer bytes captured than were on the wire
others : (reason_of (tagged right) 38 ≡ None)
    × (reason_of (take 37 (tagged right)) 37 ≡ Some Reason.Short)
    × (reason_of (tagged (header 0x45 0x15 0x40 0x64 0xd4)) 38 ≡ Some Reason.BadLength)
    × (reason_of (take 16 (tagged right) ++ (0x81 ∷ 0x00 ∷ right) ++ (0 ∷ 0 ∷ 0 ∷ 0 ∷ [])) 42 ≡ Some Reason.NotIpv4)
    × (reason_of (plain (optional 0x61 0xd0)) 38 ≡ None)
    × (reason_of (plain (optional 0x63 0xd1)) 38 ≡ Some Reason.BadChecksum)
    × (reason_of (plain (numbered 0x64 0xd5 0x40 0xff 0xff)) 34 ≡ None)
    × (reason_of (plain right) 1514 ≡ None)
unfolding ones_complement_sum header numbered right plain tagged optional reason_of
others = (refl, refl, refl, refl, refl, refl, refl, refl)

-- both bytes of a type matter: ARP, a type that ends like that of IPv4, one that begins like that of a tag, and the
-- tags of 802.1ad and before it are different
before : ℕ → ℕ → List ℕ
before high low = typed high low (0x00 ∷ 0x05 ∷ 0x08 ∷ 0x00 ∷ right)

other_types : (reason_of (typed 0x08 0x06 right) 34 ≡ Some Reason.NotIpv4)
    × (reason_of (typed 0x86 0x00 right) 34 ≡ Some Reason.NotIpv4)
    × (reason_of (before 0x81 0x37) 38 ≡ Some Reason.NotIpv4)
    × (reason_of (before 0x88 0xa8) 38 ≡ Some Reason.NotIpv4)
    × (reason_of (before 0x91 0x00) 38 ≡ Some Reason.NotIpv4)
unfolding ones_complement_sum header right plain typed before reason_of
other_types = (refl, refl, refl, refl, refl)

-- the versions before and after, and the least and the greatest time to live that are sent
beside : (reason_of (plain (header 0x35 0x14 0x40 0x74 0xd5)) 34 ≡ Some Reason.BadHeader)
    × (reason_of (plain (header 0x55 0x14 0x40 0x54 0xd5)) 34 ≡ Some Reason.BadHeader)
    × (reason_of (plain (header 0x45 0x14 0x02 0xa2 0xd5)) 34 ≡ None)
    × (reason_of (plain (header 0x45 0x14 0xff 0xa5 0xd4)) 34 ≡ None)
unfolding ones_complement_sum header plain reason_of
beside = (refl, refl, refl, refl)

-- a header whose other fields are all different: a service, an identification, a fragment in the middle with more after
-- it, TCP, and addresses of a private net and of a group
foreign : ℕ → ℕ → ℕ → List ℕ
foreign time high low =
    0x45 ∷ 0xb8 ∷ 0 ∷ 0x14 ∷ 0x12 ∷ 0x34 ∷ 0x20 ∷ 0xb9 ∷ time ∷ 0x06 ∷ high ∷ low ∷ 0xc0 ∷ 0xa8 ∷ 0x07 ∷ 0x09 ∷ 0xe0 ∷ 0 ∷ 0 ∷ 0xfb ∷ []

-- a header of 60 bytes
longest : List ℕ
longest = header 0x4f 0x3c 0x40 0x46 0x99 ++ replicate 40 1

-- a header whose packet has 1500 bytes
cut : List ℕ
cut = 0x45 ∷ 0 ∷ 0x05 ∷ 0xdc ∷ 0 ∷ 0 ∷ 0 ∷ 0 ∷ 0x40 ∷ 0x11 ∷ 0x5f ∷ 0x0d ∷ 0x0a ∷ 0 ∷ 0 ∷ 0x01 ∷ 0x0a ∷ 0x01 ∷ 0x02 ∷ 0x03 ∷ []

-- the fields of the table alone decide, and both bytes of a length matter: of 1500 bytes of a packet 46 were captured
other_fields : (reason_of (plain (foreign 0x40 0x9e 0x92)) 34 ≡ None)
    × (renewed (foreign 0x40 0x9e 0x92) ≡ foreign 0x3f 0x9f 0x92)
    × (reason_of (plain longest) 74 ≡ None)
    × (reason_of (plain (cut ++ replicate 26 0)) 1514 ≡ None)
    × (reason_of (plain (cut ++ replicate 26 0)) 1513 ≡ Some Reason.BadLength)
    × (destination_of right ≡ 0x0a010203)
unfolding ones_complement_sum renewed header right plain foreign longest reason_of cut
other_fields = (refl, refl, refl, refl, refl, refl)

-- what is written over a correct checksum: even if it was 0xFFFF for 0, and if it becomes 0
renewals : (renewed right ≡ header 0x45 0x14 0x3f 0x65 0xd5) × (renewed (optional 0x61 0xd0) ≡ header 0x46 0x18 0x3f 0x62 0xd0 ++ (1 ∷ 1 ∷ 1 ∷ 0 ∷ []))
    × (renewed (numbered 0x64 0xd5 0x40 0xff 0xff) ≡ numbered 0x64 0xd5 0x3f 0x01 0x00)
    × (renewed (numbered 0x65 0xd5 0x40 0xfe 0xff) ≡ numbered 0x65 0xd5 0x3f 0x00 0x00)
unfolding ones_complement_sum renewed header numbered right optional
renewals = (refl, refl, refl, refl)

-- the way through port 7, and the frame as it leaves there
way : Way
way = record { port = 7; to = to; from = from }

-- a hop number leads through its own entry's port, with the address of that port; it leads nowhere without an entry, or
-- if its port has none
ways : (ports : Ports) → ports.hops.items ≡ record { port = 1; to = to } ∷ record { port = 0; to = from } ∷ record { port = 2; to = to } ∷ []
    → ports.sources.items ≡ from ∷ to ∷ []
    → (way_of ports 0 ≡ Some (record { port = 1; to = to; from = to })) × (way_of ports 1 ≡ Some (record { port = 0; to = from; from = from }))
    × (way_of ports 2 ≡ None) × (way_of ports 3 ≡ None)
ways ports hops sources = (led 0, led 1, led 2, led 3)
  where
    led : (hop : ℕ) → way_of ports hop ≡ option_and_then (λ (entry : Hop). option_map (leaving entry) (slice_get (from ∷ to ∷ []) entry.port))
        (slice_get (record { port = 1; to = to } ∷ record { port = 0; to = from } ∷ record { port = 2; to = to } ∷ []) hop)
    led hop k = option_and_then (λ (entry : Hop). option_map (leaving entry) (slice_get (sources k) entry.port)) (slice_get (hops k) hop)

left : List ℕ → List ℕ → List ℕ
left between packet = to ++ from ++ between ++ packet

sent : (routes : Members) (ports : Ports) → way_from routes ports right ≡ Some way
    → forwarded routes ports (plain right) 34 ≡ record { verdict = Verdict.Send 7 false; frame = left (0x08 ∷ 0x00 ∷ []) (header 0x45 0x14 0x3f 0x65 0xd5) }
unfolding ones_complement_sum header right plain to from way left judged renewed rewritten
sent routes ports led = ap (λ w. outcome_of (plain right) (way_or None w)) led

sent_tagged : (routes : Members) (ports : Ports) → way_from routes ports right ≡ Some way
    → forwarded routes ports (tagged right) 38 ≡ record {
      verdict = Verdict.Send 7 true;
      frame =
          left (0x81 ∷ 0x00 ∷ 0x20 ∷ 0x05 ∷ 0x08 ∷ 0x00 ∷ []) (header 0x45 0x14 0x3f 0x65 0xd5);
    }
unfolding ones_complement_sum header right tagged to from way left judged renewed rewritten
sent_tagged routes ports led = ap (λ w. outcome_of (tagged right) (way_or None w)) led

-- bytes after the packet are unchanged, and so is a frame without a route
sent_padded : (routes : Members) (ports : Ports) → way_from routes ports (right ++ (9 ∷ 8 ∷ [])) ≡ Some way
    → forwarded routes ports (plain right ++ (9 ∷ 8 ∷ [])) 60
    ≡ record { verdict = Verdict.Send 7 false; frame = left (0x08 ∷ 0x00 ∷ []) (header 0x45 0x14 0x3f 0x65 0xd5) ++ (9 ∷ 8 ∷ []) }
unfolding ones_complement_sum header right plain to from way left judged renewed rewritten
sent_padded routes ports led = ap (λ w. outcome_of (plain right ++ (9 ∷ 8 ∷ [])) (way_or None w)) led

unrouted : (routes : Members) (ports : Ports) → way_from routes ports right ≡ None
    → forwarded routes ports (plain right) 34 ≡ record { verdict = Verdict.Drop Reason.NoRoute; frame = plain right }
unfolding ones_complement_sum header right plain judged
unrouted routes ports none = ap (λ w. outcome_of (plain right) (way_or None w)) none

-- an expired frame without a route
expired : (routes : Members) (ports : Ports) → let frame =
    plain (header 0x45 0x14 0x01 0xa3 0xd5) in forwarded routes ports frame 34 ≡ record { verdict = Verdict.Drop Reason.Expired; frame = frame }
unfolding ones_complement_sum header plain judged
expired routes ports = refl

-- lookups ahead, where 10.1.2.3 has a route by hop 7, and 11.1.2.3 none
ahead : (routes : Members) → lookup_in routes 0x0a010203 ≡ Some 7 → IsPrefetched routes (record { address = 0x0a010203; hop = Some 7 })
ahead routes found = sym found

another_hop : (routes : Members) → lookup_in routes 0x0a010203 ≡ Some 7 → ¬ IsPrefetched routes (record { address = 0x0a010203; hop = Some 8 })
another_hop routes found is = let same = same_Some 8 7 (is ∙ found) in absurd (omega arith)

both_ahead : (routes : Members) → lookup_in routes 0x0a010203 ≡ Some 7 → lookup_in routes 0x0b010203 ≡ None
    → AreLookedUp routes (record { addresses = 0x0a010203 ∷ 0x0b010203 ∷ []; hops = Some 7 ∷ None ∷ [] })
both_ahead routes found none = sym (ap (λ hop. hop ∷ lookup_in routes 0x0b010203 ∷ []) found ∙ ap (λ hop. Some 7 ∷ hop ∷ []) none)

exchanged : (routes : Members) → lookup_in routes 0x0a010203 ≡ Some 7
    → ¬ AreLookedUp routes (record { addresses = 0x0a010203 ∷ 0x0b010203 ∷ []; hops = None ∷ Some 7 ∷ [] })
exchanged routes found are = absurd (none-some 7 (ap (λ (hops : List (Option ℕ)). get_or hops 0 None) are ∙ found))
