-- The laws of a frame that was sent.
use Rattle.std.proofs.Common.{◌≡◌, ℕ, ◌+◌, ◌-◌, ◌*◌, ◌<◌, ◌≤◌, Bool, true, false, List, ◌++◌, length, get_or, take, drop, Some, Result, Ok, Err, refl, ap, ◌∙◌}
use Rattle.std.proofs.Common.{subst, arith}
use Rattle.std.specs.Prelude.{◌==◌, if◌then◌else◌, option_and_then}
use Rattle.std.proofs.lemmas.List.{length-append, length-drop, length-take-le, get_or-take, get_or_append_left, drop-append-le, drop_all}
use Rattle.std.proofs.lemmas.Option.{option_and_then_some}
use Rattle.lpm.specs.Prefixes.{Members}
use Rattle.lpm.specs.Match.{lookup_in}
use Rattle.ipv4.specs.declared.ports.Ports.{Ports}
use Rattle.ipv4.specs.declared.ports.Way.{Way}
use Rattle.ipv4.specs.declared.verdicts.Reason.{Reason}
use Rattle.ipv4.specs.declared.verdicts.Verdict.TheVariants.{Send}
use Rattle.ipv4.specs.Bytes.{AreBytes}
use Rattle.ipv4.specs.Checksum.{ones_complement_sum}
use Rattle.ipv4.specs.Fields.{is_tagged, offset_of, type_of, packet_of, version_of, header_of, header_len, total_len, destination_of, time_to_live}
use Rattle.ipv4.specs.Forwarding.{forwarded, judged, outcome_of, renewed, rewritten, addressed, with_header, way_from}
use Rattle.ipv4.specs.Ports.{HasAddresses, way_of}
use Rattle.ipv4.proofs.Drops.{IsSent, judged_sent, sent_judged}
use Rattle.ipv4.proofs.ByteLists.{AreBytes-drop}
use Rattle.ipv4.proofs.Again.{IsRenewed, packet_renewed, length-addressed, front_kept, length-with_header}

pub offset_bounds : (frame : List ℕ) → (14 ≤ offset_of frame) × (offset_of frame ≤ 18)
offset_bounds frame =
    elim (is_tagged frame) as (λ b. (14 ≤ (if b then 18 else 14)) × ((if b then 18 else 14) ≤ 18)) [
      | true ↦ (omega arith, omega arith)
      | false ↦
          (omega arith, omega arith)
    ]

-- the parts of a frame that was rewritten
record IsRewritten (frame new packet : List ℕ) : Type 0 where
  tagged : is_tagged new ≡ is_tagged frame
  type : type_of new ≡ type_of frame
  packet_is : packet_of new ≡ packet
  size : length new ≡ offset_of frame + length packet

frame_rewritten : (way : Way) (frame packet : List ℕ) → length way.to ≡ 6 → length way.from ≡ 6 → offset_of frame ≤ length frame
    → IsRewritten frame (addressed way (take (offset_of frame) frame) ++ packet) packet
frame_rewritten way frame packet e f long =
    let at = offset_of frame in
    let bounds = offset_bounds frame in
    let front = take at frame in
    let front_long : length front ≡ at = length-take-le at frame long in
    let new_front = addressed way front in
    let new = new_front ++ packet in
    let new_long : length new_front ≡ at = length-addressed way front e f (omega arith) ∙ front_long in
    let kept =
    λ (i : ℕ) (behind : 12 ≤ i) (before : i < at). get_or_append_left new_front packet 0 i (omega arith) ∙ front_kept way front i e f behind
    ∙ get_or-take at frame i 0 before in
    let tag_high : get_or new 12 0 ≡ get_or frame 12 0 = kept 12 (omega arith) (omega arith) in
    let tag_low : get_or new 13 0 ≡ get_or frame 13 0 = kept 13 (omega arith) (omega arith) in
    let same_tag : is_tagged new ≡ is_tagged frame = λ k. (tag_high k * 256 + tag_low k) == 0x8100 in
    let same_offset : offset_of new ≡ at = ap (λ b. if b then 18 else 14) same_tag in
    let type_high : get_or new (at - 2) 0 ≡ get_or frame (at - 2) 0 = kept (at - 2) (omega arith) (omega arith) in
    let type_low : get_or new (at - 2 + 1) 0 ≡ get_or frame (at - 2 + 1) 0 = kept (at - 2 + 1) (omega arith) (omega arith) in
    record {
      tagged = same_tag;
      type = ap (λ k. get_or new (k - 2) 0 * 256 + get_or new (k - 2 + 1) 0) same_offset ∙ (λ k. type_high k * 256 + type_low k);
      packet_is =
          ap (λ k. drop k new) same_offset ∙ drop-append-le at new_front packet (omega arith)
          ∙ ap (λ (l : List ℕ). l ++ packet) (drop_all at new_front (omega arith));
      size = length-append new_front packet ∙ ap (λ k. k + length packet) new_long;
    }

-- what follows from a verdict of sending
sent_by : (frame : List ℕ) (answer : Result Way Reason) (port : ℕ) (tagged : Bool) → (outcome_of frame answer).verdict ≡ Send port tagged
    → (way : Way) × (answer ≡ Ok way) × (Send way.port (is_tagged frame) ≡ Send port tagged)
sent_by frame (Ok way) port tagged e = (way, refl, e)
sent_by frame (Err reason) port tagged e = absurd (cc)

way_has_addresses : (routes : Members) (ports : Ports) (packet : List ℕ) (way : Way) → HasAddresses ports → way_from routes ports packet ≡ Some way
    → (length way.to ≡ 6) × (length way.from ≡ 6)
way_has_addresses routes ports packet way has e =
    option_and_then_some (way_of ports) (lookup_in routes (destination_of packet)) way e (λ hop _ found. has hop way found)

module _ (routes : Members) (ports : Ports) (frame : List ℕ) (wire : ℕ) (way : Way) (has : HasAddresses ports) (sent : IsSent routes ports frame wire way) where
  parts : IsRewritten frame (rewritten way frame) (with_header (renewed (header_of (packet_of frame))) (packet_of frame))
  unfolding rewritten
  parts = let six = way_has_addresses routes ports (packet_of frame) way has sent.led in frame_rewritten way frame _ six.0 six.1 sent.typed

  renewed_packet : AreBytes frame → IsRenewed (packet_of frame) (with_header (renewed (header_of (packet_of frame))) (packet_of frame))
  renewed_packet all = packet_renewed (packet_of frame) sent.right.least sent.right.whole (AreBytes-drop (offset_of frame) frame all)

  pub right_again : AreBytes frame → ones_complement_sum (header_of (packet_of (rewritten way frame))) ≡ 65535
  right_again all = let renew = renewed_packet all in ap (λ (p : List ℕ). ones_complement_sum (header_of p)) parts.packet_is ∙ renew.summed

  pub size_again : length (rewritten way frame) ≡ length frame
  size_again =
      let size = parts.size in
      omega (arith, length-with_header (packet_of frame) sent.right.whole, length-drop (offset_of frame) frame, sent.typed)

  pub sent_again : AreBytes frame → 1 < time_to_live (packet_of (rewritten way frame)) → IsSent routes ports (rewritten way frame) wire way
  sent_again all alive =
      let new = rewritten way frame in
      let right = sent.right in
      let renew = renewed_packet all in
      let same_offset : offset_of new ≡ offset_of frame = ap (λ b. if b then 18 else 14) parts.tagged in
      let size : length (packet_of new) ≡ length (packet_of frame) = ap length parts.packet_is ∙ length-with_header (packet_of frame) right.whole in
      let version : version_of (packet_of new) ≡ version_of (packet_of frame) = ap version_of parts.packet_is ∙ renew.version in
      let header : header_len (packet_of new) ≡ header_len (packet_of frame) = ap header_len parts.packet_is ∙ renew.header in
      let total : total_len (packet_of new) ≡ total_len (packet_of frame) = ap total_len parts.packet_is ∙ renew.total in
      let destination : destination_of (packet_of new) ≡ destination_of (packet_of frame) = ap destination_of parts.packet_is ∙ renew.destination in
      record {
        long = omega (arith, size_again, sent.long);
        typed = omega (arith, size_again, sent.typed);
        ipv4 = parts.type ∙ sent.ipv4;
        headed = omega (arith, sent.headed);
        holds_header = omega (arith, sent.holds_header);
        on_wire = omega (arith, sent.on_wire);
        right = record {
          version = version ∙ right.version;
          least = omega (arith, right.least);
          whole = omega (arith, right.whole);
          summed = right_again all;
          alive = alive;
        };
        led = ap (λ d. option_and_then (way_of ports) (lookup_in routes d)) destination ∙ sent.led;
      }

pub right_law : (routes : Members) (ports : Ports) (frame : List ℕ) (wire port : ℕ) (tagged : Bool) → HasAddresses ports → AreBytes frame
    → (forwarded routes ports frame wire).verdict ≡ Send port tagged
    → ones_complement_sum (header_of (packet_of (forwarded routes ports frame wire).frame)) ≡ 65535
right_law routes ports frame wire port tagged has all e =
    let by = sent_by frame (judged routes ports frame wire) port tagged e in
    ap (λ r. ones_complement_sum (header_of (packet_of (outcome_of frame r).frame))) by.1
    ∙ right_again routes ports frame wire by.0 has (judged_sent routes ports frame wire by.0 by.1) all

pub size_law : (routes : Members) (ports : Ports) (frame : List ℕ) (wire port : ℕ) (tagged : Bool) → HasAddresses ports
    → (forwarded routes ports frame wire).verdict ≡ Send port tagged → length (forwarded routes ports frame wire).frame ≡ length frame
size_law routes ports frame wire port tagged has e =
    let by = sent_by frame (judged routes ports frame wire) port tagged e in
    ap (λ r. length (outcome_of frame r).frame) by.1 ∙ size_again routes ports frame wire by.0 has (judged_sent routes ports frame wire by.0 by.1)

pub again_law : (routes : Members) (ports : Ports) (frame : List ℕ) (wire port : ℕ) (tagged : Bool) → HasAddresses ports → AreBytes frame
    → (forwarded routes ports frame wire).verdict ≡ Send port tagged → 1 < time_to_live (packet_of (forwarded routes ports frame wire).frame)
    → (forwarded routes ports (forwarded routes ports frame wire).frame wire).verdict ≡ Send port tagged
again_law routes ports frame wire port tagged has all e alive =
    let by = sent_by frame (judged routes ports frame wire) port tagged e in
    let way = by.0 in
    let sent = judged_sent routes ports frame wire way by.1 in
    let new_is : (forwarded routes ports frame wire).frame ≡ rewritten way frame = ap (λ r. (outcome_of frame r).frame) by.1 in
    let left : 1 < time_to_live (packet_of (rewritten way frame)) = subst (λ (f : List ℕ). 1 < time_to_live (packet_of f)) new_is alive in
    let again = sent_judged routes ports (rewritten way frame) wire way (sent_again routes ports frame wire way has sent all left) in
    let rewrite = parts routes ports frame wire way has sent in
    ap (λ (f : List ℕ). (forwarded routes ports f wire).verdict) new_is
    ∙ ap (λ r. (outcome_of (rewritten way frame) r).verdict) again
    ∙ ap (λ b. Send way.port b) rewrite.tagged
    ∙ by.2
