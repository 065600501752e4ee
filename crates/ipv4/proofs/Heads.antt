-- A frame's header decides its verdict: what follows changes no verdict, and is kept.
use Rattle.std.proofs.Common.{◌≡◌, ℕ, ◌+◌, ◌-◌, ◌*◌, ◌/◌, ◌%◌, ◌<◌, ◌≤◌, ◌⊎◌, Bool, not, ltb, List, [], ◌∷◌, ◌++◌, length, get_or, take, drop, Result, Ok, Err}
use Rattle.std.proofs.Common.{refl, sym, ap, ◌∙◌, subst, inl, inr, arith, append_assoc}
use Rattle.std.specs.Prelude.{◌==◌, if◌then◌else◌, option_and_then}
use Rattle.std.proofs.lemmas.List.{length-append, length-drop, get_or_append_left, take-append-le, drop-append-le, take-append-drop, take_all, drop_all}
use Rattle.std.proofs.lemmas.List.{append-nil}
use Rattle.std.proofs.lemmas.Bool.Decides.{nat_tests}
use Rattle.lpm.specs.Prefixes.{Members}
use Rattle.lpm.specs.Match.{lookup_in}
use Rattle.ipv4.specs.declared.ports.Ports.{Ports}
use Rattle.ipv4.specs.declared.ports.Way.{Way}
use Rattle.ipv4.specs.declared.verdicts.Reason.{Reason}
use Rattle.ipv4.specs.declared.verdicts.Verdict.TheVariants.{Send}
use Rattle.ipv4.specs.Checksum.{ones_complement_sum}
use Rattle.ipv4.specs.Fields.{is_tagged, offset_of, type_of, packet_of, version_of, header_len, header_of, body_of, total_len, time_to_live, destination_of}
use Rattle.ipv4.specs.Forwarding.{drops, first_reason, way_or, judged, outcome_of, forwarded, renewed, rewritten, addressed, with_header}
use Rattle.ipv4.specs.Head.{HoldsHeader}
use Rattle.ipv4.specs.Ports.{way_of}

-- the table of drops by what it tests
abbrev rows : Bool → Bool → Bool → Bool → ℕ → ℕ → ℕ → ℕ → ℕ → ℕ → ℕ → List (Bool × Reason)
rows short cut headless beheaded type version size total room sum time =
    (short, Reason.Short) ∷ (cut, Reason.Short) ∷ (not (type == 0x0800), Reason.NotIpv4) ∷ (headless, Reason.Short) ∷ (not (version == 4), Reason.BadHeader)
    ∷ (ltb size 20, Reason.BadHeader) ∷ (beheaded, Reason.Short) ∷ (ltb total size, Reason.BadLength) ∷ (ltb room total, Reason.BadLength)
    ∷ (not (sum == 0xFFFF), Reason.BadChecksum) ∷ (ltb time 2, Reason.Expired) ∷ []

both_reach : (a b n : ℕ) → n ≤ a → n ≤ b → ltb a n ≡ ltb b n
both_reach a b n h k = grind (arith, nat_tests)

-- the fields of a packet, with more after it
record HasSameFields (packet longer rest : List ℕ) : Type 0 where
  version : version_of longer ≡ version_of packet
  size : header_len longer ≡ header_len packet
  total : total_len longer ≡ total_len packet
  time : time_to_live longer ≡ time_to_live packet
  destination : destination_of longer ≡ destination_of packet
  header : header_of longer ≡ header_of packet
  body : body_of longer ≡ body_of packet ++ rest

fields_kept : (packet rest : List ℕ) → 20 ≤ length packet → header_len packet ≤ length packet → HasSameFields packet (packet ++ rest) rest
fields_kept packet rest long whole =
    let longer = packet ++ rest in
    let kept = λ (i : ℕ) (inside : i < length packet). get_or_append_left packet rest 0 i inside in
    let first : get_or longer 0 0 ≡ get_or packet 0 0 = kept 0 (omega arith) in
    let high : get_or longer 2 0 ≡ get_or packet 2 0 = kept 2 (omega arith) in
    let low : get_or longer 3 0 ≡ get_or packet 3 0 = kept 3 (omega arith) in
    let a : get_or longer 16 0 ≡ get_or packet 16 0 = kept 16 (omega arith) in
    let b : get_or longer 17 0 ≡ get_or packet 17 0 = kept 17 (omega arith) in
    let c : get_or longer 18 0 ≡ get_or packet 18 0 = kept 18 (omega arith) in
    let d : get_or longer 19 0 ≡ get_or packet 19 0 = kept 19 (omega arith) in
    let size : header_len longer ≡ header_len packet = ap (λ x. 4 * (x % 16)) first in
    record {
      version = ap (λ x. x / 16) first;
      size = size;
      total = omega arith;
      time = kept 8 (omega arith);
      destination = omega arith;
      header = ap (λ n. take n longer) size ∙ take-append-le (header_len packet) packet rest whole;
      body = ap (λ n. drop n longer) size ∙ drop-append-le (header_len packet) packet rest whole;
    }

record IsFrontOf (head frame rest : List ℕ) : Type 0 where
  tagged : is_tagged frame ≡ is_tagged head
  offset : offset_of frame ≡ offset_of head
  type : type_of frame ≡ type_of head
  front : take (offset_of frame) frame ≡ take (offset_of head) head
  packet : packet_of frame ≡ packet_of head ++ rest
  behind : offset_of head ≤ length head

front_kept : (head rest : List ℕ) → HoldsHeader head → IsFrontOf head (head ++ rest) rest
front_kept head rest holds =
    let frame = head ++ rest in
    let at = offset_of head in
    let long = holds.long in
    let least : 20 ≤ length head - at = omega (arith, holds.least, length-drop at head) in
    let kept = λ (i : ℕ) (inside : i < length head). get_or_append_left head rest 0 i inside in
    let tag_high : get_or frame 12 0 ≡ get_or head 12 0 = kept 12 (omega arith) in
    let tag_low : get_or frame 13 0 ≡ get_or head 13 0 = kept 13 (omega arith) in
    let tagged : is_tagged frame ≡ is_tagged head = λ k. (tag_high k * 256 + tag_low k) == 0x8100 in
    let offset : offset_of frame ≡ at = ap (λ b. if b then 18 else 14) tagged in
    let type_high : get_or frame (at - 2) 0 ≡ get_or head (at - 2) 0 = kept (at - 2) (omega arith) in
    let type_low : get_or frame (at - 2 + 1) 0 ≡ get_or head (at - 2 + 1) 0 = kept (at - 2 + 1) (omega arith) in
    record {
      tagged = tagged;
      offset = offset;
      type = ap (λ k. get_or frame (k - 2) 0 * 256 + get_or frame (k - 2 + 1) 0) offset ∙ (λ k. type_high k * 256 + type_low k);
      front = ap (λ k. take k frame) offset ∙ take-append-le at head rest (omega arith);
      packet = ap (λ k. drop k frame) offset ∙ drop-append-le at head rest (omega arith);
      behind = omega arith;
    }

module _ (head rest : List ℕ) (holds : HoldsHeader head) where
  front : IsFrontOf head (head ++ rest) rest
  front = front_kept head rest holds

  -- for the packet in the longer frame
  fields : HasSameFields (packet_of head) (packet_of (head ++ rest)) rest
  fields = let same =
      front in subst (λ (p : List ℕ). HasSameFields (packet_of head) p rest) (sym same.packet) (fields_kept (packet_of head) rest holds.least holds.whole)

  drops_kept : (wire : ℕ) → drops (head ++ rest) wire ≡ drops head wire
  drops_kept wire =
      let frame = head ++ rest in
      let same = front in
      let field = fields in
      let longer : length frame ≡ length head + length rest = length-append head rest in
      let packet_longer : length (packet_of frame) ≡ length (packet_of head) + length rest = ap length same.packet ∙ length-append (packet_of head) rest in
      let offset = same.offset in
      let behind = same.behind in
      let size = field.size in
      let short : ltb (length frame) 14 ≡ ltb (length head) 14 = both_reach (length frame) (length head) 14 (omega (arith, holds.long)) holds.long in
      let cut : ltb (length frame) (offset_of frame) ≡ ltb (length head) (offset_of head) =
      ap (ltb (length frame)) offset ∙ both_reach (length frame) (length head) (offset_of head) (omega arith) behind in
      let headless : ltb (length (packet_of frame)) 20 ≡ ltb (length (packet_of head)) 20 =
      both_reach (length (packet_of frame)) (length (packet_of head)) 20 (omega (arith, holds.least)) holds.least in
      let beheaded : ltb (length (packet_of frame)) (header_len (packet_of frame)) ≡ ltb (length (packet_of head)) (header_len (packet_of head)) =
      ap (ltb (length (packet_of frame))) size ∙ both_reach (length (packet_of frame)) (length (packet_of head)) (header_len (packet_of head))
      (omega (arith, holds.whole)) holds.whole in
      let type = same.type in
      let version = field.version in
      let total = field.total in
      let header = field.header in
      let time = field.time in
      λ k. rows (short k) (cut k) (headless k) (beheaded k) (type k) (version k) (size k) (total k) (wire - offset k) (ones_complement_sum (header k)) (time k)

  pub judged_kept : (routes : Members) (ports : Ports) (wire : ℕ) → judged routes ports (head ++ rest) wire ≡ judged routes ports head wire
  unfolding judged
  judged_kept routes ports wire =
      let field = fields in
      let destination = field.destination in
      let table = drops_kept wire in
      λ k. way_or (first_reason (table k)) (option_and_then (way_of ports) (lookup_in routes (destination k)))

  rewritten_kept : (way : Way) → rewritten way (head ++ rest) ≡ rewritten way head ++ rest
  unfolding rewritten
  rewritten_kept way =
      let same = front in
      let field = fields in
      let before = same.front in
      let header = field.header in
      let body = field.body in
      (λ k. addressed way (before k) ++ (renewed (header k) ++ body k))
      ∙ ap (λ (l : List ℕ). addressed way (take (offset_of head) head) ++ l)
      (sym (append_assoc (renewed (header_of (packet_of head))) (body_of (packet_of head)) rest))
      ∙ sym (append_assoc (addressed way (take (offset_of head) head)) (with_header (renewed (header_of (packet_of head))) (packet_of head)) rest)

  verdict_by : (answer : Result Way Reason) → (outcome_of (head ++ rest) answer).verdict ≡ (outcome_of head answer).verdict
  verdict_by (Ok way) = let same = front in ap (λ b. Send way.port b) same.tagged
  verdict_by (Err reason) = refl

  frame_by : (answer : Result Way Reason) → (outcome_of (head ++ rest) answer).frame ≡ (outcome_of head answer).frame ++ rest
  frame_by (Ok way) = rewritten_kept way
  frame_by (Err reason) = refl

  verdict_kept : (routes : Members) (ports : Ports) (wire : ℕ)
      → (forwarded routes ports (head ++ rest) wire).verdict ≡ (forwarded routes ports head wire).verdict
  verdict_kept routes ports wire = ap (λ r. (outcome_of (head ++ rest) r).verdict) (judged_kept routes ports wire) ∙ verdict_by (judged routes ports head wire)

  frame_kept : (routes : Members) (ports : Ports) (wire : ℕ)
      → (forwarded routes ports (head ++ rest) wire).frame ≡ (forwarded routes ports head wire).frame ++ rest
  frame_kept routes ports wire = ap (λ r. (outcome_of (head ++ rest) r).frame) (judged_kept routes ports wire) ∙ frame_by (judged routes ports head wire)

-- a front of a frame that is enough of it
pub record IsEnough (head frame : List ℕ) : Type 0 where
  pub front : head ≡ take (length head) frame
  pub enough : (length head ≡ length frame) ⊎ HoldsHeader head

split : (head frame : List ℕ) → head ≡ take (length head) frame → frame ≡ head ++ drop (length head) frame
split head frame e = sym (take-append-drop (length head) frame) ∙ ap (λ (l : List ℕ). l ++ drop (length head) frame) (sym e)

pub verdict_of_front : (routes : Members) (ports : Ports) (head frame : List ℕ) (wire : ℕ) → IsEnough head frame
    → (forwarded routes ports head wire).verdict ≡ (forwarded routes ports frame wire).verdict
verdict_of_front routes ports head frame wire is =
    elim is.enough [
      | inl whole ↦ ap (λ (f : List ℕ). (forwarded routes ports f wire).verdict) (is.front ∙ take_all (length head) frame (omega arith))
      | inr holds ↦
          sym (verdict_kept head (drop (length head) frame) holds routes ports wire)
          ∙ ap (λ (f : List ℕ). (forwarded routes ports f wire).verdict) (sym (split head frame is.front))
    ]

pub frame_of_front : (routes : Members) (ports : Ports) (head frame : List ℕ) (wire : ℕ) → IsEnough head frame
    → (forwarded routes ports head wire).frame ++ drop (length head) frame ≡ (forwarded routes ports frame wire).frame
frame_of_front routes ports head frame wire is =
    elim is.enough [
      | inl whole ↦
          ap (λ (l : List ℕ). (forwarded routes ports head wire).frame ++ l) (drop_all (length head) frame (omega arith))
          ∙ append-nil (forwarded routes ports head wire).frame
          ∙ ap (λ (f : List ℕ). (forwarded routes ports f wire).frame) (is.front ∙ take_all (length head) frame (omega arith))
      | inr holds ↦
          sym (frame_kept head (drop (length head) frame) holds routes ports wire)
          ∙ ap (λ (f : List ℕ). (forwarded routes ports f wire).frame) (sym (split head frame is.front))
    ]
