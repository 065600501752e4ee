-- A frame that was sent: what its fields are.
use Rattle.std.proofs.Common.{◌≡◌, ◌≢◌, ℕ, ◌+◌, ◌-◌, ◌*◌, ◌/◌, ◌%◌, ◌≤◌, List, ◌++◌, length, get_or, slice_set, take, drop, refl, sym, ap, ◌∙◌, arith}
use Rattle.std.proofs.lemmas.List.{length-set, length-append, length-drop, length-take-le, get_or-set_other, get_or-drop, get_or-append-add, take-append-le}
use Rattle.std.proofs.lemmas.List.{take_all}
use Rattle.ipv4.specs.declared.ports.Way.{Way}
use Rattle.ipv4.specs.Bytes.{AreBytes}
use Rattle.ipv4.specs.Checksum.{ones_complement_sum}
use Rattle.ipv4.specs.Fields.{version_of, header_len, header_of, total_len, destination_of}
use Rattle.ipv4.specs.Forwarding.{lowered, renewed, renewed_checksum, addressed, with_header}
use Rattle.ipv4.proofs.Renewing.{renewed-written, sum-renewed}
use Rattle.ipv4.proofs.ByteLists.{AreBytes-take}

-- a byte of the packet that is neither the time to live nor the checksum
pub byte_kept : (packet : List ℕ) (n i : ℕ) → 12 ≤ n → n ≤ length packet → i ≢ 8 → i ≢ 10 → i ≢ 11
    → get_or (renewed (take n packet) ++ drop n packet) i 0 ≡ get_or packet i 0
byte_kept packet n i long whole time high low =
    let sum = renewed_checksum (lowered (take n packet)) in
    ap (λ (l : List ℕ). get_or l i 0) (sym (renewed-written packet n sum long whole refl))
    ∙ get_or-set_other (slice_set (lowered packet) 10 (sum / 256)) 11 i (sum % 256) 0 low
    ∙ get_or-set_other (lowered packet) 10 i (sum / 256) 0 high
    ∙ get_or-set_other packet 8 i (get_or packet 8 0 - 1) 0 time

pub length-renewed : (header : List ℕ) → length (renewed header) ≡ length header
unfolding renewed
length-renewed header =
    let sum = renewed_checksum (lowered header) in
    length-set (slice_set (lowered header) 10 (sum / 256)) 11 (sum % 256) ∙ length-set (lowered header) 10 (sum / 256)
    ∙ length-set header 8 (get_or header 8 0 - 1)

pub length-with_header : (packet : List ℕ) → header_len packet ≤ length packet → length (with_header (renewed (header_of packet)) packet) ≡ length packet
length-with_header packet whole =
    let n = header_len packet in
    omega (arith, length-append (renewed (take n packet)) (drop n packet), length-renewed (take n packet), length-drop n packet, length-take-le n packet whole)

-- a packet after its header is renewed
pub record IsRenewed (old new : List ℕ) : Type 0 where
  pub version : version_of new ≡ version_of old
  pub header : header_len new ≡ header_len old
  pub total : total_len new ≡ total_len old
  pub destination : destination_of new ≡ destination_of old
  pub summed : ones_complement_sum (header_of new) ≡ 65535

pub packet_renewed : (packet : List ℕ) → 20 ≤ header_len packet → header_len packet ≤ length packet → AreBytes packet
    → IsRenewed packet (with_header (renewed (header_of packet)) packet)
packet_renewed packet least whole all =
    let n = header_len packet in
    let h = take n packet in
    let new = renewed h ++ drop n packet in
    let kept = λ (i : ℕ) (time : i ≢ 8) (high : i ≢ 10) (low : i ≢ 11). byte_kept packet n i (omega arith) whole time high low in
    let long : length h ≡ n = length-take-le n packet whole in
    let first : get_or new 0 0 ≡ get_or packet 0 0 = kept 0 (λ e. omega arith) (λ e. omega arith) (λ e. omega arith) in
    let second : get_or new 2 0 ≡ get_or packet 2 0 = kept 2 (λ e. omega arith) (λ e. omega arith) (λ e. omega arith) in
    let third : get_or new 3 0 ≡ get_or packet 3 0 = kept 3 (λ e. omega arith) (λ e. omega arith) (λ e. omega arith) in
    let a : get_or new 16 0 ≡ get_or packet 16 0 = kept 16 (λ e. omega arith) (λ e. omega arith) (λ e. omega arith) in
    let b : get_or new 17 0 ≡ get_or packet 17 0 = kept 17 (λ e. omega arith) (λ e. omega arith) (λ e. omega arith) in
    let c : get_or new 18 0 ≡ get_or packet 18 0 = kept 18 (λ e. omega arith) (λ e. omega arith) (λ e. omega arith) in
    let d : get_or new 19 0 ≡ get_or packet 19 0 = kept 19 (λ e. omega arith) (λ e. omega arith) (λ e. omega arith) in
    let same_header : header_len new ≡ n = ap (λ x. 4 * (x % 16)) first in
    let header_is : header_of new ≡ renewed h =
    ap (λ k. take k new) same_header ∙ take-append-le n (renewed h) (drop n packet) (omega (arith, length-renewed h))
    ∙ take_all n (renewed h) (omega (arith, length-renewed h)) in
    record {
      version = ap (λ x. x / 16) first;
      header = same_header;
      total = omega arith;
      destination = omega arith;
      summed = ap ones_complement_sum header_is ∙ sum-renewed h (omega arith) (AreBytes-take n packet all);
    }

-- the bytes before a packet, once it has new addresses
pub length-addressed : (way : Way) (front : List ℕ) → length way.to ≡ 6 → length way.from ≡ 6 → 12 ≤ length front → length (addressed way front) ≡ length front
length-addressed way front e f long = omega (arith, length-append (way.to ++ way.from) (drop 12 front), length-append way.to way.from, length-drop 12 front)

pub front_kept : (way : Way) (front : List ℕ) (i : ℕ) → length way.to ≡ 6 → length way.from ≡ 6 → 12 ≤ i → get_or (addressed way front) i 0 ≡ get_or front i 0
front_kept way front i e f behind =
    let both = way.to ++ way.from in
    let place : i ≡ length both + (i - 12) = omega (arith, length-append way.to way.from) in
    let again : 12 + (i - 12) ≡ i = omega arith in
    ap (λ k. get_or (addressed way front) k 0) place ∙ get_or-append-add both (drop 12 front) (i - 12) 0 ∙ get_or-drop 12 front (i - 12) 0
    ∙ ap (λ k. get_or front k 0) again
