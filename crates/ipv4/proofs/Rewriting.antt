-- The frame that is sent, as it is written.
use Rattle.std.proofs.Common.{◌≡◌, ℕ, List, ◌++◌, length, take, drop, sym, ap, ◌∙◌, arith, append_assoc}
use Rattle.std.proofs.lemmas.List.{take-append-le, drop-append-le, take_all, drop_all, drop-drop}
use borrow.Rule.Slice.PartMut.{put_mid}
use Rattle.ipv4.specs.declared.ports.Way.{Way}
use Rattle.ipv4.specs.Fields.{offset_of, header_of}
use Rattle.ipv4.specs.Forwarding.{addressed, renewed, rewritten, with_header}

-- two addresses, one after another
addresses-written : (to from front : List ℕ) → length to ≡ 6 → length from ≡ 6 → put_mid 6 6 (to ++ drop 6 front) from ≡ (to ++ from) ++ drop 12 front
addresses-written to from front e f =
    let rest = drop 6 front in
    let before : take 6 (to ++ rest) ≡ to = take-append-le 6 to rest (omega arith) ∙ take_all 6 to (omega arith) in
    let behind : drop 6 (to ++ rest) ≡ rest = drop-append-le 6 to rest (omega arith) ∙ ap (λ (l : List ℕ). l ++ rest) (drop_all 6 to (omega arith)) in
    let last : drop 6 (drop 6 (to ++ rest)) ≡ drop 12 front = ap (drop 6) behind ∙ drop-drop 6 6 front in
    (λ k. before k ++ (from ++ last k)) ∙ sym (append_assoc to from (drop 12 front))

pub addresses-copied : (way : Way) (front to from : List ℕ) → to ≡ way.to → from ≡ way.from → length to ≡ 6 → length from ≡ 6
    → put_mid 6 6 (to ++ drop 6 front) from ≡ addressed way front
addresses-copied way front to from e f long also = addresses-written to from front long also ∙ (λ k. (e k ++ f k) ++ drop 12 front)

pub rewritten-parts : (way : Way) (frame front packet new_front new_packet : List ℕ) (at : ℕ) → at ≡ offset_of frame → front ≡ take at frame
    → packet ≡ drop at frame
    → new_front ≡ addressed way front → new_packet ≡ with_header (renewed (header_of packet)) packet → new_front ++ new_packet ≡ rewritten way frame
unfolding rewritten
rewritten-parts way frame front packet new_front new_packet at e front_is packet_is a b =
    let first = a ∙ ap (addressed way) (front_is ∙ ap (λ n. take n frame) e) in
    let second = b ∙ ap (λ (p : List ℕ). with_header (renewed (header_of p)) p) (packet_is ∙ ap (λ n. drop n frame) e) in
    λ k. first k ++ second k
