-- Fronts of frames: gathered ones, and those that are in a chain's first segment.
use Rattle.std.proofs.Common.{◌≡◌, ℕ, min, replicate, List, [], ◌∷◌, length, take, refl, inl, inr, arith}
use Rattle.std.proofs.lemmas.Bool.{cases_lt}
use Rattle.std.proofs.lemmas.List.{length-drop}
use Rattle.std.specs.List.{length_refill}
use Rattle.mbuf.specs.Buffer.{Buffer, rewritten}
use Rattle.mbuf.specs.Chain.{at_segment, shape_of}
use Rattle.ipv4.specs.Fields.{offset_of}
use Rattle.ipv4.specs.Head.{HoldsHeader}
use Rattle.ipv4.proofs.SentAgain.{offset_bounds}
use Rattle.ipv4.proofs.Heads.{IsEnough}

-- 78 bytes hold any header
longest_holds : (head : List ℕ) → length head ≡ 78 → HoldsHeader head
longest_holds head e =
    let bounds = offset_bounds head in
    let size = length-drop (offset_of head) head in
    record { long = omega arith; least = omega arith; whole = omega arith }

pub gathered_enough : (head frame : List ℕ) → length head ≡ min (length frame) 78 → head ≡ take (length head) frame → IsEnough head frame
gathered_enough head frame least e =
    record {
      front = e;
      enough = elim (cases_lt 78 (length frame)) [
        | inl long ↦ inr (longest_holds head (omega arith))
        | inr short ↦ inl (omega arith)
      ];
    }

-- bytes written over those of the first segment change no segment's shape
pub shape_rewritten : (w : List ℕ) (chain : List Buffer) → shape_of (at_segment 0 (rewritten w) chain) ≡ shape_of chain
shape_rewritten w [] = refl
shape_rewritten w (b ∷ chain) =
    let long : length (rewritten w b).bytes ≡ length b.bytes = omega (arith, length_refill (length b.bytes) b.bytes w refl) in
    λ k. record b { bytes = replicate (long k) 0 } ∷ shape_of chain
