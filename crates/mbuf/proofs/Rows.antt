-- The walk over a row of links, and what comes after it once a link was borrowed.
use Rattle.std.proofs.Common.{◌≡◌, ◌+◌, ◌-◌, ◌<◌, ◌≤◌, ℕ, zero, suc, List, [], ◌∷◌, ◌++◌, length, take, drop, refl, sym, ap, ◌∙◌, arith, append_assoc}
use Rattle.std.proofs.Math.Seq.{take-add}
use Rattle.std.proofs.lemmas.List.{length-drop, drop-drop}
use Rattle.mbuf.specs.Buffer.{Buffer}
use Rattle.mbuf.specs.Chain.{at_segment, part_of}
use Rattle.mbuf.specs.Lends.{at_link}
use Rattle.mbuf.specs.Links.{row}

-- a link that was reached over `half` links
pub record IsReached (half : ℕ) (from : List Buffer) (link : Buffer × List Buffer) : Type 0 where
  pub stands : row link ≡ drop half from

pub further : (half i : ℕ) (from : List Buffer) (link : Buffer × List Buffer) → IsReached half from link → half ≤ i → i < length from
    → i - half < suc (length link.1)
further half i from link reached below there = omega (arith, ap length reached.stands, length-drop half from)

pub behind_both : (half i : ℕ) (first : Buffer) (others : List Buffer) (link : Buffer × List Buffer) (w : List Buffer) → IsReached half (first ∷ others) link
    → 0 < half → half < i
    → take (half - 1) others ++ (link.0 ∷ (take (i - half - 1) link.1 ++ w)) ≡ take (i - 1) others ++ w
behind_both zero i first others link w reached some below = absurd (omega arith)
behind_both (suc h) i first others link w reached some below =
    let rest = i - suc h - 1 in
    let less : suc h - 1 ≡ h = omega arith in
    let more : h + suc rest ≡ i - 1 = omega arith in
    ap (λ k. take k others ++ (link.0 ∷ (take rest link.1 ++ w))) less
    ∙ ap (λ (l : List Buffer). take h others ++ (take (suc rest) l ++ w)) reached.stands
    ∙ sym (append_assoc (take h others) (take (suc rest) (drop h others)) w)
    ∙ ap (λ (l : List Buffer). l ++ w) (sym (take-add h (suc rest) others) ∙ ap (λ k. take k others) more)

pub reached_both : (half i : ℕ) (from : List Buffer) (link last : Buffer × List Buffer) → IsReached half from link → half ≤ i
    → row last ≡ drop (i - half) (row link) → row last ≡ drop i from
reached_both half i from link last reached below e =
    let more : half + (i - half) ≡ i = omega arith in
    e ∙ ap (drop (i - half)) reached.stands ∙ drop-drop (i - half) half from ∙ ap (λ k. drop k from) more

pub at_segment_is : (i : ℕ) (from : List Buffer) (link : Buffer × List Buffer) (f : Buffer → Buffer) → IsReached i from link
    → take i from ++ (f link.0 ∷ link.1) ≡ at_segment i f from
at_segment_is zero [] link f reached = absurd (let e = reached.stands in cc)
at_segment_is zero (b ∷ chain) link f reached =
    let e = reached.stands in
    let first : link.0 ≡ b = cc in
    let others : link.1 ≡ chain = cc in
    λ k. f (first k) ∷ others k
at_segment_is (suc i) [] link f reached = absurd (let e = reached.stands in cc)
at_segment_is (suc i) (b ∷ chain) link f reached = ap (λ (l : List Buffer). b ∷ l) (at_segment_is i chain link f (record { stands = reached.stands }))

pub part_of_is : (i : ℕ) (from : List Buffer) (link : Buffer × List Buffer) → IsReached i from link → link.0.bytes ≡ part_of from i
part_of_is zero [] link reached = absurd (let e = reached.stands in cc)
part_of_is zero (b ∷ chain) link reached = let e = reached.stands in let first : link.0 ≡ b = cc in ap (λ (b : Buffer). b.bytes) first
part_of_is (suc i) [] link reached = absurd (let e = reached.stands in cc)
part_of_is (suc i) (b ∷ chain) link reached = part_of_is i chain link (record { stands = reached.stands })

pub at_link_is : (i : ℕ) (from link : Buffer × List Buffer) (f : Buffer → Buffer) → 0 < i → IsReached i (row from) link
    → (from.0, take (i - 1) from.1 ++ (f link.0 ∷ link.1)) ≡ at_link i f from
at_link_is zero from link f some reached = absurd (omega arith)
at_link_is (suc i) from link f some reached =
    let less : suc i - 1 ≡ i = omega arith in
    ap (λ k. (from.0, take k from.1 ++ (f link.0 ∷ link.1))) less
    ∙ ap (λ (l : List Buffer). (from.0, l)) (at_segment_is i from.1 link f (record { stands = reached.stands }))

pub row_at_link : (i : ℕ) (f : Buffer → Buffer) (link : Buffer × List Buffer) → row (at_link i f link) ≡ at_segment i f (row link)
row_at_link zero f link = refl
row_at_link (suc i) f link = refl
