-- What a chain keeps, and the bounds that follow.
use Rattle.std.proofs.Common.{◌≡◌, ◌+◌, ◌-◌, ◌*◌, ◌<◌, ◌≤◌, ℕ, zero, suc, List, [], ◌∷◌, ◌++◌, length, take, drop, sym, refl, ap, ◌∙◌, subst, arith}
use Rattle.std.specs.List.{All, length_refill}
use Rattle.std.proofs.lemmas.List.{length-append, length-map, map-append, get_or_append_left, get_or-append-add, take_at, drop_at}
use Rattle.std.proofs.lemmas.List.Concat.{flat_map-append}
use Rattle.std.proofs.lemmas.List.Elements.{All-append}
use Rattle.std.proofs.lemmas.List.Sums.{sum_by-append, sum_by-cons}
use Rattle.burst.specs.Numbers.{times, AreDistinct}
use Rattle.mbuf.specs.Buffer.{Buffer, size_of, room_of, fresh, rewritten, overwritten}
use Rattle.mbuf.specs.Chain.{HasSameSegments, IsChain, numbers_of, bytes_of, fresh_of, space_of, first_bytes, at_segment, part_of, place_of_part}
use Rattle.mbuf.proofs.Copies.{written_past, drop_past}

abbrev IsSmall : Buffer → Type 0
IsSmall b = size_of b ≤ 131072

bytes_small : (chain : List Buffer) → All IsSmall (fresh_of chain) → length (bytes_of chain) ≤ length chain * 131072
bytes_small [] h = omega arith
bytes_small (b ∷ chain) h =
    omega (arith, length-append b.bytes (bytes_of chain), bytes_small chain (λ k d below. h (suc k) d (omega arith)), h 0 (fresh b) (omega arith))

space_small : (chain : List Buffer) → All IsSmall (fresh_of chain) → space_of chain ≤ length chain * 131072
space_small [] h = omega arith
space_small (b ∷ chain) h = omega (arith, sum_by-cons room_of b chain, space_small chain (λ k d below. h (suc k) d (omega arith)), h 0 (fresh b) (omega arith))

-- a packet has at most 2^23 bytes
pub bytes_few : (chain : List Buffer) → IsChain (fresh_of chain) → length (bytes_of chain) ≤ 8388608
bytes_few chain is = let few = is.few in omega (arith, length-map chain fresh, bytes_small chain is.small)

pub space_few : (chain : List Buffer) → IsChain (fresh_of chain) → space_of chain ≤ 8388608
space_few chain is = let few = is.few in omega (arith, length-map chain fresh, space_small chain is.small)

-- what keeps the segments keeps the numbers, and the fact that it is a chain
pub numbers_kept : (old new : List Buffer) → HasSameSegments new old → numbers_of new ≡ numbers_of old
numbers_kept old new e = of_fresh new ∙ ap numbers_of e ∙ sym (of_fresh old)
  where
    of_fresh : (chain : List Buffer) → numbers_of chain ≡ numbers_of (fresh_of chain)
    of_fresh [] = refl
    of_fresh (b ∷ chain) = ap (λ (l : List ℕ). b.number ∷ l) (of_fresh chain)

pub numbers_fresh : (chain : List Buffer) → numbers_of (fresh_of chain) ≡ numbers_of chain
numbers_fresh [] = refl
numbers_fresh (b ∷ chain) = ap (λ (l : List ℕ). b.number ∷ l) (numbers_fresh chain)

pub chain_kept : (old new : List Buffer) → HasSameSegments new old → IsChain (fresh_of old) → IsChain (fresh_of new)
chain_kept old new e is = subst IsChain (sym e) is

pub length_kept : (old new : List Buffer) → HasSameSegments new old → length new ≡ length old
length_kept old new e = sym (length-map new fresh) ∙ ap length e ∙ length-map old fresh

times-append : (b : ℕ) (xs ys : List ℕ) → times b (xs ++ ys) ≡ times b xs + times b ys
times-append b xs ys = sum_by-append _ xs ys

-- two chains without a number in common make one, if they aren't too long
pub chain_join : (one other : List Buffer) → IsChain (fresh_of one) → IsChain (fresh_of other) → AreDistinct (numbers_of one ++ numbers_of other)
    → length one + length other ≤ 64
    → IsChain (fresh_of (one ++ other))
chain_join one other is also apart few =
    let both : fresh_of (one ++ other) ≡ fresh_of one ++ fresh_of other = map-append fresh one other in
    let numbers : numbers_of (fresh_of (one ++ other)) ≡ numbers_of one ++ numbers_of other =
    numbers_fresh (one ++ other) ∙ map-append (λ (b : Buffer). b.number) one other in
    let some = is.some in
    record {
      some = omega (arith, ap length both, length-append (fresh_of one) (fresh_of other));
      few = omega (arith, ap length both, length-append (fresh_of one) (fresh_of other), length-map one fresh, length-map other fresh);
      distinct = subst AreDistinct (sym numbers) apart;
      small = subst (All IsSmall) (sym both) (All-append IsSmall (fresh_of one) (fresh_of other) is.small also.small);
    }

-- the parts of a chain are chains, if they have a segment
pub chain_front : (one other : List Buffer) → IsChain (fresh_of (one ++ other)) → 0 < length one → IsChain (fresh_of one)
chain_front one other is some =
    let both : fresh_of (one ++ other) ≡ fresh_of one ++ fresh_of other = map-append fresh one other in
    let whole = subst IsChain both is in
    let few = whole.few in
    record {
      some = omega (arith, length-map one fresh);
      few = omega (arith, length-append (fresh_of one) (fresh_of other));
      distinct =
          λ b. omega (
            arith,
            whole.distinct b,
            ap (times b) (map-append (λ (b : Buffer). b.number) (fresh_of one) (fresh_of other)),
            times-append b (numbers_of (fresh_of one)) (numbers_of (fresh_of other)),
          );
      small = λ k d below. subst IsSmall (get_or_append_left (fresh_of one) (fresh_of other) d k below)
          (whole.small k d (omega (arith, length-append (fresh_of one) (fresh_of other))));
    }

pub chain_back : (one other : List Buffer) → IsChain (fresh_of (one ++ other)) → 0 < length other → IsChain (fresh_of other)
chain_back one other is some =
    let both : fresh_of (one ++ other) ≡ fresh_of one ++ fresh_of other = map-append fresh one other in
    let whole = subst IsChain both is in
    let few = whole.few in
    record {
      some = omega (arith, length-map other fresh);
      few = omega (arith, length-append (fresh_of one) (fresh_of other));
      distinct =
          λ b. omega (
            arith,
            whole.distinct b,
            ap (times b) (map-append (λ (b : Buffer). b.number) (fresh_of one) (fresh_of other)),
            times-append b (numbers_of (fresh_of one)) (numbers_of (fresh_of other)),
          );
      small = λ k d below. subst IsSmall (get_or-append-add (fresh_of one) (fresh_of other) k d)
          (whole.small (length (fresh_of one) + k) d (omega (arith, length-append (fresh_of one) (fresh_of other))));
    }

pub fresh_again : (chain : List Buffer) → fresh_of (fresh_of chain) ≡ fresh_of chain
fresh_again [] = refl
fresh_again (b ∷ chain) =
    let same : size_of (fresh b) - b.reserve ≡ room_of b = omega arith in
    λ k. record (fresh b) { tailroom = same k } ∷ fresh_again chain k

pub bytes_of-fresh : (chain : List Buffer) → bytes_of (fresh_of chain) ≡ []
bytes_of-fresh [] = refl
bytes_of-fresh (b ∷ chain) = bytes_of-fresh chain

-- a chain whose bytes in one segment were written over
pub fresh_rewritten : (i : ℕ) (w : List ℕ) (chain : List Buffer) → fresh_of (at_segment i (rewritten w) chain) ≡ fresh_of chain
fresh_rewritten i w [] = refl
fresh_rewritten zero w (b ∷ chain) =
    let long : room_of (rewritten w b) ≡ room_of b = omega (arith, length_refill (length b.bytes) b.bytes w refl) in
    λ k. record (fresh b) { tailroom = long k } ∷ fresh_of chain
fresh_rewritten (suc i) w (b ∷ chain) = ap (λ (l : List Buffer). fresh b ∷ l) (fresh_rewritten i w chain)

pub bytes_rewritten : (i : ℕ) (w : List ℕ) (chain : List Buffer) → length (bytes_of (at_segment i (rewritten w) chain)) ≡ length (bytes_of chain)
bytes_rewritten i w [] = refl
bytes_rewritten zero w (b ∷ chain) =
    omega (arith, length-append (rewritten w b).bytes (bytes_of chain), length-append b.bytes (bytes_of chain), length_refill (length b.bytes) b.bytes w refl)
bytes_rewritten (suc i) w (b ∷ chain) =
    omega (arith, length-append b.bytes (bytes_of (at_segment i (rewritten w) chain)), length-append b.bytes (bytes_of chain), bytes_rewritten i w chain)

-- the borrowed bytes of a segment, in the packet
pub part_is : (i : ℕ) (chain : List Buffer) → part_of chain i ≡ take (length (part_of chain i)) (drop (place_of_part chain i) (bytes_of chain))
part_is i [] = refl
part_is zero (b ∷ chain) = sym (take_at b.bytes (bytes_of chain) (length b.bytes) refl)
part_is (suc i) (b ∷ chain) =
    part_is i chain ∙ ap (take (length (part_of chain i))) (sym
    (drop_past b.bytes (bytes_of chain) (place_of_part (b ∷ chain) (suc i)) (place_of_part chain i) (length-append b.bytes (bytes_of (take i chain)))))

pub part_within : (i : ℕ) (chain : List Buffer) → i < length chain → place_of_part chain i + length (part_of chain i) ≤ length (bytes_of chain)
part_within i [] there = absurd (omega arith)
part_within zero (b ∷ chain) there = omega (arith, length-append b.bytes (bytes_of chain))
part_within (suc i) (b ∷ chain) there =
    omega (arith, length-append b.bytes (bytes_of (take i chain)), length-append b.bytes (bytes_of chain), part_within i chain (omega arith))

-- and after they were written over
pub packet_rewritten : (i : ℕ) (w : List ℕ) (chain : List Buffer) → i < length chain → length w ≡ length (part_of chain i)
    → bytes_of (at_segment i (rewritten w) chain) ≡ overwritten (place_of_part chain i) w (bytes_of chain)
packet_rewritten i w [] there e = absurd (omega arith)
packet_rewritten zero w (b ∷ chain) there e =
    (λ k. take_at w (drop (length w) b.bytes) (length b.bytes) e k ++ bytes_of chain)
    ∙ ap (λ (l : List ℕ). w ++ l) (sym (drop_at b.bytes (bytes_of chain) (length w) (sym e)))
packet_rewritten (suc i) w (b ∷ chain) there e =
    ap (λ (l : List ℕ). b.bytes ++ l) (packet_rewritten i w chain (omega arith) e)
    ∙ sym (written_past b.bytes (bytes_of chain) w (place_of_part (b ∷ chain) (suc i)) (place_of_part chain i)
    (length-append b.bytes (bytes_of (take i chain))))

-- a chain of one segment, before others
pub first_alone : (one rest : List Buffer) → length one ≡ 1 → length (first_bytes (one ++ rest)) ≡ length (bytes_of one)
first_alone [] rest e = absurd (omega arith)
first_alone (b ∷ []) rest e = omega (arith, length-append b.bytes [])
first_alone (b ∷ next ∷ one) rest e = absurd (omega arith)

pub length-bytes_of-append : (one rest : List Buffer) → length (bytes_of (one ++ rest)) ≡ length (bytes_of one) + length (bytes_of rest)
length-bytes_of-append one rest = ap length (flat_map-append (λ (b : Buffer). b.bytes) one rest) ∙ length-append (bytes_of one) (bytes_of rest)

pub chain_joined : (one other new seen also_seen : List Buffer) → one ≡ seen → other ≡ also_seen → new ≡ one ++ other → IsChain (fresh_of one)
    → IsChain (fresh_of other)
    → AreDistinct (numbers_of seen ++ numbers_of also_seen) → length one + length other ≤ 64 → IsChain (fresh_of new)
chain_joined one other new seen also_seen e f g is also apart few =
    let apart_inside : AreDistinct (numbers_of one ++ numbers_of other) = subst AreDistinct (λ k. numbers_of (sym e k) ++ numbers_of (sym f k)) apart in
    subst (λ (l : List Buffer). IsChain (fresh_of l)) (sym g) (chain_join one other is also apart_inside few)
