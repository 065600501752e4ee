-- The bytes of a chain, written over from its first segment on.
use Rattle.std.proofs.Common.{◌≡◌, ℕ, zero, suc, ◌+◌, ◌-◌, ◌<◌, ◌≤◌, List, [], ◌∷◌, ◌++◌, length, take, drop, replicate, Option, Some, None, IfSome, refl, sym}
use Rattle.std.proofs.Common.{ap, ◌∙◌, arith, subst, append_assoc, length-append, add-one}
use Rattle.std.proofs.lemmas.List.{append-nil, take_at, length-replicate}
use Rattle.std.specs.Io.KnownBytes.{Consumes, Appends, append_known}
use Rattle.pcapio.specs.Begin.{Begins}
use Rattle.pcapio.proofs.Begins.{begins-front, begins-after}
use Rattle.std.specs.List.{refill, length_refill, fold}
use Rattle.std.proofs.KnownBytes.{Consumes-trans, Appends-trans}
use Rattle.mbuf.specs.Buffer.{Buffer, rewritten, blanked, fresh, room_of}
use Rattle.mbuf.specs.Chain.{HasSameSegments, bytes_of, shape_of, fresh_of, space_of, part_of, at_segment}

refill_same : (xs ws : List ℕ) → length ws ≡ length xs → refill (length xs) xs ws ≡ ws
refill_same xs ws e = take_at ws (drop (length ws) xs) (length xs) e

pub shape-rewritten : (i : ℕ) (w : List ℕ) (chain : List Buffer) → shape_of (at_segment i (rewritten w) chain) ≡ shape_of chain
shape-rewritten i w [] = refl
shape-rewritten zero w (b ∷ chain) =
    ap (λ n. (record { number = b.number; reserve = b.reserve; headroom = b.headroom; bytes = replicate n 0; tailroom = b.tailroom }) ∷ shape_of chain)
    (sym (length_refill (length b.bytes) b.bytes w refl))
shape-rewritten (suc i) w (b ∷ chain) = ap (λ rest. blanked b ∷ rest) (shape-rewritten i w chain)

bytes_suc : (i : ℕ) (w : List ℕ) (chain : List Buffer) → i < length chain → length w ≡ length (part_of chain i)
    → bytes_of (take (suc i) (at_segment i (rewritten w) chain)) ≡ bytes_of (take i chain) ++ w
bytes_suc i w [] h e = absurd (omega arith)
bytes_suc zero w (b ∷ chain) h e = append-nil _ ∙ refill_same b.bytes w e
bytes_suc (suc i) w (b ∷ chain) h e =
    ap (λ rest. b.bytes ++ rest) (bytes_suc i w chain (omega arith) e) ∙ sym (append_assoc b.bytes (bytes_of (take i chain)) w)

pub bytes-step : (i : ℕ) (w : List ℕ) (chain : List Buffer) → i < length chain → length w ≡ length (part_of chain i)
    → bytes_of (take (i + 1) (at_segment i (rewritten w) chain)) ≡ bytes_of (take i chain) ++ w
bytes-step i w chain h e = ap (λ n. bytes_of (take n (at_segment i (rewritten w) chain))) (add-one i) ∙ bytes_suc i w chain h e

pub taken-step : (a b c : Option (List ℕ)) (i : ℕ) (w : List ℕ) (chain : List Buffer) → i < length chain → length w ≡ length (part_of chain i)
    → Consumes a b (bytes_of (take i chain)) → Consumes b c w
    → Consumes a c (bytes_of (take (i + 1) (at_segment i (rewritten w) chain)))
taken-step a b c i w chain h e p q = subst (Consumes a c) (sym (bytes-step i w chain h e)) (Consumes-trans a b c _ w p q)

length-part : (i : ℕ) (chain : List Buffer) → length (bytes_of (take i chain)) + length (part_of chain i) ≤ length (bytes_of chain)
length-part zero [] = omega arith
length-part (suc i) [] = omega arith
length-part zero (b ∷ chain) = omega (arith, length-append b.bytes (bytes_of chain))
length-part (suc i) (b ∷ chain) =
    omega (arith, length-append b.bytes (bytes_of chain), length-append b.bytes (bytes_of (take i chain)), length-part i chain)

length-shape : (chain : List Buffer) → length (bytes_of (shape_of chain)) ≡ length (bytes_of chain)
length-shape [] = refl
length-shape (b ∷ chain) =
    omega (
      arith,
      length-append (replicate (length b.bytes) 0) (bytes_of (shape_of chain)),
      length-append b.bytes (bytes_of chain),
      length-replicate {A = ℕ} (length b.bytes) 0,
      length-shape chain,
    )

count_shape : (chain : List Buffer) → length (shape_of chain) ≡ length chain
count_shape [] = refl
count_shape (b ∷ chain) = ap suc (count_shape chain)

pub same_count : (a b : List Buffer) → shape_of a ≡ shape_of b → length a ≡ length b
same_count a b e = sym (count_shape a) ∙ ap length e ∙ count_shape b

pub same_length : (a b : List Buffer) → shape_of a ≡ shape_of b → length (bytes_of a) ≡ length (bytes_of b)
same_length a b e = sym (length-shape a) ∙ ap (λ c. length (bytes_of c)) e ∙ length-shape b

fresh-shape : (chain : List Buffer) → fresh_of (shape_of chain) ≡ fresh_of chain
fresh-shape [] = refl
fresh-shape (b ∷ chain) =
    ap (λ n. (record { number = b.number; reserve = b.reserve; headroom = b.reserve; bytes = []; tailroom = (b.headroom + n + b.tailroom) - b.reserve })
    ∷ fresh_of (shape_of chain)) (length-replicate {A = ℕ} (length b.bytes) 0)
    ∙ ap (λ rest. fresh b ∷ rest) (fresh-shape chain)

pub same_fresh : (a b : List Buffer) → shape_of a ≡ shape_of b → HasSameSegments a b
same_fresh a b e = sym (fresh-shape a) ∙ ap fresh_of e ∙ fresh-shape b

pub too_short : (a b : Option (List ℕ)) (bs : List ℕ) (n m : ℕ) → Consumes a b bs → IfSome b (λ left. length left < n) → length bs + n ≤ m
    → IfSome a (λ left. length left < m)
too_short None b bs n m p q h = tt
too_short (Some x) None bs n m p q h = absurd p
too_short (Some x) (Some y) bs n m p q h = omega (arith, ap length p, length-append bs y, q)

pub short_chain : (a b : Option (List ℕ)) (i : ℕ) (chain all : List Buffer) → Consumes a b (bytes_of (take i chain))
    → IfSome b (λ left. length left < length (part_of chain i)) → shape_of chain ≡ shape_of all
    → IfSome a (λ left. length left < length (bytes_of all))
short_chain a b i chain all p q e =
    too_short a b _ (length (part_of chain i)) _ p q (omega (arith, length-part i chain, same_length chain all e))

part_suc : (i : ℕ) (chain : List Buffer) → i < length chain → bytes_of (take (suc i) chain) ≡ bytes_of (take i chain) ++ part_of chain i
part_suc i [] h = absurd (omega arith)
part_suc zero (b ∷ chain) h = append-nil b.bytes
part_suc (suc i) (b ∷ chain) h =
    ap (λ rest. b.bytes ++ rest) (part_suc i chain (omega arith)) ∙ sym (append_assoc b.bytes (bytes_of (take i chain)) (part_of chain i))

pub bytes-part : (i : ℕ) (chain : List Buffer) → i < length chain → bytes_of (take (i + 1) chain) ≡ bytes_of (take i chain) ++ part_of chain i
bytes-part i chain h = ap (λ n. bytes_of (take n chain)) (add-one i) ∙ part_suc i chain h

rest_suc : (i : ℕ) (chain : List Buffer) → bytes_of chain ≡ bytes_of (take i chain) ++ bytes_of (drop i chain)
rest_suc zero chain = refl
rest_suc (suc i) [] = refl
rest_suc (suc i) (b ∷ chain) =
    ap (λ rest. b.bytes ++ rest) (rest_suc i chain) ∙ sym (append_assoc b.bytes (bytes_of (take i chain)) (bytes_of (drop i chain)))

-- the header, the first segments and one more begin the record
pub begins-record : (p a b : Option (List ℕ)) (head : List ℕ) (i : ℕ) (chain : List Buffer) → i < length chain
    → Appends a b (head ++ bytes_of (take i chain)) → Begins p (append_known b (part_of chain i))
    → Begins p (append_known a (head ++ bytes_of chain))
begins-record p a b head i chain h added begins =
    let more = bytes_of (drop (i + 1) chain) in
    let e : head ++ bytes_of chain ≡ ((head ++ bytes_of (take i chain)) ++ part_of chain i) ++ more =
    ap (λ rest. head ++ rest) (rest_suc (i + 1) chain ∙ ap (λ front. front ++ more) (bytes-part i chain h))
    ∙ sym (append_assoc head (bytes_of (take i chain) ++ part_of chain i) more)
    ∙ ap (λ front. front ++ more) (sym (append_assoc head (bytes_of (take i chain)) (part_of chain i))) in
    subst (λ l. Begins p (append_known a l)) (sym e)
    (begins-front p a ((head ++ bytes_of (take i chain)) ++ part_of chain i) more
    (begins-after a b p (head ++ bytes_of (take i chain)) (part_of chain i) added begins))

pub added-part : (a b c : Option (List ℕ)) (head : List ℕ) (i : ℕ) (chain : List Buffer) → i < length chain
    → Appends a b (head ++ bytes_of (take i chain)) → Appends b c (part_of chain i) → Appends a c (head ++ bytes_of (take (i + 1) chain))
added-part a b c head i chain h p q =
    subst (Appends a c) (append_assoc head (bytes_of (take i chain)) (part_of chain i) ∙ ap (λ rest. head ++ rest) (sym (bytes-part i chain h)))
    (Appends-trans a b c _ _ p q)

room-fresh : (b : Buffer) → room_of (fresh b) ≡ room_of b
room-fresh b =
    let h : (b.reserve + 0 + room_of b) - b.reserve ≡ room_of b = omega arith in
    h

fold-fresh : (n : ℕ) (chain : List Buffer) → fold (λ a b. a + room_of b) n (fresh_of chain) ≡ fold (λ a b. a + room_of b) n chain
fold-fresh n [] = refl
fold-fresh n (b ∷ chain) =
    ap (λ r. fold (λ a x. a + room_of x) (n + r) (fresh_of chain)) (room-fresh b) ∙ fold-fresh (n + room_of b) chain

space-fresh : (chain : List Buffer) → space_of (fresh_of chain) ≡ space_of chain
space-fresh chain = fold-fresh 0 chain

pub same_space : (a b : List Buffer) → HasSameSegments a b → space_of a ≡ space_of b
same_space a b e = sym (space-fresh a) ∙ ap space_of e ∙ space-fresh b
