-- Bytes are records in only one way.
use Rattle.std.proofs.Common.{◌≡◌, ℕ, List, [], ◌∷◌, ◌++◌, length, take, drop, refl, sym, ap, ◌∙◌, arith, subst, inl, inr, length-append}
use Rattle.std.proofs.lemmas.List.{take_at, drop_at}
use Rattle.pcapio_laws.specs.declared.format.ByteOrder.{ByteOrder}
use Rattle.pcapio_laws.specs.Capture.{Packet, captured, IsRecord, End, Whole, Torn, Bad, IsEnd, AreRecords}
use Rattle.pcapio_laws.proofs.Fields.{field-front}

-- the record at the start of the bytes is as long as its header states
said : (order : ByteOrder) (bytes text rest : List ℕ) (p : Packet) → bytes ≡ text ++ rest → IsRecord order text p → captured order bytes ≡ captured order text
said order bytes text rest p e h =
    let whole = h.whole in
    ap (captured order) e ∙ field-front order 8 text rest (omega arith)

record_end : (order : ByteOrder) (bytes text rest : List ℕ) (p : Packet) (e : End) → bytes ≡ text ++ rest → IsRecord order text p → IsEnd order bytes e → ⊥
record_end order bytes text rest p Whole eq h end =
    omega (arith, h.whole, ap length eq, ap length end, length-append text rest)
record_end order bytes text rest p Torn eq h (inl end) =
    omega (arith, h.whole, end.1, ap length eq, length-append text rest)
record_end order bytes text rest p Torn eq h (inr end) =
    omega (arith, h.whole, end.2, ap length eq, length-append text rest, said order bytes text rest p eq h)
record_end order bytes text rest p Bad eq h end =
    omega (arith, h.small, end.1, said order bytes text rest p eq h)

one_end : (order : ByteOrder) (bytes : List ℕ) (e f : End) → IsEnd order bytes e → IsEnd order bytes f → e ≡ f
one_end order bytes Whole Whole p q = refl
one_end order bytes Whole Torn p (inl q) = absurd (omega (arith, ap length p, q.0))
one_end order bytes Whole Torn p (inr q) = absurd (omega (arith, ap length p, q.0))
one_end order bytes Whole Bad p q = absurd (omega (arith, ap length p, q.0))
one_end order bytes Torn Whole (inl p) q = absurd (omega (arith, ap length q, p.0))
one_end order bytes Torn Whole (inr p) q = absurd (omega (arith, ap length q, p.0))
one_end order bytes Torn Torn p q = refl
one_end order bytes Torn Bad (inl p) q = absurd (omega (arith, p.1, q.0))
one_end order bytes Torn Bad (inr p) q = absurd (omega (arith, p.1, q.1))
one_end order bytes Bad Whole p q = absurd (omega (arith, ap length q, p.0))
one_end order bytes Bad Torn p (inl q) = absurd (omega (arith, p.0, q.1))
one_end order bytes Bad Torn p (inr q) = absurd (omega (arith, p.1, q.1))
one_end order bytes Bad Bad p q = refl

one_packet : (order : ByteOrder) (text : List ℕ) (p q : Packet) → IsRecord order text p → IsRecord order text q → p ≡ q
one_packet order text p q h k =
    let made : ℕ → ℕ → ℕ → List ℕ → Packet = λ s f w b. record { seconds = s; fraction = f; wire = w; bytes = b } in
    let s = h.seconds ∙ sym k.seconds in
    let f = h.fraction ∙ sym k.fraction in
    let w = h.wire ∙ sym k.wire in
    let b = h.bytes ∙ sym k.bytes in
    ap (λ (x : ℕ). made x (p.fraction) (p.wire) (p.bytes)) s
    ∙ ap (λ (x : ℕ). made (q.seconds) (x) (p.wire) (p.bytes)) f
    ∙ ap (λ (x : ℕ). made (q.seconds) (q.fraction) (x) (p.bytes)) w
    ∙ ap (λ (x : List ℕ). made (q.seconds) (q.fraction) (q.wire) (x)) b

pub one : (order : ByteOrder) (ps qs : List Packet) (bytes : List ℕ) (e f : End) → AreRecords order bytes ps e → AreRecords order bytes qs f → (ps ≡ qs)
    × (e ≡ f)
one order [] [] bytes e f h k = (refl, one_end order bytes e f h k)
one order [] (q ∷ qs) bytes e f h k = absurd (record_end order bytes k.0 k.1 q e k.2 k.3 h)
one order (p ∷ ps) [] bytes e f h k = absurd (record_end order bytes h.0 h.1 p f h.2 h.3 k)
one order (p ∷ ps) (q ∷ qs) bytes e f h k =
    let whole_h = h.3.whole in
    let whole_k = k.3.whole in
    let len : length h.0 ≡ length k.0 =
    omega (arith, whole_h, whole_k, said order bytes h.0 h.1 p h.2 h.3, said order bytes k.0 k.1 q k.2 k.3) in
    let both : h.0 ++ h.1 ≡ k.0 ++ k.1 = sym h.2 ∙ k.2 in
    let text : h.0 ≡ k.0 = sym (take_at h.0 h.1 (length k.0) len) ∙ ap (take (length k.0)) both ∙ take_at k.0 k.1 (length k.0) refl in
    let rest : h.1 ≡ k.1 = sym (drop_at h.0 h.1 (length k.0) len) ∙ ap (drop (length k.0)) both ∙ drop_at k.0 k.1 (length k.0) refl in
    let same = one_packet order k.0 p q (subst (λ t. IsRecord order t p) text h.3) k.3 in
    let more = one order ps qs k.1 e f (subst (λ r. AreRecords order r ps e) rest h.4) k.4 in
    (ap (λ x. x ∷ ps) same ∙ ap (λ xs. q ∷ xs) more.0, more.1)
