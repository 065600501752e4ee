-- All bytes are records, whatever they are.
use Rattle.std.proofs.Common.{◌≡◌, ℕ, zero, suc, ◌+◌, ◌≤◌, max, List, [], ◌∷◌, length, take, drop, refl, sym, ap, ◌∙◌, arith, inl, inr, take-append-drop}
use Rattle.std.proofs.lemmas.Bool.{cases_lt}
use Rattle.std.proofs.lemmas.List.{length-take-le, length-drop}
use Rattle.pcapio_laws.specs.declared.format.ByteOrder.{ByteOrder}
use Rattle.pcapio_laws.specs.Capture.{Packet, field, captured, IsRecord, End, Whole, Torn, Bad, AreRecords}
use Rattle.pcapio_laws.proofs.Fields.{field-front}

abbrev Read : ByteOrder → List ℕ → Type 0
Read order bytes = (packets : List Packet) × (end : End) × AreRecords order bytes packets end

abbrev packet_at : ByteOrder → List ℕ → Packet
packet_at order text =
    record { seconds = field order 0 text; fraction = field order 4 text; wire = max (field order 12 text) (captured order text); bytes = drop 16 text }

first_record : (order : ByteOrder) (bytes : List ℕ) (n : ℕ) → n ≡ 16 + captured order bytes → n ≤ length bytes → captured order bytes ≤ 262144
    → IsRecord order (take n bytes) (packet_at order (take n bytes))
first_record order bytes n e within small =
    let len = length-take-le n bytes within in
    let same : captured order bytes ≡ captured order (take n bytes) =
    ap (captured order) (sym (take-append-drop n bytes)) ∙ field-front order 8 (take n bytes) (drop n bytes) (omega arith) in
    record { whole = omega arith; small = omega arith; seconds = refl; fraction = refl; wire = refl; bytes = refl }

module _ (order : ByteOrder) where
  whole_record : (bytes : List ℕ) → 16 + captured order bytes ≤ length bytes → captured order bytes ≤ 262144
      → Read order (drop (16 + captured order bytes) bytes) → Read order bytes
  whole_record bytes within small more =
      let n = 16 + captured order bytes in (
        packet_at order (take n bytes) ∷ more.0,
        more.1,
        (
          take n bytes,
          drop n bytes,
          sym (take-append-drop n bytes),
          first_record order bytes n refl within small,
          more.2,
        ),
      )

  pub exists : (n : ℕ) (bytes : List ℕ) → length bytes ≤ n → Read order bytes
  exists n [] h = ([], Whole, refl)
  exists zero (x ∷ bytes) h = absurd (omega arith)
  exists (suc n) (x ∷ bytes) h = elim (cases_lt (length (x ∷ bytes)) 16) [
    | inl short ↦ ([], Torn, inl (omega arith, short))
    | inr header ↦ elim (cases_lt 262144 (captured order (x ∷ bytes))) [
      | inl bad ↦ ([], Bad, (header, bad))
      | inr small ↦ elim (cases_lt (length (x ∷ bytes)) (16 + captured order (x ∷ bytes))) [
        | inl short ↦ ([], Torn, inr (header, small, short))
        | inr within ↦
            whole_record (x ∷ bytes) within small (exists n (drop (16 + captured order (x ∷ bytes)) (x ∷ bytes))
            (omega (arith, length-drop (16 + captured order (x ∷ bytes)) (x ∷ bytes))))
      ]
    ]
  ]
