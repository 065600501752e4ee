-- Each list of bytes is in exactly one case.
use Rattle.std.proofs.Common.{◌≡◌, ◌⊎◌, ℕ, ◌≤◌, ◌%◌, ◌^◌, List, [], ◌∷◌, length, take, drop, get_or, Bool, true, false, refl, sym, ap, ◌∙◌, arith, subst, inl}
use Rattle.std.proofs.Common.{inr}
use Rattle.std.proofs.lemmas.Bool.{cases_lt, cases_eq}
use Rattle.pcapio_laws.specs.declared.fault.CapFault.{CapFault}
use Rattle.pcapio_laws.specs.declared.fault.CapFault.TheVariants.{NotPcap, BadVersion, BadLink, BadRecord, Read, Write, Memory}
use Rattle.pcapio_laws.specs.declared.format.ByteOrder.{ByteOrder}
use Rattle.pcapio_laws.specs.declared.format.ByteOrder.TheVariants.{Little, Big}
use Rattle.pcapio_laws.specs.declared.format.Resolution.{Resolution}
use Rattle.pcapio_laws.specs.declared.format.Resolution.TheVariants.{Micro, Nano}
use Rattle.pcapio_laws.specs.Capture.{Packet, field, short_field, bytes_in, magic_of, HasMagic, HasVersion, HasLink, HasHeader, End, Whole, Torn, Bad}
use Rattle.pcapio_laws.specs.Capture.{AreRecords, end_of, Capture, IsCapture, IsNotPcap, Short, Other, IsRefused, Case, Captured, Refused, IsCase}
use Rattle.pcapio_laws.proofs.Unique.{one}
use Rattle.pcapio_laws.proofs.Exists.{exists}

list_cases : (xs ys : List ℕ) → (xs ≡ ys) ⊎ (xs ≡ ys → ⊥)
list_cases [] [] = inl refl
list_cases [] (y ∷ ys) = inr (λ e. cc)
list_cases (x ∷ xs) [] = inr (λ e. cc)
list_cases (x ∷ xs) (y ∷ ys) = elim (cases_eq x y) [
  | inl e ↦ elim (list_cases xs ys) [ inl f ↦ inl (cc) | inr n ↦ inr (λ h. n (cc)) ]
  | inr n ↦ inr (λ h. n (cc))
]

pub one_magic : (bytes : List ℕ) (o p : ByteOrder) (r s : Resolution) → HasMagic bytes o r → HasMagic bytes p s → (o ≡ p) × (r ≡ s)
one_magic bytes Little Little Micro Micro h k = (refl, refl)
one_magic bytes Little Little Nano Nano h k = (refl, refl)
one_magic bytes Big Big Micro Micro h k = (refl, refl)
one_magic bytes Big Big Nano Nano h k = (refl, refl)
one_magic bytes Little Little Micro Nano h k = let n : ◌≡◌ {A = ℕ} 212 77 = ap (λ (l : List ℕ). get_or l 0 0) (sym h ∙ k) in absurd (omega arith)
one_magic bytes Little Big Micro Micro h k = let n : ◌≡◌ {A = ℕ} 212 161 = ap (λ (l : List ℕ). get_or l 0 0) (sym h ∙ k) in absurd (omega arith)
one_magic bytes Little Big Micro Nano h k = let n : ◌≡◌ {A = ℕ} 212 161 = ap (λ (l : List ℕ). get_or l 0 0) (sym h ∙ k) in absurd (omega arith)
one_magic bytes Little Little Nano Micro h k = let n : ◌≡◌ {A = ℕ} 77 212 = ap (λ (l : List ℕ). get_or l 0 0) (sym h ∙ k) in absurd (omega arith)
one_magic bytes Little Big Nano Micro h k = let n : ◌≡◌ {A = ℕ} 77 161 = ap (λ (l : List ℕ). get_or l 0 0) (sym h ∙ k) in absurd (omega arith)
one_magic bytes Little Big Nano Nano h k = let n : ◌≡◌ {A = ℕ} 77 161 = ap (λ (l : List ℕ). get_or l 0 0) (sym h ∙ k) in absurd (omega arith)
one_magic bytes Big Little Micro Micro h k = let n : ◌≡◌ {A = ℕ} 161 212 = ap (λ (l : List ℕ). get_or l 0 0) (sym h ∙ k) in absurd (omega arith)
one_magic bytes Big Little Micro Nano h k = let n : ◌≡◌ {A = ℕ} 161 77 = ap (λ (l : List ℕ). get_or l 0 0) (sym h ∙ k) in absurd (omega arith)
one_magic bytes Big Big Micro Nano h k = let n : ◌≡◌ {A = ℕ} 195 60 = ap (λ (l : List ℕ). get_or l 2 0) (sym h ∙ k) in absurd (omega arith)
one_magic bytes Big Little Nano Micro h k = let n : ◌≡◌ {A = ℕ} 161 212 = ap (λ (l : List ℕ). get_or l 0 0) (sym h ∙ k) in absurd (omega arith)
one_magic bytes Big Little Nano Nano h k = let n : ◌≡◌ {A = ℕ} 161 77 = ap (λ (l : List ℕ). get_or l 0 0) (sym h ∙ k) in absurd (omega arith)
one_magic bytes Big Big Nano Micro h k = let n : ◌≡◌ {A = ℕ} 60 195 = ap (λ (l : List ℕ). get_or l 2 0) (sym h ∙ k) in absurd (omega arith)

one_torn : (s t : Bool) → end_of s ≡ end_of t → s ≡ t
one_torn true true e = refl
one_torn false false e = refl
one_torn true false e = absurd (cc)
one_torn false true e = absurd (cc)

not_bad : (t : Bool) → end_of t ≡ Bad → ⊥
not_bad true e = cc
not_bad false e = cc

no_magic : (bytes : List ℕ) (o : ByteOrder) (r : Resolution) → IsNotPcap bytes → 24 ≤ length bytes → HasMagic bytes o r → ⊥
no_magic bytes o r (Short h) whole m = omega arith
no_magic bytes o r (Other h) whole m = h o r m

module _ (bytes : List ℕ) where
  same_version : (o p : ByteOrder) (r s : Resolution) → HasMagic bytes o r → HasMagic bytes p s → ¬ HasVersion bytes o → HasVersion bytes p → ⊥
  same_version o p r s h k n v = n (subst (HasVersion bytes) (sym (one_magic bytes o p r s h k).0) v)

  same_link : (o p : ByteOrder) (r s : Resolution) → HasMagic bytes o r → HasMagic bytes p s → ¬ HasLink bytes o → HasLink bytes p → ⊥
  same_link o p r s h k n v = n (subst (HasLink bytes) (sym (one_magic bytes o p r s h k).0) v)

  same_records : (o p : ByteOrder) (r s : Resolution) (ps qs : List Packet) (e f : End) → HasMagic bytes o r → HasMagic bytes p s
      → AreRecords o (drop 24 bytes) ps e → AreRecords p (drop 24 bytes) qs f → (ps ≡ qs) × (e ≡ f)
  same_records o p r s ps qs e f h k a b =
      one p ps qs (drop 24 bytes) e f (subst (λ x. AreRecords x (drop 24 bytes) ps e) (one_magic bytes o p r s h k).0 a) b

  no_capture : (c : Capture) (fault : CapFault) → IsCapture bytes c → IsRefused bytes fault → ⊥
  no_capture c NotPcap h k = no_magic bytes c.order c.resolution k h.header.whole h.header.magic
  no_capture c BadVersion h k = same_version k.order c.order k.resolution c.resolution k.magic h.header.magic k.version h.header.version
  no_capture c BadLink h k = same_link k.order c.order k.resolution c.resolution k.magic h.header.magic k.link h.header.link
  no_capture c BadRecord h k =
      not_bad c.torn (same_records c.order k.order c.resolution k.resolution c.packets k.packets (end_of c.torn) Bad h.header.magic k.header.magic h.records
      k.records).1
  no_capture c Read h k = k
  no_capture c Write h k = k
  no_capture c Memory h k = k

  one_refusal : (a b : CapFault) → IsRefused bytes a → IsRefused bytes b → a ≡ b
  one_refusal NotPcap NotPcap h k = refl
  one_refusal BadVersion BadVersion h k = refl
  one_refusal BadLink BadLink h k = refl
  one_refusal BadRecord BadRecord h k = refl
  one_refusal NotPcap BadVersion h k = absurd (no_magic bytes k.order k.resolution h k.whole k.magic)
  one_refusal NotPcap BadLink h k = absurd (no_magic bytes k.order k.resolution h k.whole k.magic)
  one_refusal NotPcap BadRecord h k = absurd (no_magic bytes k.order k.resolution h k.header.whole k.header.magic)
  one_refusal BadVersion NotPcap h k = absurd (no_magic bytes h.order h.resolution k h.whole h.magic)
  one_refusal BadLink NotPcap h k = absurd (no_magic bytes h.order h.resolution k h.whole h.magic)
  one_refusal BadRecord NotPcap h k = absurd (no_magic bytes h.order h.resolution k h.header.whole h.header.magic)
  one_refusal BadVersion BadLink h k = absurd (same_version h.order k.order h.resolution k.resolution h.magic k.magic h.version k.version)
  one_refusal BadLink BadVersion h k = absurd (same_version k.order h.order k.resolution h.resolution k.magic h.magic k.version h.version)
  one_refusal BadVersion BadRecord h k = absurd (same_version h.order k.order h.resolution k.resolution h.magic k.header.magic h.version k.header.version)
  one_refusal BadRecord BadVersion h k = absurd (same_version k.order h.order k.resolution h.resolution k.magic h.header.magic k.version h.header.version)
  one_refusal BadLink BadRecord h k = absurd (same_link h.order k.order h.resolution k.resolution h.magic k.header.magic h.link k.header.link)
  one_refusal BadRecord BadLink h k = absurd (same_link k.order h.order k.resolution h.resolution k.magic h.header.magic k.link h.header.link)
  one_refusal Read b h k = absurd h
  one_refusal Write b h k = absurd h
  one_refusal Memory b h k = absurd h
  one_refusal a Read h k = absurd k
  one_refusal a Write h k = absurd k
  one_refusal a Memory h k = absurd k

  one_capture : (c d : Capture) → IsCapture bytes c → IsCapture bytes d → c ≡ d
  one_capture c d h k =
      let m = one_magic bytes c.order d.order c.resolution d.resolution h.header.magic k.header.magic in
      let r = same_records c.order d.order c.resolution d.resolution c.packets d.packets (end_of c.torn) (end_of d.torn) h.header.magic k.header.magic h.records
      k.records in
      let o : c.order ≡ d.order = m.0 in
      let s : c.resolution ≡ d.resolution = m.1 in
      let p : c.packets ≡ d.packets = r.0 in
      let t : c.torn ≡ d.torn = one_torn c.torn d.torn r.1 in
      let made : ByteOrder → Resolution → List Packet → Bool → Capture = λ a b e f. record { order = a; resolution = b; packets = e; torn = f } in
      ap (λ x. made x c.resolution c.packets c.torn) o ∙ ap (λ x. made d.order x c.packets c.torn) s
      ∙ ap (λ x. made d.order d.resolution x c.torn) p ∙ ap (λ x. made d.order d.resolution d.packets x) t

  pub one_case : (a b : Case) → IsCase bytes a → IsCase bytes b → a ≡ b
  one_case (Captured c) (Captured d) h k = ap Captured (one_capture c d h k)
  one_case (Captured c) (Refused f) h k = absurd (no_capture c f h k)
  one_case (Refused f) (Captured d) h k = absurd (no_capture d f k h)
  one_case (Refused f) (Refused g) h k = ap Refused (one_refusal f g h k)

abbrev InSome : List ℕ → Type 0
InSome bytes = (case : Case) × IsCase bytes case

by_records : (bytes : List ℕ) (o : ByteOrder) (r : Resolution) → HasHeader bytes o r → (ps : List Packet) (e : End) → AreRecords o (drop 24 bytes) ps e
    → InSome bytes
by_records bytes o r h ps Whole a = (Captured (record { order = o; resolution = r; packets = ps; torn = false }), record { header = h; records = a })
by_records bytes o r h ps Torn a = (Captured (record { order = o; resolution = r; packets = ps; torn = true }), record { header = h; records = a })
by_records bytes o r h ps Bad a = (Refused BadRecord, record { order = o; resolution = r; packets = ps; header = h; records = a })

by_link : (bytes : List ℕ) (o : ByteOrder) (r : Resolution) → 24 ≤ length bytes → HasMagic bytes o r → HasVersion bytes o → InSome bytes
by_link bytes o r whole m v = elim (cases_eq (field o 20 bytes % 2 ^ 16) 1) [
  | inl l ↦
      let found = exists o (length (drop 24 bytes)) (drop 24 bytes) (omega arith) in
      by_records bytes o r (record { whole = whole; magic = m; version = v; link = l }) found.0 found.1 found.2
  | inr n ↦ (Refused BadLink, record { order = o; resolution = r; whole = whole; magic = m; version = v; link = n })
]

by_version : (bytes : List ℕ) (o : ByteOrder) (r : Resolution) → 24 ≤ length bytes → HasMagic bytes o r → InSome bytes
by_version bytes o r whole m = elim (cases_eq (short_field o 4 bytes) 2) [
  | inl major ↦ elim (cases_eq (short_field o 6 bytes) 4) [
    | inl minor ↦ by_link bytes o r whole m (major, minor)
    | inr n ↦ (Refused BadVersion, record { order = o; resolution = r; whole = whole; magic = m; version = λ v. n v.1 })
  ]
  | inr n ↦ (Refused BadVersion, record { order = o; resolution = r; whole = whole; magic = m; version = λ v. n v.0 })
]

none_of_four : (bytes : List ℕ) → (HasMagic bytes Little Micro → ⊥) → (HasMagic bytes Little Nano → ⊥) → (HasMagic bytes Big Micro → ⊥)
    → (HasMagic bytes Big Nano → ⊥)
    → (o : ByteOrder) (r : Resolution) → HasMagic bytes o r → ⊥
none_of_four bytes a b c d Little Micro m = a m
none_of_four bytes a b c d Little Nano m = b m
none_of_four bytes a b c d Big Micro m = c m
none_of_four bytes a b c d Big Nano m = d m

magic_cases : (bytes : List ℕ) (o : ByteOrder) (r : Resolution) → HasMagic bytes o r ⊎ (HasMagic bytes o r → ⊥)
magic_cases bytes o r = list_cases (take 4 bytes) (bytes_in o 4 (magic_of r))

by_magic : (bytes : List ℕ) → 24 ≤ length bytes → InSome bytes
by_magic bytes whole = elim (magic_cases bytes Little Micro) [
  | inl m ↦ by_version bytes Little Micro whole m
  | inr a ↦ elim (magic_cases bytes Little Nano) [
    | inl m ↦ by_version bytes Little Nano whole m
    | inr b ↦ elim (magic_cases bytes Big Micro) [
      | inl m ↦ by_version bytes Big Micro whole m
      | inr c ↦ elim (magic_cases bytes Big Nano) [
        | inl m ↦ by_version bytes Big Nano whole m
        | inr d ↦ (Refused NotPcap, Other (none_of_four bytes a b c d))
      ]
    ]
  ]
]

pub some_case : (bytes : List ℕ) → InSome bytes
some_case bytes = elim (cases_lt (length bytes) 24) [
  | inl short ↦ (Refused NotPcap, Short short)
  | inr whole ↦ by_magic bytes whole
]
