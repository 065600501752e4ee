-- One more packet leaves: how it changes the ports' texts and the counts.
use Rattle.std.proofs.Common.{◌≡◌, ℕ, ◌+◌, ◌⊎◌, inl, inr, Bool, true, false, List, [], ◌∷◌, ◌++◌, length, take, drop, Option, Some, None, slice_get, refl, sym}
use Rattle.std.proofs.Common.{ap, ◌∙◌, subst, append_assoc, append-nil, take-append-drop}
use Rattle.std.specs.List.{flat_map}
use Rattle.std.specs.Io.KnownBytes.{Appends, append_known}
use Rattle.std.proofs.lemmas.Grind.{flat_map-append}
use Rattle.std.proofs.Math.Seq.{take-append_seam}
use Rattle.pcapio.specs.Begin.{Begins}
use Rattle.pcapio.specs.Counted.{told}
use Rattle.pcapio_laws.specs.Text.{record_text, file_header}
use Rattle.pcapio.specs.Writer.{text, sink_of}
use Rattle.pcapio_laws.specs.declared.format.Resolution.{Resolution}
use Rattle.pcapio.specs.declared.writer.Writer.{Writer}
use Rattle.counters.specs.Counted.{is_sent_by}
use Rattle.stages_laws.specs.Output.{Fate, records_at, output_of}
use Rattle.run_one.specs.Ports.{IsBeginning, AreTexts, AreBegun, HasTexts, HasBegun}
use Rattle.run_one.specs.PortSteps.{AreLonger, AreCut, part_at}
use Rattle.stages_laws.proofs.Parts.{records-append}
use Rattle.run_one.proofs.Windows.{take_one_more}

two : (b : Bool) → (b ≡ true) ⊎ (b ≡ false)
two true = inl refl
two false = inr refl

-- the records of one fate at a port are its part
part_of : (q : ℕ) (o : Fate) → flat_map record_text (records_at q (o ∷ [])) ≡ part_at q o.verdict o.packet
part_of q o = elim (two (is_sent_by q o.verdict)) [
  | inl e ↦ rw e (append-nil (record_text o.packet))
  | inr e ↦ rw e refl
]

pub output_more : (resolution : Resolution) (q : ℕ) (xs ys : List Fate) → output_of resolution q (xs ++ ys) ≡ output_of resolution q xs ++ flat_map
    record_text (records_at q ys)
output_more resolution q xs ys =
    ap (λ l. file_header resolution ++ l) (ap (flat_map record_text) (records-append q xs ys) ∙ flat_map-append record_text (records_at q xs) (records_at q ys))
    ∙ sym (append_assoc (file_header resolution) (flat_map record_text (records_at q xs)) (flat_map record_text (records_at q ys)))

pub output_one_more : (resolution : Resolution) (q : ℕ) (all : List Fate) (n : ℕ) (o : Fate) → slice_get all n ≡ Some o
    → output_of resolution q (take (n + 1) all) ≡ output_of resolution q (take n all) ++ part_at q o.verdict o.packet
output_one_more resolution q all n o at =
    ap (output_of resolution q) (sym (take_one_more all n o at)) ∙ (output_more resolution q (take n all) (o ∷ []) ∙ ap
    (λ l. output_of resolution q (take n all) ++ l) (part_of q o))

-- the whole is the output of the first fates, and then something
pub output_front : (resolution : Resolution) (q : ℕ) (all : List Fate) (n : ℕ)
    → output_of resolution q all ≡ output_of resolution q (take n all) ++ flat_map record_text (records_at q (drop n all))
output_front resolution q all n = ap (output_of resolution q) (sym (take-append-drop n all)) ∙ output_more resolution q (take n all) (drop n all)

-- what was written and continues to a part of the whole is a prefix of it
pub beginning : (t : Option (List ℕ)) (part more whole : List ℕ) → Begins t (Some part) → part ++ more ≡ whole → IsBeginning t whole
beginning None part more whole b e = absurd b.1
beginning (Some y) part more whole b e =
    let all : whole ≡ y ++ (b.0 ++ more) = sym e ∙ (ap (λ l. l ++ more) (sym b.1) ∙ append_assoc y b.0 more) in
    ap Some (sym (ap (take (length y)) all ∙ take-append_seam y (b.0 ++ more)))

pub appended_text : (a : Option (List ℕ)) (x part : List ℕ) → Appends (Some x) a part → a ≡ Some (x ++ part)
appended_text None x part p = absurd p
appended_text (Some y) x part p = ap Some p

module _ {W : Type 0} where
  texts_longer : (contents : W → Option (List ℕ)) (before : List (Option (List ℕ))) (resolution : Resolution) (all : List Fate) (n : ℕ) (o : Fate)
      (old new : List (Writer W))
      → slice_get all n ≡ Some o → AreTexts contents before resolution (take n all) old → AreLonger contents old new (λ q. part_at q o.verdict o.packet)
      → AreTexts contents before resolution (take (n + 1) all) new
  texts_longer contents before resolution all n o old new at texts longer q w x got known =
      let m = longer q w got in
      let grown = subst (λ t. Appends t (text contents w) (part_at q o.verdict o.packet)) (texts q m.0 x m.1 known) m.2 in
      appended_text (text contents w) (x ++ output_of resolution q (take n all)) (part_at q o.verdict o.packet) grown
      ∙ ap Some (append_assoc x (output_of resolution q (take n all)) (part_at q o.verdict o.packet) ∙ ap (λ l. x ++ l)
      (sym (output_one_more resolution q all n o at)))

  begun_cut : (contents : W → Option (List ℕ)) (before : List (Option (List ℕ))) (resolution : Resolution) (all : List Fate) (n : ℕ) (o : Fate)
      (old new : List (Writer W))
      → slice_get all n ≡ Some o → AreTexts contents before resolution (take n all) old → AreCut contents old new (λ q. part_at q o.verdict o.packet)
      → AreBegun contents before resolution all new
  begun_cut contents before resolution all n o old new at texts cut q w x got known =
      let m = cut q w got in
      let part = part_at q o.verdict o.packet in
      let so_far = output_of resolution q (take n all) in
      let begins : Begins (told contents (sink_of w)) (Some ((x ++ so_far) ++ part)) =
      subst (λ t. Begins (told contents (sink_of w)) (append_known t part)) (texts q m.0 x m.1 known) m.2 in
      let rest = flat_map record_text (records_at q (drop (n + 1) all)) in
      beginning (told contents (sink_of w)) ((x ++ so_far) ++ part) rest (x ++ output_of resolution q all) begins
      (ap (λ l. l ++ rest) (append_assoc x so_far part ∙ ap (λ l. x ++ l) (sym (output_one_more resolution q all n o at)))
      ∙ (append_assoc x (output_of resolution q (take (n + 1) all)) rest ∙ ap (λ l. x ++ l) (sym (output_front resolution q all (n + 1)))))

  -- if no port fails, one more fate; if one fails, or failed before, a prefix of the whole
  pub texts_turn : (contents : W → Option (List ℕ)) (before : List (Option (List ℕ))) (resolution : Resolution) (outs : Option (List Fate)) (n : ℕ) (o : Fate)
      (was failed : Option ℕ) (old new : List (Writer W)) → ((all : List Fate) → outs ≡ Some all → slice_get all n ≡ Some o)
      → HasTexts contents before resolution outs n was old → ((p : ℕ) → was ≡ Some p → failed ≡ Some p)
      → (was ≡ None → failed ≡ None → AreLonger contents old new (λ q. part_at q o.verdict o.packet))
      → HasTexts contents before resolution outs (n + 1) failed new
  texts_turn contents before resolution outs n o None failed old new at texts still longer all known well =
      texts_longer contents before resolution all n o old new (at all known) (texts all known refl) (longer refl well)
  texts_turn contents before resolution outs n o (Some p) failed old new at texts still longer all known well =
      absurd (cc (sym well ∙ still p refl))

  pub begun_turn : (contents : W → Option (List ℕ)) (before : List (Option (List ℕ))) (resolution : Resolution) (outs : Option (List Fate)) (n : ℕ) (o : Fate)
      (was failed : Option ℕ) (old new : List (Writer W)) → ((all : List Fate) → outs ≡ Some all → slice_get all n ≡ Some o)
      → HasTexts contents before resolution outs n was old → HasBegun contents before resolution outs was old
      → ((p : ℕ) → was ≡ Some p → new ≡ old)
      → (was ≡ None → (p : ℕ) → failed ≡ Some p → AreCut contents old new (λ q. part_at q o.verdict o.packet))
      → HasBegun contents before resolution outs failed new
  begun_turn contents before resolution outs n o None failed old new at texts begun still cut all port known bad =
      begun_cut contents before resolution all n o old new (at all known) (texts all known refl) (cut refl port bad)
  begun_turn contents before resolution outs n o (Some p) failed old new at texts begun still cut all port known bad =
      subst (AreBegun contents before resolution all) (sym (still p refl)) (begun all p known refl)
