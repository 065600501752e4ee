-- What the devices of a run's ports have received at its end.
use Rattle.std.proofs.Common.{◌≡◌, ℕ, List, ◌++◌, take, Option, None, Some, slice_get, refl, sym, ap, ◌∙◌, subst}
use Rattle.std.specs.Io.KnownBytes.{Keeps}
use Rattle.std.specs.Option.{option_map}
use Rattle.std.proofs.lemmas.Option.{slice_get-map}
use Rattle.pcapio.specs.Begin.{Begins}
use Rattle.pcapio.specs.Counted.{told}
use Rattle.pcapio.specs.Writer.{text, sink_of}
use Rattle.pcapio.specs.declared.counted.Counted.{Counted}
use Rattle.pcapio_laws.specs.declared.format.Resolution.{Resolution}
use Rattle.pcapio.specs.declared.writer.Writer.{Writer}
use Rattle.stages_laws.specs.Output.{Fate, output_of, records_at}
use Rattle.std.specs.List.{flat_map}
use Rattle.pcapio_laws.specs.Text.{record_text}
use Rattle.std.proofs.Common.{drop, append_assoc}
use Rattle.run_one.specs.Ports.{devices_of, AreTexts, AreBegun, AreOutputs, AreBeginnings, IsBeginning}
use Rattle.run_one.specs.PortSteps.{AreTold, AreCutShort, AllTold, AllBegun}
use Rattle.run_one.proofs.Flushing.{kept_begins}
use Rattle.run_one.proofs.Texts.{beginning, output_front}

kept_known : (a : Option (List ℕ)) (x : List ℕ) → Keeps (Some x) a → a ≡ Some x
kept_known None x k = absurd k
kept_known (Some y) x k = ap Some k

module _ {W : Type 0} where
  -- a device at an index is that of the writer there
  pub writer_at : (writers : List (Writer W)) (q : ℕ) (d : Counted W) → slice_get (devices_of writers) q ≡ Some d
      → (w : Writer W) × (slice_get writers q ≡ Some w) × (sink_of w ≡ d)
  writer_at writers q d got = at (slice_get writers q) refl
    where
      at : (o : Option (Writer W)) → slice_get writers q ≡ o → (w : Writer W) × (slice_get writers q ≡ Some w) × (sink_of w ≡ d)
      at None e = absurd (cc (sym (slice_get-map sink_of writers q ∙ ap (option_map sink_of) e) ∙ got))
      at (Some w) e = (w, e, let f : Some (sink_of w) ≡ Some d = sym (slice_get-map sink_of writers q ∙ ap (option_map sink_of) e) ∙ got in cc f)

  pub told_devices : (contents : W → Option (List ℕ)) (old new : List (Writer W)) (devices : List (Counted W)) → AreTold contents old new
      → devices ≡ devices_of new → AllTold contents old devices
  told_devices contents old new devices all same q d got =
      let w = writer_at new q d (ap (λ l. slice_get l q) (sym same) ∙ got) in
      let m = all q w.0 w.1 in
      (m.0, m.1, subst (λ v. Keeps (text contents m.0) (told contents v)) w.2 m.2)

  pub begun_devices : (contents : W → Option (List ℕ)) (old new : List (Writer W)) (devices : List (Counted W)) → AreCutShort contents old new
      → devices ≡ devices_of new → AllBegun contents old devices
  begun_devices contents old new devices all same q d got =
      let w = writer_at new q d (ap (λ l. slice_get l q) (sym same) ∙ got) in
      let m = all q w.0 w.1 in
      (m.0, m.1, subst (λ v. Begins (told contents v) (text contents m.0)) w.2 m.2)

  -- all that the writers had is the whole text
  pub outputs : (contents : W → Option (List ℕ)) (before : List (Option (List ℕ))) (resolution : Resolution) (all : List Fate) (n : ℕ)
      (writers : List (Writer W)) (devices : List (Counted W))
      → AreTexts contents before resolution (take n all) writers → AllTold contents writers devices → take n all ≡ all
      → AreOutputs contents before resolution all devices
  outputs contents before resolution all n writers devices texts told_all whole q d x got known =
      let m = told_all q d got in
      let e = texts q m.0 x m.1 known in
      kept_known (told contents d) (x ++ output_of resolution q (take n all)) (subst (λ t. Keeps t (told contents d)) e m.2)
      ∙ ap (λ l. Some (x ++ output_of resolution q l)) whole

  pub begun_texts : (contents : W → Option (List ℕ)) (before : List (Option (List ℕ))) (resolution : Resolution) (all : List Fate) (n : ℕ)
      (writers : List (Writer W)) (devices : List (Counted W))
      → AreTexts contents before resolution (take n all) writers → AllBegun contents writers devices → AreBeginnings contents before resolution all devices
  begun_texts contents before resolution all n writers devices texts begun q d x got known =
      let m = begun q d got in
      let e = texts q m.0 x m.1 known in
      let rest = flat_map record_text (records_at q (drop n all)) in
      beginning (told contents d) (x ++ output_of resolution q (take n all)) rest (x ++ output_of resolution q all)
      (subst (λ t. Begins (told contents d) t) e m.2)
      (append_assoc x (output_of resolution q (take n all)) rest ∙ ap (λ l. x ++ l) (sym (output_front resolution q all n)))

  pub told_begun : (contents : W → Option (List ℕ)) (before : List (Option (List ℕ))) (resolution : Resolution) (all : List Fate) (n : ℕ)
      (writers : List (Writer W)) (devices : List (Counted W))
      → AreTexts contents before resolution (take n all) writers → AllTold contents writers devices → AreBeginnings contents before resolution all devices
  told_begun contents before resolution all n writers devices texts told_all q d x got known =
      let m = told_all q d got in
      let e = texts q m.0 x m.1 known in
      let rest = flat_map record_text (records_at q (drop n all)) in
      beginning (told contents d) (x ++ output_of resolution q (take n all)) rest (x ++ output_of resolution q all)
      (kept_begins (Some (x ++ output_of resolution q (take n all))) (told contents d) (subst (λ t. Keeps t (told contents d)) e m.2))
      (append_assoc x (output_of resolution q (take n all)) rest ∙ ap (λ l. x ++ l) (sym (output_front resolution q all n)))

  -- after a failure nothing more was written
  pub begun_before : (contents : W → Option (List ℕ)) (before : List (Option (List ℕ))) (resolution : Resolution) (all : List Fate)
      (writers : List (Writer W)) (devices : List (Counted W))
      → AreBegun contents before resolution all writers → devices ≡ devices_of writers → AreBeginnings contents before resolution all devices
  begun_before contents before resolution all writers devices begun same q d x got known =
      let w = writer_at writers q d (ap (λ l. slice_get l q) (sym same) ∙ got) in
      subst (λ v. IsBeginning (told contents v) (x ++ output_of resolution q all)) w.2 (begun q w.0 x w.1 known)
