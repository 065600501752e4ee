-- Ports before the first packet: each has a file header to write.
use Rattle.std.proofs.Common.{◌≡◌, ℕ, zero, suc, ◌+◌, Bool, length, sum, arith, List, [], ◌++◌, Option, Some, slice_get, map, refl, sym, ap, ◌∙◌, subst}
use Rattle.std.proofs.Common.{append-nil}
use Rattle.std.specs.Io.KnownBytes.{Appends}
use Rattle.std.proofs.lemmas.Option.{slice_get-map}
use Rattle.std.specs.Option.{option_map}
use Rattle.counters.specs.Counted.{counts_of, of_kinds, is_sent_by}
use Rattle.ipv4.specs.declared.Verdict.{Verdict}
use Rattle.counters.specs.Tally.{records_of}
use Rattle.pcapio.specs.Counted.{told}
use Rattle.pcapio_laws.specs.Text.{file_header}
use Rattle.pcapio.specs.Writer.{text, sink_of}
use Rattle.pcapio_laws.specs.declared.format.Resolution.{Resolution}
use Rattle.pcapio.specs.declared.writer.Writer.{Writer}
use Rattle.stages_laws.specs.Output.{Fate}
use Rattle.run_one.specs.Ports.{AreFresh, HasTexts, devices_of}
use Rattle.run_one.specs.Tallies.{IsTally}
use Rattle.run_one.proofs.Texts.{appended_text}

module _ {W : Type 0} where
  -- what a device received before the run is what it has received now
  told_before : (contents : W → Option (List ℕ)) (writers : List (Writer W)) (before : List (Option (List ℕ))) (q : ℕ) (w : Writer W) (x : List ℕ)
      → map (told contents) (devices_of writers) ≡ before → slice_get writers q ≡ Some w → slice_get before q ≡ Some (Some x) → told contents
      (sink_of w) ≡ Some x
  told_before contents writers before q w x same got known =
      let all = sym (slice_get-map (told contents) (devices_of writers) q)
      ∙ (ap (λ l. slice_get l q) same ∙ known) in
      let one = slice_get-map sink_of writers q ∙ ap (option_map sink_of) got in
      let e : Some (told contents (sink_of w)) ≡ Some (Some x) = sym (ap (option_map (told contents)) one) ∙ all in
      cc e

  pub fresh_texts : (contents : W → Option (List ℕ)) (before : List (Option (List ℕ))) (resolution : Resolution) (outs : Option (List Fate))
      (failed : Option ℕ) (writers : List (Writer W))
      → map (told contents) (devices_of writers) ≡ before → AreFresh contents resolution writers → HasTexts contents before resolution outs 0 failed writers
  fresh_texts contents before resolution outs failed writers same fresh all known well q w x got at =
      let f = fresh q w got in
      appended_text (text contents w) x (file_header resolution) (subst (λ t. Appends t (text contents w) (file_header resolution))
      (told_before contents writers before q w x same got at) f.0)
      ∙ ap (λ l. Some (x ++ l)) (sym (append-nil (file_header resolution)))

pub fresh_tally : (outs : Option (List Fate)) (ports : ℕ) → IsTally outs ports 0 (counts_of ports 0 [])
fresh_tally outs ports all known = refl

kinds_long : (is_of : ℕ → Verdict → Bool) (first n : ℕ) (vs : List Verdict) → length (of_kinds is_of first n vs) ≡ n
kinds_long is_of first zero vs = refl
kinds_long is_of first (suc n) vs = ap (λ k. suc k) (kinds_long is_of (first + 1) n vs)

pub counted_ports : (ports : ℕ) → length (counts_of ports 0 []).sent ≡ ports
counted_ports ports = kinds_long is_sent_by 0 ports []

no_kinds : (is_of : ℕ → Verdict → Bool) (first n : ℕ) → sum (of_kinds is_of first n []) ≡ 0
no_kinds is_of first zero = refl
no_kinds is_of first (suc n) = no_kinds is_of (first + 1) n

pub no_records : (ports : ℕ) → records_of (counts_of ports 0 []) ≡ 0
no_records ports = omega (arith, no_kinds is_sent_by 0 ports)
