-- Two runs over the same bytes have the same result.
use Rattle.std.proofs.Common.{◌≡◌, ◌<◌, ◌++◌, ℕ, zero, suc, List, [], ◌∷◌, Option, Some, length, map, slice_get, refl, sym, ap, ◌∙◌, arith}
use Rattle.std.proofs.lemmas.List.{length-map}
use Rattle.pcapio.specs.Counted.{told}
use Rattle.pcapio.specs.declared.counted.Counted.{Counted}
use Rattle.pcapio_laws.specs.Capture.{Capture, Case, Captured}
use Rattle.pcapio_laws.proofs.Cases.{one_case}
use Rattle.settings.specs.declared.read.Settings.{Settings}
use Rattle.stages_laws.specs.Output.{fates, output_of, tally_of}
use Rattle.run_one.specs.Whole.{AreKnown, IsRun, forwarding_by}
use Rattle.run_one.specs.declared.summary.Summary.{Summary}

capture_of : Case → Capture → Capture
capture_of (Captured c) d = c
capture_of other d = d

-- two lists of the same length give the same, if the elements at each index of both do
each_same : {A B : Type 0} (f : A → B) (xs ys : List A) → length xs ≡ length ys
    → ((q : ℕ) (x y : A) → q < length xs → slice_get xs q ≡ Some x → slice_get ys q ≡ Some y → f x ≡ f y) → map f xs ≡ map f ys
each_same f [] [] many same = refl
each_same f [] (y ∷ ys) many same = absurd (cc many)
each_same f (x ∷ xs) [] many same = absurd (cc many)
each_same f (x ∷ xs) (y ∷ ys) many same =
    ap (λ z. z ∷ map f xs) (same zero x y (omega arith) refl refl)
    ∙ ap (λ l. f y ∷ l) (each_same f xs ys (omega (arith, many)) (λ q u v inside. same (suc q) u v (omega (arith, inside))))

module _ {W : Type 0} (contents : W → Option (List ℕ)) (settings : Settings) (bytes : List ℕ) (writers one many : List (Counted W)) (a b : Summary)
    (r : IsRun contents settings bytes writers one a) (s : IsRun contents settings bytes writers many b) where
  same_capture : r.capture ≡ s.capture
  unfolding capture_of
  same_capture = ap (λ c. capture_of c r.capture) (one_case bytes (Captured r.capture) (Captured s.capture) r.is s.is)

  pub same_summary : (a.counts ≡ b.counts) × (a.torn ≡ b.torn)
  same_summary = (
    r.counts ∙ (ap (λ c. tally_of (length writers) (forwarding_by settings) settings.room c.packets) same_capture ∙ sym s.counts),
    r.torn ∙ (ap (λ c. c.torn) same_capture ∙ sym s.torn),
  )

  pub same_ports : (q : ℕ) (d e : Counted W) (x : List ℕ) → slice_get one q ≡ Some d → slice_get many q ≡ Some e
      → slice_get (map (told contents) writers) q ≡ Some (Some x) → told contents d ≡ told contents e
  same_ports q d e x one_at many_at before =
      r.outputs q d x one_at before
      ∙ (ap (λ c. Some (x ++ output_of c.resolution q (fates (forwarding_by settings) settings.room c.packets))) same_capture ∙ sym
      (s.outputs q e x many_at before))

  pub same_all : AreKnown (map (told contents) writers) → map (told contents) one ≡ map (told contents) many
  same_all known =
      each_same (told contents) one many (r.all ∙ sym s.all) (λ q d e inside one_at many_at.
      let before = known q (omega (arith, inside, r.all, length-map writers (told contents))) in
      same_ports q d e before.0 one_at many_at before.1)
