-- What is waiting is written to the ports, one after another.
use Rattle.std.proofs.Common.{◌≡◌, ◌≢◌, ◌<◌, ◌≤◌, ℕ, ◌+◌, ◌⊎◌, inl, inr, List, [], length, Option, None, Some, slice_get, slice_set, refl, sym, ap, ◌∙◌, subst}
use Rattle.std.proofs.Common.{arith, append-nil}
use Rattle.std.specs.Io.KnownBytes.{Keeps, append_known}
use Rattle.std.proofs.lemmas.Option.{slice_get_within}
use Rattle.std.proofs.lemmas.Bool.{cases_lt}
use Rattle.pcapio.specs.Begin.{Begins}
use Rattle.pcapio.specs.Counted.{told}
use Rattle.pcapio.specs.WriteBuffer.{waiting}
use Rattle.pcapio.specs.Writer.{text, sink_of}
use Rattle.pcapio.specs.declared.writer.Writer.{Writer}
use Rattle.run_one.specs.PortSteps.{AreTold, AreCutShort, AreToldBelow}
use Rattle.run_one.proofs.Lists.{at_set}

pub kept_begins : (a t : Option (List ℕ)) → Keeps a t → Begins t a
kept_begins None t k = ([], tt)
kept_begins (Some x) None k = absurd k
kept_begins (Some x) (Some y) k = ([], append-nil y ∙ k)

waiting_begins : (t : Option (List ℕ)) (w : List ℕ) → Begins t (append_known t w)
waiting_begins None w = (w, tt)
waiting_begins (Some x) w = (w, refl)

module _ {W : Type 0} where
  pub none_told : (contents : W → Option (List ℕ)) (writers : List (Writer W)) → AreToldBelow contents 0 writers writers
  none_told contents writers q w got = (w, got, λ low. absurd (omega (arith, low)), λ _. refl)

  pub one_told : (contents : W → Option (List ℕ)) (i : ℕ) (old now : List (Writer W)) (was new : Writer W) → AreToldBelow contents i old now
      → slice_get now i ≡ Some was → Keeps (text contents was) (told contents (sink_of new)) → AreToldBelow contents (i + 1) old (slice_set now i new)
  one_told contents i old now was new so_far at kept q w got = elim (at_set now i q was new w at got) [
    | inl e ↦
        let m = so_far i was at in
        let same : was ≡ m.0 = m.3 (omega arith) in (
          m.0,
          ap (slice_get old) e.0 ∙ m.1,
          λ _. subst (λ v. Keeps (text contents m.0) (told contents (sink_of v))) (sym e.1)
              (subst (λ v. Keeps (text contents v) (told contents (sink_of new))) same kept),
          λ high. absurd (omega (arith, high, e.0)),
        )
    | inr e ↦
        let m = so_far q w e.1 in
        (m.0, m.1, λ low. m.2 (omega (arith, low, e.0)), λ high. m.3 (omega (arith, high)))
  ]

  pub all_told : (contents : W → Option (List ℕ)) (i : ℕ) (old now : List (Writer W)) → AreToldBelow contents i old now → length now ≤ i → AreTold
      contents old now
  all_told contents i old now so_far end q w got =
      let m = so_far q w got in
      (m.0, m.1, m.2 (omega (arith, slice_get_within now q w got)))

  others_cut : (contents : W → Option (List ℕ)) (i : ℕ) (old now : List (Writer W)) → AreToldBelow contents i old now → (q : ℕ) (w : Writer W) → q ≢ i
      → slice_get now q ≡ Some w → (q < i) ⊎ (i ≤ q) → (was : Writer W) × (slice_get old q ≡ Some was) × Begins (told contents (sink_of w)) (text contents was)
  others_cut contents i old now so_far q w not_i got (inl low) =
      let m = so_far q w got in (m.0, m.1, kept_begins (text contents m.0) (told contents (sink_of w)) (m.2 low))
  others_cut contents i old now so_far q w not_i got (inr high) =
      let m = so_far q w got in
      (m.0, m.1, subst (λ v. Begins (told contents (sink_of w)) (text contents v)) (m.3 high) (waiting_begins (told contents (sink_of w)) (waiting w.behind)))

  pub cut_short : (contents : W → Option (List ℕ)) (i : ℕ) (old now : List (Writer W)) (was new : Writer W) → AreToldBelow contents i old now
      → slice_get now i ≡ Some was → Begins (told contents (sink_of new)) (text contents was) → AreCutShort contents old (slice_set now i new)
  cut_short contents i old now was new so_far at begun q w got = elim (at_set now i q was new w at got) [
    | inl e ↦
        let m = so_far i was at in
        let same : was ≡ m.0 = m.3 (omega arith) in (
          m.0,
          ap (slice_get old) e.0 ∙ m.1,
          subst (λ v. Begins (told contents (sink_of v)) (text contents m.0)) (sym e.1)
              (subst (λ v. Begins (told contents (sink_of new)) (text contents v)) same begun),
        )
    | inr e ↦ others_cut contents i old now so_far q w e.0 e.1 (cases_lt q i)
  ]
