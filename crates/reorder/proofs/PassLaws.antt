-- An item that goes by in its turn: the window is what it would be if the item had come in and left.
use Rattle.std.proofs.Common.{◌≡◌, ℕ, ◌+◌, inl, inr, Some, None, ap, sym, ◌∙◌}
use Rattle.std.specs.Cmp.{nat_cmp_total}
use Rattle.std.specs.FinMap.{get, insert, remove, get-insert, get-remove, same_map, nat_cmp-IsAntisymmetric}
use Rattle.std.proofs.lemmas.Bool.{cases_eq, cond-true, cond-false}
use Rattle.reorder.specs.Waiting.{Waiting, with_number, after_next}
use Rattle.reorder.proofs.HeldLaws.{tied, untied}

module _ {T : Type 0} (w : Waiting T) (n : ℕ) (x : T) (turn : n ≡ w.next) (vacant : get w.held w.next ≡ None) where
  come_and_gone : (q : ℕ) → get w.held q ≡ get (remove (insert w.held n x) w.next) q
  come_and_gone q = elim (cases_eq q w.next) [
    | inl same ↦
        ap (get w.held) same ∙ vacant
        ∙ sym (get-remove nat_cmp_total (insert w.held n x) w.next q ∙ cond-true _ None _ (tied q w.next same))
    | inr other ↦
        sym (get-remove nat_cmp_total (insert w.held n x) w.next q
        ∙ cond-false _ None _ (untied q w.next other)
        ∙ get-insert nat_cmp_total w.held n x q
        ∙ cond-false _ (Some x) _ (untied q n (λ same. other (same ∙ turn))))
  ]

  pub gone_by : record w { next = w.next + 1 } ≡ after_next (with_number w n x)
  gone_by = λ i. record {
    held = same_map nat_cmp_total nat_cmp-IsAntisymmetric w.held (remove (insert w.held n x) w.next) come_and_gone i;
    next = w.next + 1;
    size = w.size;
  }
