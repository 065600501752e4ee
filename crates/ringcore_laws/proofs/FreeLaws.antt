-- What holds for free rings is kept by each answered step of an actor
use Rattle.std.proofs.Common.{ℕ, ◌<◌, ◌≡◌, ◌⊎◌, ◌∙◌, inl, inr, List, length, ap, sym, subst, arith}
use Rattle.std.specs.Prelude.{slice_set, slice_index_or}
use Rattle.geom.specs.declared.plan.RingPlan.{RingPlan}
use Rattle.ringcore_laws.specs.Invariant.{Invariant}
use Rattle.ringcore_laws.specs.FreeRings.{FreeRule, buffers_had}
use Rattle.ringcore_laws.specs.History.{Actor, parties_of, tags}
use Rattle.ringcore_laws.proofs.HistoryLaws.{parties_at, parties_length}
use Rattle.ringcore_laws.proofs.FreeKept.{free_opened, free_settled}
use Rattle.ringcore_laws.proofs.Changes.{Opens, Closes, busy_party, idle_party, parties_closed, parties_opened, parties_stay}

module _ (plans : List RingPlan) (pool : ℕ) (actors : List Actor) (i : ℕ) (a : Actor) (lt : i < length actors)
    (at : (d : Actor) → slice_index_or actors i d ≡ a) (k : Invariant plans pool actors)
    (rule : FreeRule tags plans pool (parties_of actors)) where
  within : i < length (parties_of actors)
  within = omega (arith, parties_length actors)

  here : slice_index_or (parties_of actors) i a.party ≡ a.party
  here = parties_at actors i a lt ∙ ap (λ (v : Actor). v.party) (at a)

  pub rule_after : (b : Actor) → (b.party ≡ a.party) ⊎ (Opens plans pool a b ⊎ Closes plans actors a b)
      → FreeRule tags plans pool (parties_of (slice_set actors i b))
  rule_after b (inl same) = subst (FreeRule tags plans pool) (sym (parties_stay plans pool actors i a lt at k b same)) rule
  rule_after b (inr (inl o)) =
      subst (FreeRule tags plans pool) (sym (parties_opened plans pool actors i a lt at k b o))
      (free_opened tags plans pool (parties_of actors) rule i a.party o.span o.plan within (idle_party plans pool actors i a lt at k o.idle) o.there
      (λ put free. omega (arith, o.few put free, ap (buffers_had tags pool) here)))
  rule_after b (inr (inr c)) =
      subst (FreeRule tags plans pool) (sym (parties_closed plans pool actors i a lt at k b c))
      (free_settled tags plans pool (parties_of actors) rule i a.party c.span c.items c.plan k.sound within
      (busy_party plans pool actors i a lt at k c.span c.busy) c.there c.first c.single)
