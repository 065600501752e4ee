-- One more turn of a worker: packets are taken, and the results for them are put.
use Rattle.std.proofs.Common.{◌≡◌, ℕ, true, false, List, [], ◌∷◌, ◌++◌, sym, ap, ◌∙◌, subst, append_assoc, arith}
use Rattle.geom.specs.declared.plan.RingPlan.{RingPlan}
use Rattle.geom.specs.declared.plan.Side.TheVariants.{Take}
use Rattle.ringcore_laws.specs.declared.party.Party.{Party}
use Rattle.ringcore_laws.specs.declared.party.Settled.{Settled}
use Rattle.fabric.specs.Settles.{AreYours}
use Rattle.fabric_laws.specs.declared.view.View.{View}
use Rattle.ringapi.specs.Holdings.{HasMore}
use Rattle.ringapi.specs.Views.{settlement}
use Rattle.stages_laws.specs.Output.{Forwarding}
use Rattle.stages_laws.specs.declared.run.Run.{Ghosts}
use Rattle.stages.specs.declared.threads.item.RingItem.{RingItem}
use Rattle.stages.specs.declared.threads.item.RingItem.TheVariants.{Mark}
use Rattle.stages.specs.Judging.{AllPairs, HasWorked, IsJudged, has_mark, until_mark}
use Rattle.stages.specs.Numbers.{item_numbers}
use Rattle.stages.specs.Passing.{Passes, Puts}
use Rattle.stages.proofs.Settled.{passes_puts, passes_take}
use Rattle.stages.proofs.Marks.{ends_in_mark, judged_to_mark, mark_append, pairs_append, same_buffers}

module _ {J : Type 0} {G : Ghosts J} where
  -- what was taken and judged is the hand's to put
  pub judged_yours : (forwarding : Forwarding) (plan : RingPlan) (p : Party (RingItem J G)) (v : View (RingItem J G)) (items out : List (RingItem J G)) →
      plan.free ≡ false
      → HasMore item_numbers p items v.party → AllPairs (IsJudged forwarding) items out → AreYours item_numbers plan v out
  judged_yours forwarding plan p v items out mixed more pairs = record {
    owned = λ b. omega (arith, more b, same_buffers forwarding b items out pairs);
    single = λ free. absurd (cc (sym mixed ∙ free));
  }

  turn : (u v w x : List (Settled (RingItem J G))) (taken sent items out : List (RingItem J G)) (start : ℕ) → Passes u v taken sent
      → w ≡ settlement 1 Take start items ∷ v → Puts 2 w x out → Passes u x (taken ++ items) (sent ++ out)
  turn u v w x taken sent items out start before took puts =
      passes_puts u w x (taken ++ items) sent out (passes_take u v w taken sent items start before took) puts

  -- no end mark came
  pub goes_on : (forwarding : Forwarding) (u v w x : List (Settled (RingItem J G))) (taken sent items out : List (RingItem J G)) (start : ℕ) → Passes u v taken sent
      → AllPairs (IsJudged forwarding) taken sent → has_mark taken ≡ false → w ≡ settlement 1 Take start items ∷ v → has_mark items ≡ false
      → AllPairs (IsJudged forwarding) items out → Puts 2 w x out
      → Passes u x (taken ++ items) (sent ++ out) × AllPairs (IsJudged forwarding) (taken ++ items) (sent ++ out) × (has_mark (taken ++ items) ≡ false)
  goes_on forwarding u v w x taken sent items out start before pairs clear took none judged puts = (
    turn u v w x taken sent items out start before took puts,
    pairs_append (IsJudged forwarding) taken sent items out pairs judged,
    mark_append taken items clear ∙ none,
  )

  -- an end mark came, as the last
  pub worked : (forwarding : Forwarding) (u v w x : List (Settled (RingItem J G))) (taken sent items out : List (RingItem J G)) (start : ℕ) → Passes u v taken sent
      → AllPairs (IsJudged forwarding) taken sent → has_mark taken ≡ false → w ≡ settlement 1 Take start items ∷ v → until_mark items ≡ items
      → has_mark items ≡ true → AllPairs (IsJudged forwarding) items out → Puts 2 w x out → HasWorked forwarding u x
  worked forwarding u v w x taken sent items out start before pairs clear took cut marked judged puts =
      let end = ends_in_mark items cut marked in
      let sends = judged_to_mark forwarding end.0 out (subst (λ ps. AllPairs (IsJudged forwarding) ps out) end.1 judged) in
      let all = turn u v w x taken sent items out start before took puts in
      let ins : taken ++ items ≡ (taken ++ end.0) ++ Mark ∷ [] = ap (λ ps. taken ++ ps) end.1 ∙ sym (append_assoc taken end.0 (Mark ∷ [])) in
      let outs : sent ++ out ≡ (sent ++ sends.0) ++ Mark ∷ [] = ap (λ ps. sent ++ ps) sends.1 ∙ sym (append_assoc sent sends.0 (Mark ∷ [])) in
      record {
        taken = taken ++ end.0;
        sent = sent ++ sends.0;
        passes = subst (λ ps. Passes u x ((taken ++ end.0) ++ Mark ∷ []) ps) outs (subst (λ ps. Passes u x ps (sent ++ out)) ins all);
        judged = pairs_append (IsJudged forwarding) taken sent end.0 sends.0 pairs sends.2;
        unended = mark_append taken end.0 clear ∙ end.2;
      }
