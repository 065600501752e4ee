use Rattle.std.proofs.Common.{rules, ◌≡◌, ◌+◌, ℕ, refl, sym, ap, ◌∙◌, subst, arith}
use Rattle.mbuf.specs.Links.{rest_of}
use Rattle.ringcore_laws.specs.FreeRings.{AreSingle}
use Rattle.stages.specs.Custody.{HoldsAll, in_chain, in_items, in_numbers}
use Rattle.stages.specs.Numbers.{item_numbers}
use Rattle.stages.proofs.Keeping.{free_numbers, in_last, in_parts, single_more}
use Rattle.stages.proofs.threads.segments.release.Goals as goal
use Rattle.stages.proofs.threads.segments.release.Goals.{then-is_full+in_ok-give_back, else-is_full}

pub give_back-requires : goal.give_back-requires
give_back-requires g c = (search rules, ((λ h same b. omega (arith, c.loop-rest.invariant.yours h same b)), c.loop-rest.invariant.single))

pub returns-in_err-give_back-clause-kept : goal.returns-in_err-give_back-clause-kept
returns-in_err-give_back-clause-kept g c others had h same b =
    omega (
      arith,
      c.give_back.ensures.kept others (λ k is n. omega (arith, c.loop-rest.invariant.kept others had k is n)) h same b,
      ap (λ l. in_items l b) c.give_back.ensures.none,
    )

pub loop-rest-preserved : goal.loop-rest-preserved
loop-rest-preserved g c =
    let i = c.loop-rest.invariant in
    let free = c.if-is_full.free in
    let one = c.take_first-segment.result.0 in
    let more = rest_of c.take_first-segment.result.1 in
    let kept : (o : ℕ → ℕ) → HoldsAll item_numbers c.loop-rest.access.hand (λ b. in_items c.loop-rest.free b + o b)
    → HoldsAll item_numbers c.if-is_full.access.hand (λ b. in_items free b + o b) =
    λ o had. elim c.if-is_full.branch [
      | then-is_full+in_ok-give_back w ↦ λ h same b. omega (
        arith,
        w.give_back.ensures.kept o had h (ap (λ a. a.hand) (sym w.access-is) ∙ same) b,
        ap (λ l. in_items l b) (w.free-is ∙ w.give_back.ensures.none),
      )
      | else-is_full w ↦ λ h same b. omega (arith, had h (ap (λ a. a.hand) (sym w.access-is) ∙ same) b, ap (λ l. in_items l b) w.free-is)
    ] in
    let single : AreSingle item_numbers free = elim c.if-is_full.branch [
      | then-is_full+in_ok-give_back w ↦ subst (AreSingle item_numbers) (sym (w.free-is ∙ w.give_back.ensures.none)) refl
      | else-is_full w ↦ subst (AreSingle item_numbers) (sym w.free-is) i.single
    ] in
    let pushed : (b : ℕ) → in_items c.push.new.self b ≡ in_items free b + in_chain one b =
    λ b. ap (λ l. in_items l b) c.push.ensures
    ∙ (in_last free c.free.result b ∙ ap (λ ns. in_items free b + in_numbers ns b) (free_numbers c.free.result one c.free.ensures)) in
    let parts : (b : ℕ) → in_chain (rest_of c.loop-rest.rest) b ≡ in_chain one b + in_chain more b =
    λ b. ap (λ r. in_chain (rest_of r) b) c.in-Some.is ∙ in_parts one more c.in-Some.chain c.take_first-segment.ensures.whole b in
    record {
      yours = λ h same b. omega (arith, kept (λ n. in_chain (rest_of c.loop-rest.rest) n) i.yours h same b, pushed b, parts b);
      single = subst (AreSingle item_numbers) (sym c.push.ensures)
          (single_more free c.free.result one single c.free.ensures c.take_first-segment.ensures.first);
      kept = λ others had h same b. omega (
        arith,
        kept (λ n. in_chain (rest_of c.loop-rest.rest) n + others n) (i.kept others had) h same b,
        pushed b,
        parts b,
      );
    }

pub returns-clause-kept : goal.returns-clause-kept
returns-clause-kept g c others had h same b = omega (arith, c.loop-rest.invariant.kept others had h same b)
