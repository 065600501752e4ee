use Rattle.std.proofs.Common.{◌≡◌, ◌++◌, ◌∷◌, ◌||◌, [], reverse, length, refl, sym, ap, ◌∙◌, subst, append_assoc, length-append, arith}
use Rattle.std.proofs.lemmas.List.{reverse-append, reverse-reverse}
use Rattle.stages.specs.Judging.{AllPairs, IsJudged, has_mark}
use Rattle.stages.proofs.Marks.{mark_more, pairs_append}
use Rattle.stages.proofs.threads.worker.judge_all.Goals as goal

pub loop-item-init : goal.loop-item-init
loop-item-init g c = record {
  done = [];
  all = ap reverse c.reverse.ensures ∙ reverse-reverse c.args.items.now;
  judged = subst (AllPairs (IsJudged g.J.Run.forwarding) []) (sym c.requires.empty) tt;
  ended = refl;
  room = omega (arith, ap length c.requires.empty, c.len.ensures.value, c.len.ensures.fits);
}

pub loop-item-preserved : goal.loop-item-preserved
loop-item-preserved g c =
    let i = c.loop-item.invariant in
    let p = c.in-Some.item in
    let q = c.judge.result in
    let split : c.loop-item.items ≡ c.pop.new.self ++ p ∷ [] = c.in-Some.ensures.items in
    let turned : reverse c.loop-item.items ≡ p ∷ reverse c.pop.new.self = ap reverse split ∙ reverse-append c.pop.new.self (p ∷ []) in
    record {
      done = i.done ++ p ∷ [];
      all = append_assoc i.done (p ∷ []) (reverse c.pop.new.self) ∙ (ap (λ xs. i.done ++ xs) (sym turned) ∙ i.all);
      judged = subst (AllPairs (IsJudged g.J.Run.forwarding) (i.done ++ p ∷ [])) (sym c.push.ensures)
          (pairs_append (IsJudged g.J.Run.forwarding) i.done c.loop-item.out (p ∷ []) (q ∷ []) i.judged (c.judge.ensures.judged, tt));
      ended = (ap (λ b. b || c.is_end-ended.result) i.ended ∙ ap (λ b. has_mark i.done || b) c.is_end-ended.ensures) ∙ sym (mark_more i.done p);
      room = omega (arith, i.room, ap length c.push.ensures, length-append c.loop-item.out (q ∷ []), ap length split, length-append c.pop.new.self (p ∷ []));
    }
