use Rattle.std.proofs.Common.{rules, arith, ◌≡◌, ◌<◌, ◌∙◌, ℕ, List, [], ◌∷◌, ◌++◌, Some, length, sym, subst, take}
use Rattle.std.specs.FinMap as map
use Rattle.std.proofs.lemmas.List.{drop-set-lt, take_more_set}
use Rattle.reorder.specs.Waiting.{Waiting, after_next}
use Rattle.capi.specs.Windows.{Leave}
use Rattle.capi.proofs.Leaving.{leave_more}
use Rattle.capi.proofs.reorder_windows.drain_from.Goals as goal

-- src/reorder_windows.rt:60:5
pub loop-i-preserved : goal.loop-i-preserved
loop-i-preserved c =
    let v = c.loop-i.invariant in
    let here : c.loop-i.i < length c.loop-i.words = search rules in
    let found : map.get c.loop-i.window.held c.loop-i.window.next ≡ Some c.in-Some.word = search rules in
    let moved : c.pop.new.self ≡ after_next c.loop-i.window = search rules in
    let left = leave_more (take c.loop-i.i c.loop-i.words) c.in-Some.word c.args.window.now c.loop-i.window v.given found in
    let row = take_more_set c.loop-i.words c.loop-i.i c.in-Some.word here in
    record {
      inside = search rules;
      long = search rules;
      after = λ k above. drop-set-lt k c.loop-i.words c.loop-i.i c.in-Some.word (omega (arith, above)) ∙ v.after k (omega (arith, above));
      given = subst (λ (xs : List ℕ). Leave xs c.args.window.now c.pop.new.self) (sym row)
          (subst (λ (u : Waiting ℕ). Leave (take c.loop-i.i c.loop-i.words ++ c.in-Some.word ∷ []) c.args.window.now u) (sym moved) left);
    }
