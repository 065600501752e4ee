use Rattle.std.proofs.lemmas.List.Elements.{All-push, All-same}
use Rattle.std.proofs.Common.{rules, ◌++◌, ◌∷◌, []}
use Rattle.fabric.specs.Hands.{view}
use Rattle.ringapi.specs.Spares.{IsSpareOf}
use Rattle.ringapi.proofs.Unused.{unused_kept, unused_split}
use Rattle.ringapi.proofs.spares.thin.Goals as goal

pub loop-i-preserved : goal.loop-i-preserved
loop-i-preserved g c =
    let f = c.args.f.now in
    let hand = c.loop-i.hand in
    let split = c.in-Ok.ensures.split in
    let first : IsSpareOf f c.in-Ok.first = (split.0, unused_kept (view hand) (view c.in-Ok.first) c.loop-i.invariant.hand.1 split.1) in
    record {
      hand = (split.2, unused_split (view hand) (view c.in-Ok.second) split.3);
      others = All-same (λ h. IsSpareOf f h) _ (c.loop-i.hands.items ++ c.in-Ok.first ∷ []) (search rules)
          (All-push (λ h. IsSpareOf f h) c.loop-i.hands.items c.in-Ok.first c.loop-i.invariant.others first);
    }
