-- Consecutive items in a queue of items with one buffer each
use Rattle.std.proofs.Common.{◌≡◌, ℕ, ◌+◌, ◌-◌, ◌≤◌, List, take, drop, sym, ap, ◌∙◌, subst, arith}
use Rattle.std.specs.Prelude.{length, ◌==◌}
use Rattle.std.specs.List.{list_all}
use Rattle.std.proofs.lemmas.List.{drop-drop, take-append-drop}
use Rattle.std.proofs.lemmas.List.Folds.{list_all-append}
use Rattle.ringcore_laws.specs.FreeRings.{AreSingle}
use Rattle.ringcore_laws.proofs.FreeKept.{both_true}

module _ {T : Type 0} (tags : T → List ℕ) where
  singles_parted : (k : ℕ) (items : List T) → AreSingle tags items → AreSingle tags (take k items) × AreSingle tags (drop k items)
  singles_parted k items single =
      both_true _ _ (sym (list_all-append (λ x. length (tags x) == 1) (take k items) (drop k items))
      ∙ (ap (list_all (λ x. length (tags x) == 1)) (take-append-drop k items) ∙ single))

  -- this many from a position on that is still queued
  pub singles_queued : (n start len : ℕ) (published : List T) → len ≤ start → AreSingle tags (drop len published)
      → AreSingle tags (take n (drop start published))
  singles_queued n start len published le single =
      let from : drop (start - len) (drop len published) ≡ drop start published =
      drop-drop (start - len) len published ∙ ap (λ k. drop k published) (let e : len + (start - len) ≡ start = omega (arith, le) in e) in
      (singles_parted n (drop start published)
      (subst (AreSingle tags) from (singles_parted (start - len) (drop len published) single).1)).0
