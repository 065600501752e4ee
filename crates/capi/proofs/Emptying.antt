-- Words that are left on a ring go to the front of an array: one more of them
use Rattle.std.proofs.Common.{◌≡◌, ℕ, ◌+◌, ◌<◌, ◌∙◌, List, [], ◌∷◌, ◌++◌, ap, length, set, sym, take}
use Rattle.std.proofs.lemmas.List.{take_more_set}
use Rattle.std.proofs.lemmas.List.{append_assoc}
use Rattle.capi.specs.declared.rings.word64.Word64.{Word64}

pub emptied_more : (words : List Word64) (i : ℕ) (x : Word64) (old mid new : List Word64) → i < length words
    → old ≡ take i words ++ mid → mid ≡ x ∷ new → old ≡ take (i + 1) (set words i x) ++ new
emptied_more words i x old mid new below is first =
    is ∙ ap (λ (xs : List Word64). take i words ++ xs) first
    ∙ sym (ap (λ (xs : List Word64). xs ++ new) (take_more_set words i x below) ∙ append_assoc (take i words) (x ∷ []) new)
