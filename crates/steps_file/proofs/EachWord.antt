-- The results of a function for each word, one after another
use Rattle.std.proofs.Common.{◌≡◌, ℕ, zero, suc, ◌+◌, ◌<◌, List, [], ◌∷◌, ◌++◌, length, take, get_or, Option, Some, None, Bor, refl, ap, ap₂, ◌∙◌, arith}
use Rattle.std.proofs.lemmas.List.{take_more, map-append}
use Rattle.command_file.specs.Text.{Bytes, texts}
use Rattle.steps_file.specs.Forms.{each_of, with_first}

abbrev with_last : {A : Type 0} → Option (List A) → Option A → Option (List A)
with_last (Some xs) (Some x) = Some (xs ++ x ∷ [])
with_last (Some xs) None = None
with_last None x = None

between : {A : Type 0} (a : Option A) (b : Option (List A)) (c : Option A) → with_first a (with_last b c) ≡ with_last (with_first a b) c
between (Some x) (Some xs) (Some y) = refl
between (Some x) (Some xs) None = refl
between (Some x) None c = refl
between None b c = refl

first_last : {A : Type 0} (a : Option A) → with_first a (Some []) ≡ with_last (Some []) a
first_last (Some x) = refl
first_last None = refl

each_of-push : {A : Type 0} (f : Bytes → Option A) (words : List Bytes) (word : Bytes)
    → each_of f (words ++ word ∷ []) ≡ with_last (each_of f words) (f word)
each_of-push f [] word = first_last (f word)
each_of-push f (v ∷ words) word = ap (with_first (f v)) (each_of-push f words word) ∙ between (f v) (each_of f words) (f word)

pushed : {A : Type 0} (f : Bytes → Option A) (words : List Bytes) (word : Bytes) (xs : List A) (x : A)
    → each_of f words ≡ Some xs → f word ≡ Some x → each_of f (words ++ word ∷ []) ≡ Some (xs ++ x ∷ [])
pushed f words word xs x before here = each_of-push f words word ∙ ap₂ with_last before here

-- one more word
pub each_of_more : {A : Type 0} (f : Bytes → Option A) (words : List (Bor Bytes)) (k : ℕ) (d : Bor Bytes) (xs : List A) (x : A)
    → k < length words → each_of f (texts (take k words)) ≡ Some xs → f (get_or words k d).now ≡ Some x
    → each_of f (texts (take (k + 1) words)) ≡ Some (xs ++ x ∷ [])
each_of_more f words k d xs x there before here =
    let word = get_or words k d in
    let more : texts (take (k + 1) words) ≡ texts (take k words) ++ word.now ∷ [] =
    ap texts (take_more words k d there) ∙ map-append (λ w. w.now) (take k words) (word ∷ []) in
    ap (each_of f) more ∙ pushed f (texts (take k words)) word.now xs x before here

none_first : {A : Type 0} (a : Option A) → with_first a None ≡ None
none_first (Some x) = refl
none_first None = refl

-- one word for which it has no result
pub each_of_none : {A : Type 0} (f : Bytes → Option A) (words : List (Bor Bytes)) (k : ℕ) (d : Bor Bytes)
    → k < length words → f (get_or words k d).now ≡ None → each_of f (texts words) ≡ None
each_of_none f [] k d there here = absurd (omega arith)
each_of_none f (v ∷ words) zero d there here = ap (λ o. with_first o (each_of f (texts words))) here
each_of_none f (v ∷ words) (suc k) d there here = ap (with_first (f v.now)) (each_of_none f words k d (omega arith) here) ∙ none_first (f v.now)
