-- The words of a line, one part after another
use Rattle.std.proofs.Common.{◌≡◌, ℕ, ◌+◌, ◌<◌, List, [], ◌∷◌, ◌++◌, length, length-append, take, filter, get_or, not, ◌==◌, Bor, Bool, true, false, cond, sym}
use Rattle.std.proofs.Common.{ap, ◌∙◌}
use Rattle.std.proofs.lemmas.List.{take_more, map-append, append-nil}
use Rattle.std.proofs.lemmas.List.Elements.{filter-append}
use Rattle.command_file.specs.Text.{Bytes, texts}

abbrev pub is_word : Bytes → Bool
is_word part = not (length part == 0)

-- the words among the parts before the next one, and those up to it
next_part : (parts : List Bytes) (part : Bytes) (k n : ℕ) → (k < length parts) × (part ≡ get_or parts k part) → n ≡ k + 1
    → filter is_word (take n parts) ≡ filter is_word (take k parts) ++ filter is_word (part ∷ [])
next_part parts part k n here one =
    ap (λ j. filter is_word (take j parts)) one
    ∙ ap (filter is_word) (take_more parts k part here.0 ∙ ap (λ p. take k parts ++ p ∷ []) (sym here.1))
    ∙ filter-append is_word (take k parts) (part ∷ [])

one_more : (yielded : List (Bor Bytes)) (item : Bor Bytes) → length (yielded ++ item ∷ []) ≡ length yielded + 1
one_more yielded item = length-append yielded (item ∷ [])

-- a part that is a word
pub kept : (parts : List Bytes) (words after yielded : List (Bor Bytes)) (item : Bor Bytes)
    → (length yielded < length parts) × (item.now ≡ get_or parts (length yielded) item.now)
    → texts words ≡ filter is_word (take (length yielded) parts) → (length item.now == 0) ≡ false → after ≡ words ++ item ∷ []
    → texts after ≡ filter is_word (take (length (yielded ++ item ∷ [])) parts)
kept parts words after yielded item here before some pushed =
    ap texts pushed
    ∙ map-append (λ word. word.now) words (item ∷ [])
    ∙ ap (λ xs. xs ++ item.now ∷ []) before
    ∙ sym (next_part parts item.now (length yielded) (length (yielded ++ item ∷ [])) here (one_more yielded item)
    ∙ ap (λ b. filter is_word (take (length yielded) parts) ++ cond (not b) (item.now ∷ []) []) some)

-- an empty part
pub passed : (parts : List Bytes) (words yielded : List (Bor Bytes)) (item : Bor Bytes)
    → (length yielded < length parts) × (item.now ≡ get_or parts (length yielded) item.now)
    → texts words ≡ filter is_word (take (length yielded) parts) → (length item.now == 0) ≡ true
    → texts words ≡ filter is_word (take (length (yielded ++ item ∷ [])) parts)
passed parts words yielded item here before none =
    before
    ∙ sym (next_part parts item.now (length yielded) (length (yielded ++ item ∷ [])) here (one_more yielded item)
    ∙ ap (λ b. filter is_word (take (length yielded) parts) ++ cond (not b) (item.now ∷ []) []) none
    ∙ append-nil (filter is_word (take (length yielded) parts)))
