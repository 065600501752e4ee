-- What a bulk take copies into a slice: all of it, or nothing
use Rattle.std.proofs.Common.{◌≡◌, ℕ, ◌≤◌, ◌++◌, List, [], Ok, Err, IfOk, IfErr, length, take, drop, refl, sym, ap, ◌∙◌, append-nil, arith}
use Rattle.std.specs.Prelude.{Result, ⊤}
use Rattle.ringapi.specs.declared.answers.Moved.{Moved}
use Rattle.pool_laws.specs.Beside.{unsent_of}
use Rattle.ringapi.specs.declared.answers.Refusal.{Refusal}
use Rattle.pool.specs.Slices.{KeepsRoom, left_by}
use Rattle.std.proofs.lemmas.List.{drop_all, length-take-le, take-append-drop}

module _ {T : Type 0} (shown before after : List T) (is : after ≡ shown ++ drop (length shown) before) where
  pub whole_shown : length shown ≡ length before → after ≡ shown
  whole_shown same = is ∙ (ap (λ l. shown ++ l) (drop_all (length shown) before (omega (arith, same))) ∙ append-nil shown)

  pub none_shown : shown ≡ [] → after ≡ before
  none_shown none = is ∙ ap (λ l. l ++ drop (length l) before) none

-- what is in a burst after a put of some of its items
pub left_all : {T : Type 0} → (result : Result Moved Refusal) (items : List T) → left_by (λ xs k. drop k xs) result items ≡ unsent_of result items
left_all (Ok moved) items = refl
left_all (Err why) items = refl

module _ {I X E : Type 0} (beside : I → I → Type 0) (before later : I) where
  pub room_kept : (result : Result X E) → KeepsRoom beside before result later → IfOk result (λ _. beside before later)
  room_kept (Ok x) kept = kept
  room_kept (Err e) kept = tt

-- words that are at the front of a slice, with how many
pub shown_front : {T X E : Type 0} (A : Type 0) (result : Result X E) (count : ℕ) (words before : List T)
    → IfOk result (λ _. A × (drop count words ≡ drop count before) × (count ≤ length words))
    → IfErr result (λ _. (words ≡ before) × (count ≡ 0)) → words ≡ take count words ++ drop (length (take count words)) before
shown_front A (Ok x) count words before beside same =
    sym (take-append-drop count words) ∙ ap (λ l. take count words ++ l) (beside.1 ∙ ap (λ k. drop k before) (sym (length-take-le count words beside.2)))
shown_front A (Err e) count words before beside same =
    same.0 ∙ sym (ap (λ k. take k words ++ drop (length (take k words)) before) same.1)

-- the same of what is left of a list of words that a take was told to fill
pub shown_room : {T I X E : Type 0} (words : I → List T) (count : I → ℕ) (A : I → I → Type 0) (before later : I) (result : Result X E)
    → count before ≡ 0
    → KeepsRoom (λ f h. A f h × (drop (count h) (words h) ≡ drop (count h) (words f)) × (count h ≤ length (words h))) before result later
    → words later ≡ take (count later) (words later) ++ drop (length (take (count later) (words later))) (words before)
shown_room words count A before later (Ok x) blank kept =
    shown_front {X = ⊤} {E = ⊤} (A before later) (Ok tt) (count later) (words later) (words before) kept tt
shown_room words count A before later (Err e) blank kept =
    shown_front {X = ⊤} {E = ⊤} (A before later) (Err tt) (count later) (words later) (words before) tt (ap words kept, ap count kept ∙ blank)
