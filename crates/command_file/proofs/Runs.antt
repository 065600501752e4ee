-- Command files, one line after another
use Rattle.std.proofs.Common.{◌≡◌, ℕ, ◌+◌, ◌-◌, ◌<◌, List, [], ◌∷◌, ◌++◌, length, take, get_or, Bool, true, false, ◌&&◌, refl, sym, ap, ap₂, subst, ◌∙◌, arith}
use Rattle.std.proofs.Common.{append_assoc}
use Rattle.std.specs.Prelude.{slice_index_or}
use Rattle.std.proofs.lemmas.List.{take_more, append-nil, get_or_default}
use Rattle.command_file.specs.Text.{Bytes, words_of}
use Rattle.command_file.specs.Files.{Kind, is_admitted, reply_at, state_past, are_admitted, replies_at, state_after, left_by, AreAdmitted, IsAnsweredTo, IsFirstBad}

and_assoc : (a b c : Bool) → (a && (b && c)) ≡ ((a && b) && c)
and_assoc true b c = refl
and_assoc false b c = refl

module _ {S : Type 0} (kind : Kind S) where
  replies_at-append : (s : S) (xs ys : List Bytes)
      → replies_at kind s (xs ++ ys) ≡ replies_at kind s xs ++ replies_at kind (state_after kind s xs) ys
  replies_at-append s [] ys = refl
  replies_at-append s (line ∷ xs) ys =
      let next = state_past kind s (words_of line) in
      ap (λ rest. reply_at kind s (words_of line) ++ rest) (replies_at-append next xs ys)
      ∙ sym (append_assoc (reply_at kind s (words_of line)) (replies_at kind next xs)
      (replies_at kind (state_after kind next xs) ys))

  state_after-append : (s : S) (xs ys : List Bytes)
      → state_after kind s (xs ++ ys) ≡ state_after kind (state_after kind s xs) ys
  state_after-append s [] ys = refl
  state_after-append s (line ∷ xs) ys = state_after-append (state_past kind s (words_of line)) xs ys

  are_admitted-append : (s : S) (xs ys : List Bytes)
      → are_admitted kind s (xs ++ ys) ≡ (are_admitted kind s xs && are_admitted kind (state_after kind s xs) ys)
  are_admitted-append s [] ys = refl
  are_admitted-append s (line ∷ xs) ys =
      let next = state_past kind s (words_of line) in
      ap (λ rest. is_admitted kind s (words_of line) && rest) (are_admitted-append next xs ys)
      ∙ and_assoc (is_admitted kind s (words_of line)) (are_admitted kind next xs)
      (are_admitted kind (state_after kind next xs) ys)

-- one more line
next_line : (lines : List Bytes) (k : ℕ) (line : Bytes) → k < length lines → line ≡ get_or lines k line
    → take (k + 1) lines ≡ take k lines ++ line ∷ []
next_line lines k line there at = take_more lines k line there ∙ ap (λ l. take k lines ++ l ∷ []) (sym at)

pub left_more : {S : Type 0} (kind : Kind S) (lines : List Bytes) (k : ℕ) (line : Bytes) → k < length lines
    → line ≡ get_or lines k line → left_by kind (k + 1) lines ≡ state_past kind (left_by kind k lines) (words_of line)
left_more kind lines k line there at =
    ap (state_after kind kind.opening) (next_line lines k line there at)
    ∙ state_after-append kind kind.opening (take k lines) (line ∷ [])

-- no line yet
pub answered_none : {S : Type 0} (kind : Kind S) (lines : List Bytes) (out : Bytes) → IsAnsweredTo kind 0 lines out out
answered_none kind lines out = record { within = omega arith; admitted = refl; replies = sym (append-nil out) }

pub answered_more : {S : Type 0} (kind : Kind S) (lines : List Bytes) (k : ℕ) (line old out after : Bytes)
    → k < length lines → line ≡ get_or lines k line → IsAnsweredTo kind k lines old out
    → is_admitted kind (left_by kind k lines) (words_of line) ≡ true
    → after ≡ out ++ reply_at kind (left_by kind k lines) (words_of line) → IsAnsweredTo kind (k + 1) lines old after
answered_more kind lines k line old out after there at so_far here told =
    let first = take k lines in
    let s = kind.opening in
    let reply = reply_at kind (left_by kind k lines) (words_of line) in
    let more = next_line lines k line there at in
    let before : are_admitted kind s first ≡ true = so_far.admitted in
    record {
      within = omega arith;
      admitted =
          ap (are_admitted kind s) more ∙ are_admitted-append kind s first (line ∷ [])
          ∙ ap₂ (λ p q. p && (q && true)) before here;
      replies =
          told
          ∙ ap (λ xs. xs ++ reply) so_far.replies
          ∙ append_assoc old (replies_at kind s first) reply
          ∙ ap (λ xs. old ++ xs) (sym (
          ap (replies_at kind s) more
          ∙ replies_at-append kind s first (line ∷ [])
          ∙ ap (λ xs. replies_at kind s first ++ xs) (append-nil reply)));
    }

pub back_to : (k : ℕ) → k + 1 - 1 ≡ k
back_to k = omega arith

pub line_at : (lines : List Bytes) (k : ℕ) (line : Bytes) → k < length lines → line ≡ get_or lines k line
    → slice_index_or lines (k + 1 - 1) [] ≡ line
line_at lines k line there at =
    ap (λ i. get_or lines i []) (back_to k) ∙ get_or_default lines k [] line there ∙ sym at

pub first_bad : {S : Type 0} (kind : Kind S) (lines : List Bytes) (k : ℕ) (line old out : Bytes)
    → k < length lines → line ≡ get_or lines k line → IsAnsweredTo kind k lines old out
    → is_admitted kind (left_by kind k lines) (words_of line) ≡ false → IsFirstBad kind (k + 1) lines
first_bad kind lines k line old out there at so_far bad =
    record {
      there = (omega arith, omega arith);
      before = subst (λ (j : ℕ). AreAdmitted kind j lines) (sym (back_to k)) so_far.admitted;
      bad =
          ap₂ (λ j l. is_admitted kind (left_by kind j lines) (words_of l)) (back_to k) (line_at lines k line there at)
          ∙ bad;
    }
