-- Command files, answered line by line
use Rattle.std.specs.Prelude.{ℕ, ◌-◌, ◌≡◌, ◌<◌, ◌≤◌, ◌&&◌, List, [], ◌∷◌, ◌++◌, length, take, slice_index_or, Bool}
use Rattle.std.specs.Prelude.{true, false, IsTrue, if◌then◌else◌}
use Rattle.command_file.specs.Text.{Bytes, words_of, is_blank_or_comment}

-- 1. A kind of command file: S is the state that the lines so far leave for the later ones

pub record Kind (S : Type 0) : Type 0 where
  -- the state before the first line
  pub opening : S
  -- whether a line with these words is allowed here, if it isn't skipped
  pub admits : S → List Bytes → Bool
  -- the reply to it
  pub answer : S → List Bytes → Bytes
  -- the state after it
  pub follow : S → List Bytes → S

-- 2. Lines, one after another

abbrev pub is_admitted : {S : Type 0} → Kind S → S → List Bytes → Bool
is_admitted kind s words = if is_blank_or_comment words then true else kind.admits s words

abbrev pub reply_at : {S : Type 0} → Kind S → S → List Bytes → Bytes
reply_at kind s words = if is_blank_or_comment words then [] else kind.answer s words

abbrev pub state_past : {S : Type 0} → Kind S → S → List Bytes → S
state_past kind s words = if is_blank_or_comment words then s else kind.follow s words

abbrev pub are_admitted : {S : Type 0} → Kind S → S → List Bytes → Bool
are_admitted kind s [] = true
are_admitted kind s (line ∷ lines) =
    is_admitted kind s (words_of line) && are_admitted kind (state_past kind s (words_of line)) lines

abbrev pub replies_at : {S : Type 0} → Kind S → S → List Bytes → Bytes
replies_at kind s [] = []
replies_at kind s (line ∷ lines) =
    reply_at kind s (words_of line) ++ replies_at kind (state_past kind s (words_of line)) lines

abbrev pub state_after : {S : Type 0} → Kind S → S → List Bytes → S
state_after kind s [] = s
state_after kind s (line ∷ lines) = state_after kind (state_past kind s (words_of line)) lines

-- 3. A whole file

-- the words of the line numbered n, from 1 on
abbrev pub words_at : ℕ → List Bytes → List Bytes
words_at n lines = words_of (slice_index_or lines (n - 1) [])

-- the state after the first k lines
abbrev pub left_by : {S : Type 0} → Kind S → ℕ → List Bytes → S
left_by kind k lines = state_after kind kind.opening (take k lines)

-- each of the first k lines is allowed at its place
abbrev pub AreAdmitted : {S : Type 0} → Kind S → ℕ → List Bytes → Type 0
AreAdmitted kind k lines = IsTrue (are_admitted kind kind.opening (take k lines))

-- each of the first k lines is allowed at its place, and `after` is `before` with their replies
pub record IsAnsweredTo {S : Type 0} (kind : Kind S) (k : ℕ) (lines : List Bytes) (before after : Bytes) : Type 0 where
  pub within : k ≤ length lines
  pub admitted : AreAdmitted kind k lines
  pub replies : after ≡ before ++ replies_at kind kind.opening (take k lines)

-- line n is not allowed at its place, and is the first such line
pub record IsFirstBad {S : Type 0} (kind : Kind S) (n : ℕ) (lines : List Bytes) : Type 0 where
  pub there : (0 < n) × (n ≤ length lines)
  pub before : AreAdmitted kind (n - 1) lines
  pub bad : is_admitted kind (left_by kind (n - 1) lines) (words_at n lines) ≡ false
