-- The lines of a text, as its parts between newlines
use Rattle.std.proofs.Common.{◌≡◌, ℕ, ◌<◌, List, length, get_or, ◌==◌, ap, sym, ◌∙◌, subst, arith}
use Rattle.std.specs.Prelude.{Option, Some, None}
use Rattle.std.specs.Iterator.{Yields}
use Rattle.std.specs.List.{slice_split}
use Rattle.std.specs.Str.Lines.{strip_carriage_return}
use Rattle.std.proofs.lemmas.List.{length-map, get_or-map}
use Rattle.std.proofs.lemmas.Iterator.{YieldsList}
use Rattle.std.proofs.lemmas.Iterator.Consumers.{YieldsList-turn, YieldsList-end}
use Rattle.command_file.specs.Text.{Bytes, lines_of}

-- the parts between newlines
abbrev parts : Bytes → List Bytes
parts bytes = slice_split (λ b. b == 10) bytes

-- a part, and its line
line_there : (bytes part line : Bytes) (k : ℕ) → (k < length (parts bytes)) × (part ≡ get_or (parts bytes) k part) → line ≡ strip_carriage_return part
    → (k < length (lines_of bytes)) × (line ≡ get_or (lines_of bytes) k line)
line_there bytes part line k h e =
    let same = length-map (parts bytes) strip_carriage_return in
    (omega arith, e ∙ ap strip_carriage_return h.1 ∙ sym (get_or-map strip_carriage_return (parts bytes) k part line h.0))

-- the part of this turn, by the line's number
at_number : (bytes part : Bytes) (k n : ℕ) → n ≡ k → (k < length (parts bytes)) × (part ≡ get_or (parts bytes) k part)
    → (n < length (parts bytes)) × (part ≡ get_or (parts bytes) n part)
at_number bytes part k n e h = subst (λ (j : ℕ). (j < length (parts bytes)) × (part ≡ get_or (parts bytes) j part)) (sym e) h

-- lines as an iterator returns them, which has yielded xs
module _ {S A : Type 0} {steps : S → Option A → S → Type 0} {v : A → Bytes} {s t : S} (bytes : Bytes) (road : YieldsList steps v s (parts bytes))
    (xs : List A) (so_far : Yields steps s xs t) (n : ℕ) (many : n ≡ length xs) (r : Option A) (u : S) (next : steps t r u) where
  -- the line of this turn
  pub this_line : (x : A) → r ≡ Some x → (line : Bytes) → line ≡ strip_carriage_return (v x)
      → (n < length (lines_of bytes)) × (line ≡ get_or (lines_of bytes) n line)
  this_line x is line e =
      let turn = YieldsList-turn road xs t so_far r u x is next in
      line_there bytes (v x) line n (at_number bytes (v x) (length xs) n many turn) e

  -- all lines were returned
  pub all_lines : r ≡ None → n ≡ length (lines_of bytes)
  all_lines none = many ∙ (YieldsList-end road xs t so_far r u none next).1 ∙ sym (length-map (parts bytes) strip_carriage_return)
