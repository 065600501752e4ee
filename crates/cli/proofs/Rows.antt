-- Worked rows: the workers that are chosen; and bytes of each format and of none
use Rattle.std.proofs.Common.{[], ◌∷◌, inl, inr, refl, arith}
use Rattle.cli.specs.declared.other_format.OtherFormat.{OtherFormat}
use Rattle.cli.specs.declared.other_format.OtherFormat.TheVariants.{Modified, Pcapng, Gzip}
use Rattle.cli.specs.Chosen.{IsChosen}
use Rattle.cli.specs.Formats.{IsIn}
use Rattle.cli.proofs.Choosing.{chosen_of}

one_processor : IsChosen 1 0
one_processor = chosen_of 1 0 0 refl refl

two_processors : IsChosen 2 0
two_processors = chosen_of 2 0 0 refl refl

three_processors : IsChosen 3 1
three_processors = chosen_of 3 1 1 refl refl

four_processors : IsChosen 4 2
four_processors = chosen_of 4 2 2 refl refl

many_processors : IsChosen 64 2
many_processors = chosen_of 64 62 2 refl refl

-- each breaks one field
too_many : ¬ IsChosen 64 3
too_many h = omega (arith, h.few)

without_room : ¬ IsChosen 3 2
without_room h = elim h.room [ inl none ↦ omega (arith, none) | inr fits ↦ omega (arith, fits) ]

too_few : ¬ IsChosen 4 1
too_few h = omega (arith, h.most 2 (omega arith) (omega arith))

big_endian : IsIn Modified (161 ∷ 178 ∷ 205 ∷ 52 ∷ 0 ∷ [])
big_endian = inl refl

little_endian : IsIn Modified (52 ∷ 205 ∷ 178 ∷ 161 ∷ [])
little_endian = inr refl

section_header : IsIn Pcapng (10 ∷ 13 ∷ 13 ∷ 10 ∷ 28 ∷ [])
section_header = refl

deflated : IsIn Gzip (31 ∷ 139 ∷ 8 ∷ [])
deflated = refl

-- a classic capture, and a beginning of a modified one
classic : (format : OtherFormat) → ¬ IsIn format (212 ∷ 195 ∷ 178 ∷ 161 ∷ [])
classic Modified (inl e) = cc
classic Modified (inr e) = cc
classic Pcapng e = cc
classic Gzip e = cc

three_bytes : (format : OtherFormat) → ¬ IsIn format (52 ∷ 205 ∷ 178 ∷ [])
three_bytes Modified (inl e) = cc
three_bytes Modified (inr e) = cc
three_bytes Pcapng e = cc
three_bytes Gzip e = cc
