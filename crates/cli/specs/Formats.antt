-- Formats of captures other than classic pcap, by the first bytes of a file
use Rattle.std.specs.Prelude.{◌≡◌, ℕ, List, [], ◌∷◌, ◌⊎◌, eqb, true}
use Rattle.std.specs.List.{starts_with}
use Rattle.cli.specs.declared.other_format.OtherFormat.{OtherFormat}
use Rattle.cli.specs.declared.other_format.OtherFormat.TheVariants.{Modified, Pcapng, Gzip}

-- the file begins with these bytes
abbrev pub BeginsWith : List ℕ → List ℕ → Type 0
BeginsWith first bytes = starts_with eqb bytes first ≡ true

-- Modified: magic 0xa1b2cd34, in either byte order. Pcapng: the type of a section header block, 0x0a0d0d0a
-- (draft-ietf-opsawg-pcapng, "Section Header Block"). Gzip: ID1 0x1f, ID2 0x8b (RFC 1952, section 2.3.1)
abbrev pub IsIn : OtherFormat → List ℕ → Type 0
IsIn Modified bytes = BeginsWith (161 ∷ 178 ∷ 205 ∷ 52 ∷ []) bytes ⊎ BeginsWith (52 ∷ 205 ∷ 178 ∷ 161 ∷ []) bytes
IsIn Pcapng bytes = BeginsWith (10 ∷ 13 ∷ 13 ∷ 10 ∷ []) bytes
IsIn Gzip bytes = BeginsWith (31 ∷ 139 ∷ []) bytes
