-- A chain after the bytes of one of its segments were borrowed for writing.
use Rattle.std.specs.Prelude.{◌≡◌, ℕ, List, length}
use Rattle.std.specs.Borrow.{Lends, MutBor, Fml, u8, Array}
use Rattle.mbuf.specs.Buffer.{Buffer, rewritten, overwritten}
use Rattle.mbuf.specs.Chain.{bytes_of, HasSameSegments, at_segment, place_of_part}
use Rattle.mbuf.specs.contracts.chain.Chain.{the_row}

-- the bytes of segment i are what was written
abbrev pub LendsPart : MutBor (List Buffer) → ℕ → MutBor (List ℕ) → Fml
LendsPart chain i part = Lends the_row (Array u8 0) chain part (λ w. at_segment i (rewritten w) chain.now)

-- what was written is in the packet where the segment's bytes were
abbrev pub IsWrittenBack : List Buffer → ℕ → ℕ → Type 0
IsWrittenBack chain i len = (w : List ℕ) → length w ≡ len
    → bytes_of (at_segment i (rewritten w) chain) ≡ overwritten (place_of_part chain i) w (bytes_of chain)

-- whatever was written, the segments are the same
abbrev pub KeepsSegments : List Buffer → ℕ → Type 0
KeepsSegments chain i = (w : List ℕ) → HasSameSegments (at_segment i (rewritten w) chain) chain
