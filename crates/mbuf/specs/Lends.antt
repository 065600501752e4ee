-- The bytes of a segment and the links of a row after a part of them was borrowed for writing.
use Rattle.std.specs.Prelude.{ℕ, zero, suc, List, ◌++◌, take}
use Rattle.std.specs.Borrow.{Lends, MutBor, Fml, u8, Array}
use Rattle.std.specs.Global.{Box}
use Rattle.std.specs.contracts.alloc.Global.{the_row as global_row}
use Rattle.std.specs.contracts.boxed.Box.{the_row as boxed}
use Rattle.std.specs.contracts.impls.GlobalAllocator.TheImpl.{ghosts}
use denote.RattleType.{RattleType}
use Rattle.mbuf.specs.Buffer.{Buffer, rewritten}
use Rattle.mbuf.specs.Chain.{at_segment}
use Rattle.mbuf.specs.Links.{row}
use Rattle.mbuf.specs.contracts.segment.Segment.{the_row as segment_row}
use Rattle.mbuf.specs.contracts.link.Link.{the_row as link_row}

abbrev pub LendsBytes : MutBor Buffer → MutBor (List ℕ) → Fml
LendsBytes s r = Lends segment_row (Array u8 0) s r (λ w. rewritten w s.now)

-- the first segment of a link is what was written
abbrev pub LendsSegment : MutBor (Buffer × List Buffer) → MutBor Buffer → Fml
LendsSegment s r = Lends link_row segment_row s r (λ w. (w, s.now.1))

abbrev pub box_row : RattleType
box_row = boxed link_row global_row ghosts

-- after a link's first segment and n more comes what was written
abbrev pub LendsBehind : MutBor (Buffer × List Buffer) → ℕ → MutBor (Box (Buffer × List Buffer)) → Fml
LendsBehind s n r = Lends link_row box_row s r (λ w. (s.now.0, take n s.now.1 ++ row w.value))

-- a link with f applied to the segment i further on
abbrev pub at_link : ℕ → (Buffer → Buffer) → Buffer × List Buffer → Buffer × List Buffer
at_link zero f link = (f link.0, link.1)
at_link (suc i) f link = (link.0, at_segment i f link.1)

-- the bytes of the segment i further on are what was written
abbrev pub LendsPartOfLink : MutBor (Buffer × List Buffer) → ℕ → MutBor (List ℕ) → Fml
LendsPartOfLink s i r = Lends link_row (Array u8 0) s r (λ w. at_link i (rewritten w) s.now)
