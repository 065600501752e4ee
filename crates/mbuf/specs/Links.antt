-- The list of segments that begins with a link. It is given as the first and the others, since there is always a first.
use Rattle.std.specs.Prelude.{List, [], ◌∷◌, Option, Some, None}
use Rattle.std.specs.Global.{Box}
use Rattle.mbuf.specs.Buffer.{Buffer}
use Rattle.mbuf.specs.declared.link.Link.TheInside.{Inside}

-- the segments from a link on
abbrev pub row : Buffer × List Buffer → List Buffer
row link = link.0 ∷ link.1

-- the segments after a link
abbrev pub behind : Option (Box (Buffer × List Buffer)) → List Buffer
behind None = []
behind (Some next) = row next.value

abbrev pub segments_of : Inside → Buffer × List Buffer
segments_of link = (link.segment, behind link.next)

-- the segments of a row, if there is one
abbrev pub rest_of : Option (List Buffer) → List Buffer
rest_of None = []
rest_of (Some row) = row
