-- A party to the rings: an actor of the core, or a hand of a fabric. It has its spans of positions, and the buffers it
-- was given.
use Rattle.std.specs.Prelude.{ℕ, Bool, true, false, ◌&&◌, ◌==◌, nat_lt, nat_le, ◌+◌, List, [], ◌∷◌, ◌++◌, None, Some}
use Rattle.geom.specs.declared.plan.Side.{Side}
use Rattle.geom.specs.declared.plan.Side.TheVariants.{Put, Take}
use Rattle.ringcore_laws.specs.declared.protocol.Span.{Span}
use Rattle.ringcore_laws.specs.declared.party.Party.{Party}

abbrev pub same_side : Side → Side → Bool
same_side Put Put = true
same_side Put Take = false
same_side Take Put = false
same_side Take Take = true

-- whether the first ring and side are the same as the second
abbrev pub is_on : ℕ → Side → ℕ → Side → Bool
is_on ring side r s = (ring == r) && same_side side s

-- whether an open span holds a position
abbrev pub covers : Span → ℕ → Bool
covers span p = nat_le span.start p && nat_lt p (span.start + span.count)

module _ {I : Type 0} where
  -- a party with these buffers and no spans
  abbrev pub newcomer : List ℕ → Party I
  newcomer given = record { given = given; settled = []; span = None }

  -- a party after it reserved a span
  abbrev pub with_open : Party I → Span → Party I
  with_open party span = record { given = party.given; settled = party.settled; span = Some span }

  -- a party after it settled its open span with these items, at the span's first positions
  abbrev pub with_settled : Party I → Span → List I → Party I
  with_settled party span items = record {
    given = party.given;
    settled = record { ring = span.ring; side = span.side; start = span.start; items = items } ∷ party.settled;
    span = None;
  }

  -- the party that two parties without open spans become
  abbrev pub joined : Party I → Party I → Party I
  joined a b = record { given = a.given ++ b.given; settled = a.settled ++ b.settled; span = None }
