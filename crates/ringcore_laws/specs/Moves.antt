-- How the parties change as one of them reserves or settles
use Rattle.std.specs.Prelude.{ℕ, ◌+◌, ◌≤◌, ◌≡◌, List, slice_index_or, slice_set}
use Rattle.geom.specs.Extent.{Extent}
use Rattle.geom.specs.declared.plan.Side.{Side}
use Rattle.geom.specs.declared.plan.Side.TheVariants.{Put, Take}
use Rattle.ringcore_laws.specs.declared.protocol.Span.{Span}
use Rattle.ringcore_laws.specs.declared.party.Party.{Party}
use Rattle.ringcore_laws.specs.Party.{with_open, with_settled}
use Rattle.ringcore_laws.specs.RingSide.{side_of}
use Rattle.ringcore_laws.specs.Sound.{holds, occurrences_in}

module _ {I : Type 0} where
  -- party i opens a span
  abbrev pub reserved_by : List (Party I) → ℕ → Party I → Span → List (Party I)
  reserved_by parties i d span = slice_set parties i (with_open (slice_index_or parties i d) span)

  -- party i settles its open span with these items
  abbrev pub settled_by : List (Party I) → ℕ → Party I → Span → List I → List (Party I)
  settled_by parties i d span items = slice_set parties i (with_settled (slice_index_or parties i d) span items)

  -- how far a side may be reserved
  abbrev pub limit : Extent → List (Party I) → ℕ → Side → ℕ
  limit e parties ring Put = (side_of parties ring Take).len + e.capacity
  limit e parties ring Take = (side_of parties ring Put).len

  -- a span that may be reserved: after everything that is settled or reserved on its side, and up to the limit
  pub record IsReservable (e : Extent) (parties : List (Party I)) (span : Span) : Type 0 where
    pub behind : (side_of parties span.ring span.side).len ≤ span.start
    pub above : (p : ℕ) → span.start ≤ p → (side_of parties span.ring span.side).openers p ≡ 0
    pub room : span.start + span.count ≤ limit e parties span.ring span.side

module _ {I : Type 0} (tags : I → List ℕ) where
  -- a party puts only its own buffers: it holds each number at least as often as the items have it
  abbrev pub Owns : Party I → List I → Type 0
  Owns party items = (b : ℕ) → occurrences_in tags b items ≤ holds tags b party
