-- One side of a ring as the spans of all parties make it: which items were settled at which position, and what is
-- reserved
use Rattle.std.specs.Prelude.{ℕ, ◌&&◌, nat_le, ◌+◌, ◌-◌, ◌<◌, ◌≤◌, ◌≡◌, max, if◌then◌else◌, List, [], ◌∷◌, length}
use Rattle.std.specs.Prelude.{slice_get, Option, Some, None}
use Rattle.std.specs.List.{flat_map, sum_by, range_with_len}
use Rattle.std.specs.Option.{option_to_list}
use Rattle.geom.specs.declared.plan.Side.{Side}
use Rattle.ringcore_laws.specs.declared.protocol.Span.{Span}
use Rattle.ringcore_laws.specs.declared.party.Party.{Party}
use Rattle.ringcore_laws.specs.declared.party.Settled.{Settled}
use Rattle.ringcore_laws.specs.Party.{is_on, covers}

-- the greatest value of f on a list, or 0
abbrev pub greatest : {X : Type 0} → (X → ℕ) → List X → ℕ
greatest f [] = 0
greatest f (x ∷ xs) = max (f x) (greatest f xs)

-- how often an open span, if there is one, holds a position of this side: once or never
abbrev pub span_at : ℕ → Side → ℕ → Option Span → ℕ
span_at ring side p None = 0
span_at ring side p (Some s) = if is_on s.ring s.side ring side && covers s p then 1 else 0

-- how many positions of this side an open span holds
abbrev pub span_count : ℕ → Side → Option Span → ℕ
span_count ring side None = 0
span_count ring side (Some s) = if is_on s.ring s.side ring side then s.count else 0

-- where an open span of this side ends
abbrev pub span_end : ℕ → Side → Option Span → ℕ
span_end ring side None = 0
span_end ring side (Some s) = if is_on s.ring s.side ring side then s.start + s.count else 0

-- one side of a ring
pub record RingSide (I : Type 0) : Type 0 where
  pub items_at : ℕ → List I  -- the items that settled spans have at a position
  pub len : ℕ  -- how many items the settled spans have
  pub openers : ℕ → ℕ  -- how many open spans hold a position
  pub open_count : ℕ  -- how many positions all open spans have
  pub reach : ℕ  -- the greatest end of a settled or open span

module _ {I : Type 0} where
  -- the item at a position, if these items are at start, start + 1 and so on: none or one
  abbrev pub item_at : ℕ → List I → ℕ → List I
  item_at start items p = if nat_le start p then option_to_list (slice_get items (p - start)) else []

  abbrev pub settled_at : ℕ → Side → ℕ → Settled I → List I
  settled_at ring side p s = if is_on s.ring s.side ring side then item_at s.start s.items p else []

  abbrev pub settled_count : ℕ → Side → Settled I → ℕ
  settled_count ring side s = if is_on s.ring s.side ring side then length s.items else 0

  abbrev pub settled_end : ℕ → Side → Settled I → ℕ
  settled_end ring side s = if is_on s.ring s.side ring side then s.start + length s.items else 0

  unfoldable pub party_items : ℕ → Side → ℕ → Party I → List I
  party_items ring side p party = flat_map (settled_at ring side p) party.settled

  unfoldable pub party_count : ℕ → Side → Party I → ℕ
  party_count ring side party = sum_by (settled_count ring side) party.settled

  unfoldable pub party_end : ℕ → Side → Party I → ℕ
  party_end ring side party = max (greatest (settled_end ring side) party.settled) (span_end ring side party.span)

  -- a side of a ring, by the spans of all parties
  unfoldable pub side_of : List (Party I) → ℕ → Side → RingSide I
  side_of parties ring side = record {
    items_at = λ p. flat_map (party_items ring side p) parties;
    len = sum_by (party_count ring side) parties;
    openers = λ p. sum_by (λ party. span_at ring side p party.span) parties;
    open_count = sum_by (λ party. span_count ring side party.span) parties;
    reach = greatest (party_end ring side) parties;
  }

  -- the settled items in order of position
  unfoldable pub listed : RingSide I → List I
  listed l = flat_map l.items_at (range_with_len 0 l.len)

  -- The positions with a settled item are 0, 1, 2 and so on, each with one. So `listed` has each settled item at its
  -- position
  pub record IsGapless (l : RingSide I) : Type 0 where
    pub one : (p : ℕ) → p < l.len → length (l.items_at p) ≡ 1
    pub none : (p : ℕ) → l.len ≤ p → l.items_at p ≡ []
