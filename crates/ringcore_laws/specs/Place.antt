-- Where a buffer is
use Rattle.std.specs.Prelude.{ℕ, nat_lt, ◌+◌, ◌==◌, if◌then◌else◌, List, [], ◌∷◌, ◌++◌, map}
use Rattle.std.specs.List.{flat_map, range_with_len}
use Rattle.geom.specs.declared.plan.Side.TheVariants.{Take}
use Rattle.ringcore_laws.specs.declared.contents.Item.{Item}
use Rattle.ringcore_laws.specs.declared.protocol.Place.{Place}
use Rattle.ringcore_laws.specs.declared.protocol.Place.TheVariants.{AtRing, Held, Cached, Nowhere}
use Rattle.ringcore_laws.specs.declared.party.Party.{Party}
use Rattle.ringcore_laws.specs.RingSide.{side_of}
use Rattle.ringcore_laws.specs.Sound.{occurrences, holds, queue}
use Rattle.ringcore_laws.specs.History.{Actor, tags, parties_of, is_cached}

-- the positions of a buffer in items, the first of which is at this position
abbrev pub positions_from : ℕ → ℕ → List Item → List ℕ
positions_from b position [] = []
positions_from b position (x ∷ items) =
    if nat_lt 0 (occurrences b (tags x)) then position ∷ positions_from b (position + 1) items
    else positions_from b (position + 1) items

-- the queued positions of a ring that have a buffer
unfoldable pub queued_at : ℕ → List (Party Item) → ℕ → List ℕ
queued_at b parties ring = positions_from b (side_of parties ring Take).len (queue parties ring)

abbrev pub places_on : ℕ → List (Party Item) → ℕ → List Place
places_on b parties ring = map (AtRing ring) (queued_at b parties ring)

abbrev pub place_with : ℕ → ℕ → Actor → List Place
place_with b i a = if holds tags b a.party == 1 then (if is_cached a b then Cached i else Held i) ∷ [] else []

-- the places of a buffer with actors, the first of whom has this number
abbrev pub places_with : ℕ → ℕ → List Actor → List Place
places_with b i [] = []
places_with b i (a ∷ actors) = place_with b i a ++ places_with b (i + 1) actors

-- all places of a buffer: on this many rings, and with the actors
abbrev pub all_places : ℕ → List Actor → ℕ → List Place
all_places rings actors b =
    flat_map (places_on b (parties_of actors)) (range_with_len 0 rings) ++ places_with b 0 actors

abbrev pub first_place : List Place → Place
first_place [] = Nowhere
first_place (x ∷ rest) = x

-- The place of a buffer. After every list of steps a buffer of the pool has exactly one, any other number none: so the
-- first is the only one
abbrev pub place : ℕ → List Actor → ℕ → Place
place rings actors b = first_place (all_places rings actors b)
