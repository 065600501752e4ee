-- The entry of each buffer: where it is. What is read there, and what steps write there
use Rattle.std.specs.Prelude.{ℕ, Bool, true, false, ◌≡◌, ◌+◌, ◌==◌, ◌&&◌, not, ◌||◌, if◌then◌else◌, List, [], ◌∷◌}
use Rattle.std.specs.Prelude.{length}
use Rattle.std.specs.Prelude.{slice_index_or, slice_set, Option, Some, None}
use Rattle.std.specs.List.{list_all, flat_map}
use Rattle.ringcore_laws.specs.declared.contents.Item.{Item}
use Rattle.ringcore_laws.specs.declared.protocol.Place.{Place}
use Rattle.ringcore_laws.specs.declared.protocol.Place.TheVariants.{AtRing, Held, Cached, Nowhere}
use Rattle.ringcore_laws.specs.Sound.{occurrences}
use Rattle.ringcore_laws.specs.History.{tags}

-- the entry of a buffer; a number that isn't a buffer has none, and is nowhere
abbrev pub entry : List Place → ℕ → Place
entry places b = slice_index_or places b Nowhere

-- whether an actor has the buffer by its entry, and hasn't marked it; whether it has marked it
abbrev pub is_held_at : ℕ → Place → Bool
is_held_at i (Held j) = j == i
is_held_at i _ = false

abbrev pub is_cached_at : ℕ → Place → Bool
is_cached_at i (Cached j) = j == i
is_cached_at i _ = false

-- how often an actor has the buffer: once or never
abbrev pub times_with : ℕ → Place → ℕ
times_with i (Held j) = if j == i then 1 else 0
times_with i (Cached j) = if j == i then 1 else 0
times_with i _ = 0

-- the positions of a ring at which the buffer is: one or none
abbrev pub positions_on : ℕ → Place → List ℕ
positions_on r (AtRing s p) = if s == r then p ∷ [] else []
positions_on r _ = []

-- the entries after one place was written to each of these buffers
abbrev pub with_each : List Place → List ℕ → Place → List Place
with_each places [] place = places
with_each places (b ∷ numbers) place = with_each (slice_set places b place) numbers place

-- the entries after these items were queued on a ring, the first of them at this position
abbrev pub with_items_at : List Place → ℕ → ℕ → List Item → List Place
with_items_at places r p [] = places
with_items_at places r p (x ∷ items) = with_items_at (with_each places (tags x) (AtRing r p)) r (p + 1) items

-- The test of numbers that are to be put: each is held by the actor, and is marked when it has passed, so that it
-- doesn't pass twice. The result is the marked entries, if all passed
abbrev pub claimed : ℕ → List Place → List ℕ → Option (List Place)
claimed i places [] = Some places
claimed i places (b ∷ numbers) =
    if is_held_at i (entry places b) then claimed i (slice_set places b (Cached i)) numbers else None

-- what such a test leaves: all numbers marked, or nothing changed
abbrev pub IsClaimed : ℕ → List Place → List Place → List ℕ → Bool → Type 0
IsClaimed i old new numbers true = claimed i old numbers ≡ Some new
IsClaimed i old new numbers false = (claimed i old numbers ≡ None) × (new ≡ old)

-- whether an actor may put items with these buffers: it holds them, and none is listed twice
abbrev pub are_held_apart : ℕ → List Place → List ℕ → Bool
are_held_apart i places numbers =
    list_all (λ b. is_held_at i (entry places b)) numbers && list_all (λ b. occurrences b numbers == 1) numbers

abbrev pub may_put_all : Bool → ℕ → List Place → List Item → Bool
may_put_all free i places items =
    are_held_apart i places (flat_map tags items) && (not free || list_all (λ x. length (tags x) == 1) items)
