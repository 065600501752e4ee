-- States that aren't sound: for each field of soundness one that is made to break this field and no other. Each theorem
-- is named for its field
use Rattle.std.proofs.Common.{ℕ, ◌≡◌, ◌≤◌, ◌<◌, List, [], ◌∷◌, refl, false, arith}
use Rattle.std.specs.Prelude.{Some, None}
use Rattle.geom.specs.declared.plan.Mode.TheVariants.{Multi}
use Rattle.geom.specs.declared.plan.Side.{Side}
use Rattle.geom.specs.declared.plan.Side.TheVariants.{Put, Take}
use Rattle.ringcore_laws.specs.declared.contents.Item.{Item}
use Rattle.ringcore_laws.specs.declared.contents.Item.TheVariants.{Word, Buffers}
use Rattle.ringcore_laws.specs.declared.protocol.Span.{Span}
use Rattle.ringcore_laws.specs.declared.party.Party.{Party}
use Rattle.ringcore_laws.specs.declared.party.Settled.{Settled}
use Rattle.ringcore_laws.specs.RingSide.{side_of, listed, party_items, party_count, party_end}
use Rattle.ringcore_laws.specs.Sound.{Sound, claims, holds, moved, place_count}
use Rattle.ringcore_laws.specs.History.{tags}
use Rattle.ringcore_laws.proofs.Rows.{ring}
use Rattle.ringcore_laws.proofs.WornRows.{span}

abbrev pub quiet : List ℕ → List (Settled Item) → Party Item
quiet given settled = record { given = given; settled = settled; span = None }

abbrev pub busy : List ℕ → List (Settled Item) → Span → Party Item
busy given settled s = record { given = given; settled = settled; span = Some s }

abbrev pub done : Side → ℕ → List Item → Settled Item
done side start items = record { ring = 0; side = side; start = start; items = items }

abbrev Same : ℕ → ℕ → Type 0
Same a b = a ≡ b

-- two producers hold one span
pub claimed_once : ¬ Sound tags (ring 4 3 Multi Multi false ∷ []) 0 (
    busy [] [] (span 0 Put 0 1) ∷ busy [] [] (span 0 Put 0 1) ∷ [])
unfolding side_of party_items party_count party_end listed holds moved claims place_count
claimed_once s =
    let h : 2 ≤ 1 = (s.rings 0 (ring 4 3 Multi Multi false) refl).claimed_once 0 in absurd (omega arith)

-- two open spans at positions 0 and 4, which are the same slot of 4
pub slots_apart : ¬ Sound tags (ring 4 3 Multi Multi false ∷ []) 0 (
    busy [] [] (span 0 Put 0 1) ∷ busy [] [] (span 0 Put 4 1) ∷ [])
unfolding side_of party_items party_count party_end listed holds moved claims place_count
slots_apart s =
    let h : Same 0 4 = (s.rings 0 (ring 4 3 Multi Multi false) refl).slots_apart 0 4 (omega arith) (omega arith) refl in absurd (omega arith)

-- one span that is longer than the ring has slots
pub slots_apart_in_a_span : ¬ Sound tags (ring 4 3 Multi Multi false ∷ []) 0 (
    busy [] [] (span 0 Put 0 5) ∷ [])
unfolding side_of party_items party_count party_end listed holds moved claims place_count
slots_apart_in_a_span s =
    let h : Same 0 4 = (s.rings 0 (ring 4 3 Multi Multi false) refl).slots_apart 0 4 (omega arith) (omega arith) refl in absurd (omega arith)

-- a put that was settled after a gap
pub published : ¬ Sound tags (ring 4 3 Multi Multi false ∷ []) 0 (
    quiet [] (done Put 1 (Word 1 ∷ []) ∷ []) ∷ [])
unfolding side_of party_items party_count party_end listed holds moved claims place_count
published s =
    let h : Same 0 1 = (s.rings 0 (ring 4 3 Multi Multi false) refl).published.one 0 (omega arith) in absurd (omega arith)

-- two settled puts at one position
pub published_once : ¬ Sound tags (ring 4 3 Multi Multi false ∷ []) 0 (
    quiet [] (done Put 0 (Word 1 ∷ []) ∷ done Put 0 (Word 2 ∷ []) ∷ []) ∷ [])
unfolding side_of party_items party_count party_end listed holds moved claims place_count
published_once s =
    let h : Same 2 1 = (s.rings 0 (ring 4 3 Multi Multi false) refl).published.one 0 (omega arith) in absurd (omega arith)

-- a take that was settled after a gap
pub dequeued : ¬ Sound tags (ring 4 3 Multi Multi false ∷ []) 0 (
    quiet [] (done Put 0 (Word 1 ∷ Word 2 ∷ []) ∷ done Take 1 (Word 2 ∷ []) ∷ []) ∷ [])
unfolding side_of party_items party_count party_end listed holds moved claims place_count
dequeued s =
    let h : Same 0 1 = (s.rings 0 (ring 4 3 Multi Multi false) refl).dequeued.one 0 (omega arith) in absurd (omega arith)

-- a take that returned a different item from the one put there
pub fifo : ¬ Sound tags (ring 4 3 Multi Multi false ∷ []) 0 (
    quiet [] (done Put 0 (Word 1 ∷ []) ∷ done Take 0 (Word 2 ∷ []) ∷ []) ∷ [])
unfolding side_of party_items party_count party_end listed holds moved claims place_count
fifo s =
    let h = (s.rings 0 (ring 4 3 Multi Multi false) refl).fifo in let e : Word 2 ∷ h.0 ≡ Word 1 ∷ [] = h.1 in absurd cc

-- more queued than the capacity, though there are slots
pub within_capacity : ¬ Sound tags (ring 8 3 Multi Multi false ∷ []) 0 (
    quiet [] (done Put 0 (Word 1 ∷ Word 2 ∷ Word 3 ∷ Word 4 ∷ []) ∷ []) ∷ [])
unfolding side_of party_items party_count party_end listed holds moved claims place_count
within_capacity s =
    let h : 4 ≤ 3 = (s.rings 0 (ring 8 3 Multi Multi false) refl).within_capacity in absurd (omega arith)

-- an open take of a position that nobody published
pub takes_are_queued : ¬ Sound tags (ring 4 3 Multi Multi false ∷ []) 0 (
    busy [] [] (span 0 Take 0 1) ∷ [])
unfolding side_of party_items party_count party_end listed holds moved claims place_count
takes_are_queued s =
    let h : 0 < 0 = ((s.rings 0 (ring 4 3 Multi Multi false) refl).takes_are_queued 0 (omega arith)).1 in absurd (omega arith)

-- an open put of a position that is settled
pub puts_unsettled : ¬ Sound tags (ring 4 3 Multi Multi false ∷ []) 0 (
    quiet [] (done Put 0 (Word 1 ∷ []) ∷ done Take 0 (Word 1 ∷ []) ∷ []) ∷ busy [] [] (span 0 Put 0 1) ∷ [])
unfolding side_of party_items party_count party_end listed holds moved claims place_count
puts_unsettled s =
    let h : Word 1 ∷ [] ≡ [] = (s.rings 0 (ring 4 3 Multi Multi false) refl).puts_unsettled 0 (omega arith) in absurd cc

-- an open take of a position that is settled. No state breaks this field alone, since takes are queued and what
-- was dequeued is gapless
pub takes_unsettled : ¬ Sound tags (ring 4 3 Multi Multi false ∷ []) 0 (
    quiet [] (done Put 0 (Word 1 ∷ []) ∷ done Take 0 (Word 1 ∷ []) ∷ []) ∷ busy [] [] (span 0 Take 0 1) ∷ [])
unfolding side_of party_items party_count party_end listed holds moved claims place_count
takes_unsettled s =
    let h : Word 1 ∷ [] ≡ [] = (s.rings 0 (ring 4 3 Multi Multi false) refl).takes_unsettled 0 (omega arith) in absurd cc

-- a party put a buffer that it never had, so that it holds one less than none
pub never_below_none : ¬ Sound tags (ring 4 3 Multi Multi false ∷ []) 1 (
    quiet [] (done Put 0 (Buffers (0 ∷ []) ∷ []) ∷ []) ∷ [])
unfolding side_of party_items party_count party_end listed holds moved claims place_count
never_below_none s =
    let h : 1 ≤ 0 = s.buffers.never_below_none 0 (quiet [] []) 0 (omega arith) in absurd (omega arith)

-- a buffer on a ring that its party also has
pub one_place_twice : ¬ Sound tags (ring 4 3 Multi Multi false ∷ []) 1 (
    quiet (0 ∷ 0 ∷ []) (done Put 0 (Buffers (0 ∷ []) ∷ []) ∷ []) ∷ [])
unfolding side_of party_items party_count party_end listed holds moved claims place_count
one_place_twice s =
    let h : Same 2 1 = s.buffers.one_place 0 (omega arith) in absurd (omega arith)

-- a buffer that nobody has
pub one_place_lost : ¬ Sound tags (ring 4 3 Multi Multi false ∷ []) 1 (
    quiet [] [] ∷ [])
unfolding side_of party_items party_count party_end listed holds moved claims place_count
one_place_lost s =
    let h : Same 0 1 = s.buffers.one_place 0 (omega arith) in absurd (omega arith)

-- a buffer put on a ring that the plan lacks
pub one_place_off_the_plan : ¬ Sound tags (ring 4 3 Multi Multi false ∷ []) 1 (
    quiet (0 ∷ []) (record { ring = 5; side = Put; start = 0; items = Buffers (0 ∷ []) ∷ [] } ∷ []) ∷ [])
unfolding side_of party_items party_count party_end listed holds moved claims place_count
one_place_off_the_plan s =
    let h : Same 0 1 = s.buffers.one_place 0 (omega arith) in absurd (omega arith)

-- a number outside the pool
pub no_place : ¬ Sound tags (ring 4 3 Multi Multi false ∷ []) 1 (
    quiet (0 ∷ 1 ∷ []) [] ∷ [])
unfolding side_of party_items party_count party_end listed holds moved claims place_count
no_place s =
    let h : Same 1 0 = s.buffers.no_place 1 (omega arith) in absurd (omega arith)
