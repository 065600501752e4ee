-- When the positions of a ring are used up, computed by the definitions on made-up states: actor 0 has reserved a span,
-- and actor 1 has looked at a word near the last position. What is expected is the protocol's table: BadCount, then
-- NoRoom, then Worn, then Contended
use Rattle.std.proofs.Common.{◌≡◌, ℕ, [], ◌∷◌, refl, false}
use Rattle.std.specs.Prelude.{Some, None}
use Rattle.geom.specs.declared.plan.Mode.{Mode}
use Rattle.geom.specs.declared.plan.Mode.TheVariants.{Multi, Hts}
use Rattle.geom.specs.declared.plan.Side.{Side}
use Rattle.geom.specs.declared.plan.Side.TheVariants.{Put, Take}
use Rattle.geom.specs.declared.plan.How.TheVariants.{Bulk, Burst}
use Rattle.geom.specs.declared.plan.RingPlan.{RingPlan}
use Rattle.ringcore_laws.specs.declared.protocol.Span.{Span}
use Rattle.ringcore_laws.specs.declared.protocol.Step.TheVariants.{Room, Reserve}
use Rattle.ringcore_laws.specs.declared.protocol.Reply.TheVariants.{Granted, Contended, NoRoom, Worn, NoSpan, BadCount}
use Rattle.ringcore_laws.specs.RingSide.{side_of, listed, party_items, party_count, party_end}
use Rattle.ringcore_laws.specs.Sound.{holds, moved}
use Rattle.ringcore_laws.specs.History.{Actor, IsRun, after, reply_to}
use Rattle.ringcore_laws.specs.FreeRings.{buffers_had}
use Rattle.ringcore_laws.proofs.Rows.{event, ring}

abbrev pub span : ℕ → Side → ℕ → ℕ → Span
span r side start count = record { ring = r; side = side; start = start; count = count }

abbrev inside : Span → Actor
inside s = record { party = record { given = []; settled = []; span = Some s }; observed = None; cached = [] }

abbrev looking : Side → ℕ → ℕ → Actor
looking side word tail =
    record {
      party = record { given = []; settled = []; span = None };
      observed = Some record { ring = 0; side = side; looked_at = word; tail_seen = Some tail };
      cached = [];
    }

abbrev plan : Mode → RingPlan
plan mode = ring 4 3 mode mode false

-- the last position, 2^44 - 1, is granted
pub last_granted : reply_to (plan Multi ∷ []) 0 (inside (span 0 Put 17592186044412 2) ∷ looking Put 17592186044414 17592186044414 ∷ [])
    1 (Reserve 0 Put Bulk 1) ≡ Granted 17592186044414 1 2
unfolding reply_to after side_of party_items party_count party_end listed holds moved buffers_had
last_granted = refl

-- a span above it is not
pub too_many : reply_to (plan Multi ∷ []) 0 (inside (span 0 Put 17592186044412 2) ∷ looking Put 17592186044414 17592186044414 ∷ [])
    1 (Reserve 0 Put Bulk 2) ≡ Worn
unfolding reply_to after side_of party_items party_count party_end listed holds moved buffers_had
too_many = refl

-- nor one of a burst, whose count is what fits in the ring
pub burst_too_many : reply_to (plan Multi ∷ []) 0 (inside (span 0 Put 17592186044412 2) ∷ looking Put 17592186044414 17592186044414 ∷ [])
    1 (Reserve 0 Put Burst 9) ≡ Worn
unfolding reply_to after side_of party_items party_count party_end listed holds moved buffers_had
burst_too_many = refl

-- too little room is reported first
pub room_first : reply_to (plan Multi ∷ []) 0 (inside (span 0 Put 17592186044412 2) ∷ looking Put 17592186044414 17592186044414 ∷ [])
    1 (Reserve 0 Put Bulk 4) ≡ NoRoom 3
unfolding reply_to after side_of party_items party_count party_end listed holds moved buffers_had
room_first = refl

-- so is a count of 0
pub count_first : reply_to (plan Multi ∷ []) 0 (inside (span 0 Put 17592186044412 2) ∷ looking Put 17592186044414 17592186044414 ∷ [])
    1 (Reserve 0 Put Bulk 0) ≡ BadCount
unfolding reply_to after side_of party_items party_count party_end listed holds moved buffers_had
count_first = refl

-- and a side that was not looked at
pub other_side_first : reply_to (plan Multi ∷ []) 0 (inside (span 0 Put 17592186044412 2) ∷ looking Put 17592186044414 17592186044414 ∷ [])
    1 (Reserve 0 Take Bulk 2) ≡ NoSpan
unfolding reply_to after side_of party_items party_count party_end listed holds moved buffers_had
other_side_first = refl

-- Worn is reported before Contended
pub before_contended : reply_to (plan Multi ∷ []) 0 (inside (span 0 Put 17592186044412 2) ∷ looking Put 17592186044413 17592186044414 ∷ [])
    1 (Reserve 0 Put Bulk 3) ≡ Worn
unfolding reply_to after side_of party_items party_count party_end listed holds moved buffers_had
before_contended = refl

-- a span up to the last position is contended
pub contended_up_to_last : reply_to (plan Multi ∷ []) 0 (inside (span 0 Put 17592186044412 2) ∷ looking Put 17592186044413 17592186044414 ∷ [])
    1 (Reserve 0 Put Bulk 2) ≡ Contended 17592186044414
unfolding reply_to after side_of party_items party_count party_end listed holds moved buffers_had
contended_up_to_last = refl

-- the same for a burst
pub burst_before_contended : reply_to (plan Multi ∷ []) 0 (inside (span 0 Put 17592186044412 2) ∷ looking Put 17592186044413 17592186044414 ∷ [])
    1 (Reserve 0 Put Burst 9) ≡ Worn
unfolding reply_to after side_of party_items party_count party_end listed holds moved buffers_had
burst_before_contended = refl

-- an HTS put
pub hts_put : reply_to (plan Hts ∷ []) 0 (inside (span 0 Put 0 2) ∷ looking Put 18446744073707454464 17592186044414 ∷ [])
    1 (Reserve 0 Put Bulk 2) ≡ Worn
unfolding reply_to after side_of party_items party_count party_end listed holds moved buffers_had
hts_put = refl

pub hts_put_contended : reply_to (plan Hts ∷ []) 0 (inside (span 0 Put 0 2) ∷ looking Put 18446744073707454464 17592186044414 ∷ [])
    1 (Reserve 0 Put Bulk 1) ≡ Contended 2
unfolding reply_to after side_of party_items party_count party_end listed holds moved buffers_had
hts_put_contended = refl

-- an HTS take
pub hts_take : reply_to (plan Hts ∷ []) 0 (inside (span 0 Put 0 2) ∷ looking Take 18446744073707454464 17592186044416 ∷ [])
    1 (Reserve 0 Take Bulk 2) ≡ Worn
unfolding reply_to after side_of party_items party_count party_end listed holds moved buffers_had
hts_take = refl

pub hts_take_contended : reply_to (plan Hts ∷ []) 0 (inside (span 0 Put 0 2) ∷ looking Take 18446744073707454464 17592186044416 ∷ [])
    1 (Reserve 0 Take Burst 1) ≡ Contended 0
unfolding reply_to after side_of party_items party_count party_end listed holds moved buffers_had
hts_take_contended = refl

-- a Reserve that is answered Worn ends the look
pub worn_ends : IsRun (plan Multi ∷ []) 0 (inside (span 0 Put 17592186044412 2) ∷ looking Put 17592186044414 17592186044414 ∷ []) (
    event 1 (Reserve 0 Put Bulk 2) Worn
    ∷ event 1 (Reserve 0 Put Bulk 1) NoSpan
    ∷ event 1 (Room 0 Put) NoSpan
    ∷ [])
unfolding reply_to after side_of party_items party_count party_end listed holds moved buffers_had
worn_ends = (refl, (refl, (refl, tt)))

-- a ring whose last position is another one: 99, and beyond 2^44
abbrev ending : ℕ → RingPlan
ending last = record {
  geometry = record { size = 4; capacity = 3; last = last; count_bits = 12 };
  put = Multi;
  take = Multi;
  free = false;
}

pub ends_at_99 : reply_to (ending 99 ∷ []) 0 (inside (span 0 Put 97 2) ∷ looking Put 99 99 ∷ []) 1 (Reserve 0 Put Bulk 1) ≡ Worn
unfolding reply_to after side_of party_items party_count party_end listed holds moved buffers_had
ends_at_99 = refl

pub goes_on : reply_to (ending 4503599627370495 ∷ []) 0 (inside (span 0 Put 17592186044413 2) ∷ looking Put 17592186044415 17592186044415 ∷ [])
    1 (Reserve 0 Put Bulk 3) ≡ Granted 17592186044415 3 0
unfolding reply_to after side_of party_items party_count party_end listed holds moved buffers_had
goes_on = refl
