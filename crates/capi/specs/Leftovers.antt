-- Closing rings, and what is left on them
use Rattle.std.specs.Prelude.{◌≡◌, ◌≢◌, ℕ, ◌<◌, ◌≤◌, ◌⊎◌, ◌++◌, List, [], drop, length, take, IsSome, None, Ok, Err}
use Rattle.fabric.specs.Closed.{IsAll, IsLast, left, ring_count}
use Rattle.fabric.specs.Hands.{pool_of, rings_of}
use Rattle.capi.specs.Codes.{Outcome}
use Rattle.capi.specs.RingCalls.{member_view}
use Rattle.capi.specs.Spans.{tags}
use Rattle.capi.specs.declared.rings.closing.Leftover.{Leftover}
use Rattle.capi.specs.declared.rings.fault.Fault.{Fault}
use Rattle.capi.specs.declared.rings.fault.Fault.TheVariants as fault
use Rattle.capi.specs.declared.rings.member.Member.{Member}
use Rattle.capi.specs.declared.rings.word64.Word64.{Word64}

-- the rings were closed by this hand: what is left is what fabric says
pub record Closes (m : Member) (r : Leftover) : Type 0 where
  pub rings : ring_count r.closed ≡ length (rings_of m.port.fabric.value)
  pub last : IsLast tags (rings_of m.port.fabric.value) (pool_of m.port.fabric.value) (member_view m) r.closed
  pub all : IsAll tags (rings_of m.port.fabric.value) (member_view m) r.closed

-- why they were not
abbrev pub RefusesClose : Member → Fault → Type 0
RefusesClose m why = ((why ≡ fault.Open) × IsSome (member_view m).party.span)
    ⊎ ((why ≡ fault.Shared) × ((member_view m).party.span ≡ None))

-- words that are left on a ring go to the front of the array, the oldest first; its other places are unchanged
pub record Empties (ring : ℕ) (before after : List Word64) (count : ℕ) (r u : Leftover) : Type 0 where
  pub few : count ≤ length before
  pub long : length after ≡ length before
  pub others : drop count after ≡ drop count before
  pub given : left r.closed ring ≡ take count after ++ left u.closed ring
  pub rings : (q : ℕ) → q ≢ ring → left u.closed q ≡ left r.closed q
  pub all : (count ≡ length before) ⊎ (left u.closed ring ≡ [])

abbrev pub DrainsLeftover : Outcome → ℕ → ℕ → List Word64 → List Word64 → Leftover → Leftover → Type 0
DrainsLeftover (Ok count) most ring before after r u = (ring < ring_count r.closed) × Empties ring before after count r u
DrainsLeftover (Err why) most ring before after r u = (after ≡ before) × (u ≡ r)
    × (((why ≡ fault.Ring) × (ring_count r.closed ≤ ring)) ⊎ ((why ≡ fault.Count) × (most < length before)))
