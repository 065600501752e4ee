-- Worked cases of what C gets of routes, of forwarders and of reorder windows, and answers that are none
use Rattle.std.proofs.Common.{◌≡◌, ℕ, List, [], ◌∷◌, refl, sym, ◌∙◌, inl, inr, Option, None, Some, Ok, Err, arith}
use Rattle.std.specs.FinMap as map
use Rattle.lpm.specs.declared.fault.RouteFault.TheVariants.{BadDepth, BadHop, NoGroup, Memory, NoRoute}
use Rattle.lpm.specs.Prefixes.{Members}
use Rattle.reorder.specs.Waiting.{Waiting, after_next}
use Rattle.reorder.specs.declared.fault.InsertFault.TheVariants.{Late, Early, Double}
use Rattle.ipv4.specs.declared.ports.Hop.{Hop}
use Rattle.live_routes.specs.Forwarding.{Forwarding}
use Rattle.live_routes.specs.declared.fault.LiveFault.TheVariants as live
use Rattle.live_routes.specs.declared.ports.Port.{Port}
use Rattle.capi.specs.Fibs.{count_of, depth_of, live_fault_of}
use Rattle.capi.specs.Forwards.{Forwards, IsBurst, Judges}
use Rattle.capi.specs.Tables.{LooksUpAll, RefusesTable, fault_of, hop_found, hop_word}
use Rattle.capi.specs.Windows.{Drains, Leave, RefusesWindow, window_fault}
use Rattle.capi.specs.declared.rings.fault.Fault.{Fault}
use Rattle.capi.specs.declared.rings.fault.Fault.TheVariants as fault

-- a hop is itself; none is a fault, and in a list the greatest number of 32 bits, which no hop is
a_hop : (hop_found (Some 7) ≡ Ok 7) × (hop_word (Some 7) ≡ 7)
a_hop = (refl, refl)

no_hop : (hop_found None ≡ Err fault.NoRoute) × (hop_word None ≡ 4294967295)
no_hop = (refl, refl)

-- the faults of routes and windows
route_faults : (fault_of BadDepth ≡ fault.Depth) × (fault_of BadHop ≡ fault.Hop) × (fault_of NoGroup ≡ fault.Groups)
    × (fault_of Memory ≡ fault.Memory) × (fault_of NoRoute ≡ fault.NoRoute)
route_faults = (refl, refl, refl, refl, refl)

window_faults : (window_fault Late ≡ fault.Late) × (window_fault Early ≡ fault.Early) × (window_fault Double ≡ fault.Double)
window_faults = (refl, refl, refl)

-- a first level has 2^16 or 2^24 entries
twenty_bits : RefusesTable 20 fault.Plan
twenty_bits = inl (refl, λ e. omega (arith, e), λ e. omega (arith, e))

sixteen_bits : RefusesTable 16 fault.Plan → ⊥
sixteen_bits (inl is) = is.1 refl
sixteen_bits (inr is) = absurd (let e : ◌≡◌ {A = Fault} fault.Plan fault.Memory = is in cc)

-- a window has room for 1 to 65,536 words
no_window : RefusesWindow 0 fault.Plan
no_window = inl (refl, inl refl)

too_wide : RefusesWindow 65537 fault.Plan
too_wide = inl (refl, inr (omega arith))

widest : RefusesWindow 65536 fault.Plan → ⊥
widest (inl (same, inl none)) = absurd (omega (arith, none))
widest (inl (same, inr wide)) = absurd (omega (arith, wide))
widest (inr is) = absurd (let e : ◌≡◌ {A = Fault} fault.Plan fault.Memory = is in cc)

module _ (w : Waiting ℕ) where
  -- nothing leaves a window whose next word isn't there, and the array is as it was
  nothing_there : map.get w.held w.next ≡ None → Drains (Ok 0) 2 (7 ∷ 8 ∷ []) (7 ∷ 8 ∷ []) w w
  nothing_there none = (omega arith, refl, refl, refl, inr none)

  -- one word leaves, and the place after it is as it was
  one_there : map.get w.held w.next ≡ Some 5 → map.get (after_next w).held (after_next w).next ≡ None
      → Drains (Ok 1) 2 (7 ∷ 8 ∷ []) (5 ∷ 8 ∷ []) w (after_next w)
  one_there first none = (omega arith, refl, refl, (first, refl), inr none)

  -- a full array ends a drain, though a word may wait behind it
  full : map.get w.held w.next ≡ Some 5 → Drains (Ok 1) 1 (7 ∷ []) (5 ∷ []) w (after_next w)
  full first = (omega arith, refl, refl, (first, refl), inl refl)

  module _ (u : Waiting ℕ) where
    writes_behind_its_words : Drains (Ok 1) 2 (7 ∷ 8 ∷ []) (5 ∷ 9 ∷ []) w u → ⊥
    writes_behind_its_words is = absurd (let e : ◌≡◌ {A = List ℕ} (9 ∷ []) (8 ∷ []) = is.2 in let z : ◌≡◌ {A = ℕ} 9 8 = cc in omega (arith, z))

    more_than_fit : Drains (Ok 2) 1 (7 ∷ []) (5 ∷ []) w u → ⊥
    more_than_fit is = absurd (omega (arith, is.0))

    -- words that wait are not left behind while there is a place for them
    stops_early : map.get u.held u.next ≡ Some 6 → Drains (Ok 1) 2 (7 ∷ 8 ∷ []) (5 ∷ 8 ∷ []) w u → ⊥
    stops_early there is = elim is.4 [
      | inl whole ↦ absurd (let z : ◌≡◌ {A = ℕ} 1 2 = whole in omega (arith, z))
      | inr none ↦ absurd (let e : ◌≡◌ {A = Option ℕ} (Some 6) None = sym there ∙ none in cc)
    ]

    out_of_turn : map.get w.held w.next ≡ Some 6 → Leave (5 ∷ []) w u → ⊥
    out_of_turn there is = absurd (let e : ◌≡◌ {A = Option ℕ} (Some 6) (Some 5) = sym there ∙ is.0 in let z : ◌≡◌ {A = ℕ} 6 5 = cc in omega (arith, z))

module _ (t : Members) where
  -- a list of another length is refused, and nothing is written
  one_place_short : LooksUpAll (Err fault.Count) (1 ∷ 2 ∷ []) (9 ∷ []) (9 ∷ []) t
  one_place_short = (refl, λ e. absurd (let z : ◌≡◌ {A = ℕ} 2 1 = e in omega (arith, z)), refl)

  writes_and_refuses : LooksUpAll (Err fault.Count) (1 ∷ 2 ∷ []) (9 ∷ []) (8 ∷ []) t → ⊥
  writes_and_refuses is = absurd (let e : ◌≡◌ {A = List ℕ} (8 ∷ []) (9 ∷ []) = is.2 in let z : ◌≡◌ {A = ℕ} 8 9 = cc in omega (arith, z))

  refuses_without_a_reason : LooksUpAll (Err fault.Count) (1 ∷ []) (9 ∷ []) (9 ∷ []) t → ⊥
  refuses_without_a_reason is = is.1 refl

-- a burst has a frame at least
no_frames : IsBurst [] [] → ⊥
no_frames is = absurd (omega (arith, is.some))

no_frames_but_a_place : IsBurst [] (7 ∷ []) → ⊥
no_frames_but_a_place is = absurd (omega (arith, is.some))

module _ (f : Forwarding Hop Port) where
  -- a frame that is refused had more bytes than there were on the wire, and stays as it is
  longer_than_on_the_wire : Forwards (Err fault.Count) 1 (7 ∷ 8 ∷ []) (7 ∷ 8 ∷ []) f
  longer_than_on_the_wire = (refl, omega arith, refl)

  refuses_a_whole_frame : Forwards (Err fault.Count) 2 (7 ∷ 8 ∷ []) (7 ∷ 8 ∷ []) f → ⊥
  refuses_a_whole_frame is = absurd (omega (arith, is.1))

  writes_and_refuses_a_frame : Forwards (Err fault.Count) 1 (7 ∷ 8 ∷ []) (7 ∷ 9 ∷ []) f → ⊥
  writes_and_refuses_a_frame is = absurd (let e : ◌≡◌ {A = List ℕ} (7 ∷ 9 ∷ []) (7 ∷ 8 ∷ []) = is.2 in let z : ◌≡◌ {A = ℕ} 9 8 = cc in omega (arith, z))

  judges_a_longer_frame : Judges (Ok 7) 1 (7 ∷ 8 ∷ []) f → ⊥
  judges_a_longer_frame is = absurd (omega (arith, is.0))

-- the faults of a forwarding table
table_faults : (live_fault_of live.BadDepth ≡ fault.Depth) × (live_fault_of live.BadHop ≡ fault.Hop)
    × (live_fault_of live.NoGroup ≡ fault.Groups) × (live_fault_of live.Memory ≡ fault.Memory)
    × (live_fault_of live.NoRoute ≡ fault.NoRoute) × (live_fault_of live.BadPort ≡ fault.Count)
    × (live_fault_of live.Pending ≡ fault.Pending)
table_faults = (refl, refl, refl, refl, refl, refl, refl)

-- a depth that is too large stays too large, and a count that doesn't fit is the greatest
depths : (depth_of 32 ≡ 32) × (depth_of 255 ≡ 255) × (depth_of 256 ≡ 255)
depths = (refl, refl, refl)

counts : (count_of 7 ≡ 7) × (count_of 4294967295 ≡ 4294967295) × (count_of 4294967296 ≡ 4294967295)
counts = (refl, refl, refl)
