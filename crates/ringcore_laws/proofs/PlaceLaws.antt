-- A buffer of the pool has exactly one place, any other number none
use Rattle.std.proofs.Common.{ℕ, ◌+◌, ◌<◌, ◌≤◌, ◌≡◌, ◌∙◌, List, [], ◌∷◌, length, refl, sym, arith, true, false, Bool}
use Rattle.std.specs.Prelude.{nat_lt, ◌==◌, if◌then◌else◌}
use Rattle.std.specs.List.{flat_map, sum_by, range_with_len}
use Rattle.std.proofs.lemmas.List.{length-append, length-map}
use Rattle.std.proofs.lemmas.List.Concat.{length-flat_map}
use Rattle.std.proofs.lemmas.List.Sums.{sum_by-cons}
use Rattle.std.proofs.lemmas.Bool.Decides.{nat_tests}
use Rattle.geom.specs.declared.plan.RingPlan.{RingPlan}
use Rattle.geom.specs.declared.plan.Side.TheVariants.{Take}
use Rattle.ringcore_laws.specs.declared.contents.Item.{Item}
use Rattle.ringcore_laws.specs.declared.protocol.Step.{Step}
use Rattle.ringcore_laws.specs.declared.protocol.Place.TheVariants.{AtRing, Held, Cached}
use Rattle.ringcore_laws.specs.declared.party.Party.{Party}
use Rattle.ringcore_laws.specs.RingSide.{side_of}
use Rattle.ringcore_laws.specs.Sound.{holds, in_ring, occurrences, occurrences_in, place_count, queue}
use Rattle.ringcore_laws.specs.History.{Actor, after_all, is_cached, opening, parties_of, tags}
use Rattle.ringcore_laws.specs.Place.{all_places, place_with, places_on, places_with, positions_from, queued_at}
use Rattle.ringcore_laws.specs.Runs.{IsPlan, history_of}
use Rattle.ringcore_laws.proofs.Laws.{range_same}
use Rattle.ringcore_laws.proofs.HeadTailLaws.{range_part}
use Rattle.ringcore_laws.proofs.RunLaws.{kept_after}

-- the number of positions of a buffer that occurs in items at most once
positions_counted : (b p : ℕ) (items : List Item) → occurrences_in tags b items ≤ 1 → length (positions_from b p items) ≡ occurrences_in tags b items
positions_counted b p [] le = refl
positions_counted b p (x ∷ items) le =
    here (nat_lt 0 (occurrences b (tags x))) refl (positions_counted b (p + 1) items (omega (arith, le, sum)))
  where
    sum : occurrences_in tags b (x ∷ items) ≡ occurrences b (tags x) + occurrences_in tags b items
    sum = sum_by-cons (λ y. occurrences b (tags y)) x items

    here : (t : Bool) → nat_lt 0 (occurrences b (tags x)) ≡ t → length (positions_from b (p + 1) items) ≡ occurrences_in tags b items
        → length (if t then p ∷ positions_from b (p + 1) items else positions_from b (p + 1) items) ≡ occurrences_in tags b (x ∷ items)
    here true e rest =
        let some : 0 < occurrences b (tags x) = grind (arith, nat_tests) in
        omega (arith, sum, le, rest, some)
    here false e rest =
        let none : occurrences b (tags x) ≡ 0 = grind (arith, nat_tests) in
        omega (arith, sum, rest, none)

on_counted : (b : ℕ) (parties : List (Party Item)) (r : ℕ) → in_ring tags b parties r ≤ 1 → length (places_on b parties r) ≡ in_ring tags b parties r
unfolding queued_at
on_counted b parties r le =
    length-map (positions_from b (side_of parties r Take).len (queue parties r)) (AtRing r)
    ∙ positions_counted b (side_of parties r Take).len (queue parties r) le

rings_counted : (b : ℕ) (parties : List (Party Item)) (rings : ℕ) → sum_by (in_ring tags b parties) (range_with_len 0 rings) ≤ 1
    → length (flat_map (places_on b parties) (range_with_len 0 rings)) ≡ sum_by (in_ring tags b parties) (range_with_len 0 rings)
rings_counted b parties rings le =
    length-flat_map (places_on b parties) (range_with_len 0 rings)
    ∙ range_same (in_ring tags b parties) (λ r. length (places_on b parties r)) 0 rings
    (λ r above below. on_counted b parties r (omega (arith, le, range_part (in_ring tags b parties) 0 rings r above below)))

with_counted : (b i : ℕ) (a : Actor) → holds tags b a.party ≤ 1 → length (place_with b i a) ≡ holds tags b a.party
with_counted b i a le = by_test (holds tags b a.party == 1) refl
  where
    by_test : (t : Bool) → (holds tags b a.party == 1) ≡ t → length (if t then (if is_cached a b then Cached i else Held i) ∷ [] else []) ≡ holds tags b a.party
    by_test true e = let one : holds tags b a.party ≡ 1 = grind (arith, nat_tests) in sym one
    by_test false e = let none : holds tags b a.party ≡ 0 = grind (arith, nat_tests, le) in sym none

actors_counted : (b i : ℕ) (actors : List Actor) → sum_by (holds tags b) (parties_of actors) ≤ 1
    → length (places_with b i actors) ≡ sum_by (holds tags b) (parties_of actors)
actors_counted b i [] le = refl
actors_counted b i (a ∷ actors) le =
    let sum = sum_by-cons (holds tags b) a.party (parties_of actors) in
    let one = with_counted b i a (omega (arith, le, sum)) in
    let rest = actors_counted b (i + 1) actors (omega (arith, le, sum)) in
    omega (arith, sum, one, rest, length-append (place_with b i a) (places_with b (i + 1) actors))

-- the number of places is the one that soundness counts
places_counted : (rings b : ℕ) (actors : List Actor) → place_count tags rings b (parties_of actors) ≤ 1
    → length (all_places rings actors b) ≡ place_count tags rings b (parties_of actors)
unfolding place_count
places_counted rings b actors le =
    let on = rings_counted b (parties_of actors) rings (omega (arith, le)) in
    let with = actors_counted b 0 actors (omega (arith, le)) in
    omega (arith, on, with, length-append (flat_map (places_on b (parties_of actors)) (range_with_len 0 rings)) (places_with b 0 actors))

pub one_place_after : (plans : List RingPlan) (actors : ℕ) (gifts : List ℕ) (steps : List (ℕ × Step)) (b : ℕ) → IsPlan plans actors gifts → b < length gifts
    → length (all_places (length plans) (after_all (opening actors gifts) (history_of plans (length gifts) (opening actors gifts) steps)) b) ≡ 1
one_place_after plans actors gifts steps b plan lt =
    let now = after_all (opening actors gifts) (history_of plans (length gifts) (opening actors gifts) steps) in
    let one = (kept_after plans actors gifts steps plan).sound.buffers.one_place b lt in
    places_counted (length plans) b now (omega (arith, one)) ∙ one

pub no_place_after : (plans : List RingPlan) (actors : ℕ) (gifts : List ℕ) (steps : List (ℕ × Step)) (b : ℕ) → IsPlan plans actors gifts → length gifts ≤ b
    → length (all_places (length plans) (after_all (opening actors gifts) (history_of plans (length gifts) (opening actors gifts) steps)) b) ≡ 0
no_place_after plans actors gifts steps b plan out =
    let now = after_all (opening actors gifts) (history_of plans (length gifts) (opening actors gifts) steps) in
    let none = (kept_after plans actors gifts steps plan).sound.buffers.no_place b out in
    places_counted (length plans) b now (omega (arith, none)) ∙ none
