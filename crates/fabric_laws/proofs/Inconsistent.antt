-- Fabrics that aren't consistent: for each field of consistency a state that is made to break this field and no other.
-- Each theorem is named for its field
use Rattle.std.proofs.Common.{ℕ, ◌≡◌, ◌≤◌, ◌<◌, ◌*◌, ◌^◌, ◌++◌, List, [], ◌∷◌, length, refl, ap, true, false, arith, replicate}
use Rattle.std.specs.Prelude.{Option, Some, None}
use mathlib.Core.Option.{some, none}
use mathlib.Core.Option as maybe
use Rattle.atomic_table.specs.Table.{State}
use Rattle.geom.specs.declared.plan.Mode.{Mode}
use Rattle.geom.specs.declared.plan.Mode.TheVariants.{Multi, Hts}
use Rattle.geom.specs.declared.plan.Side.TheVariants.{Put, Take}
use Rattle.geom.specs.declared.plan.RingPlan.{RingPlan}
use Rattle.ringcore_laws.specs.declared.contents.Item.{Item}
use Rattle.ringcore_laws.specs.declared.contents.Item.TheVariants.{Word}
use Rattle.ringcore_laws.specs.declared.protocol.Observed.{Observed}
use Rattle.ringcore_laws.specs.declared.party.Party.{Party}
use Rattle.ringcore_laws.specs.RingSide.{side_of, listed, party_items, party_count, party_end}
use Rattle.ringcore_laws.specs.Sound.{holds, moved, place_count}
use Rattle.ringcore_laws.specs.Party.{newcomer}
use Rattle.ringcore_laws.specs.History.{tags}
use Rattle.ringcore_laws.proofs.Rows.{ring}
use Rattle.ringcore_laws.proofs.WornRows.{span}
use Rattle.ringcore_laws.proofs.Unsound.{quiet, busy, done}
use Rattle.fabric_laws.specs.declared.view.View.{View}
use Rattle.fabric_laws.specs.Rule.{IsConsistent, all_parts}

-- the four words of a ring: the put head and tail, the take head and tail; for an HTS side its own word, and nothing
abbrev words : ℕ → ℕ → ℕ → ℕ → List ℕ
words put put_tail take take_tail =
    put ∷ replicate 15 0 ++ put_tail ∷ replicate 15 0 ++ take ∷ replicate 15 0 ++ take_tail ∷ replicate 15 0

-- a slot that is out with a hand, one with nothing at home, and one with an item
abbrev out : maybe.Option (Option Item)
out = none

abbrev bare : maybe.Option (Option Item)
bare = some None

abbrev has : ℕ → maybe.Option (Option Item)
has x = some (Some (Word x))

-- a ring of 4 slots for 3 items
abbrev plan : Mode → List RingPlan
plan mode = ring 4 3 mode mode false ∷ []

-- a hand with these parts, what its open take shows, and its last look
abbrev hand : ℕ → List RingPlan → ℕ → Party Item → List Item → Option Observed → View Item
hand parts plans pool party shown observed = record {
  party = party;
  shown = shown;
  observed = observed;
  lost = None;
  steps = 0;
  loads = 0;
  parts = parts;
  plans = plans;
  pool = pool;
}

-- the one hand of a fabric
abbrev only : List RingPlan → ℕ → Party Item → List (View Item)
only plans pool party = hand all_parts plans pool party [] None ∷ []

-- one hand that looked
abbrev looking : Mode → Observed → List (View Item)
looking mode o = hand all_parts (plan mode) 0 (newcomer []) [] (Some o) ∷ []

abbrev look : ℕ → ℕ → Option ℕ → Observed
look r word tail = record { ring = r; side = Put; looked_at = word; tail_seen = tail }

abbrev state : List ℕ → List (maybe.Option (Option Item)) → List (View Item) → State (Option Item) (View Item)
state ws hs vs = record { words = ws; homes = hs; views = vs }

abbrev empty : List (maybe.Option (Option Item))
empty = bare ∷ bare ∷ bare ∷ bare ∷ []

abbrev Same : ℕ → ℕ → Type 0
Same a b = a ≡ b

-- a ring for as many items as it has slots
pub spare : ¬ IsConsistent tags (ring 4 4 Multi Multi false ∷ []) 0 (state (words 0 0 0 0) empty (only (ring 4 4 Multi Multi false ∷ []) 0 (newcomer [])))
spare c = let h : 4 < 4 = c.fitting.spare 0 (ring 4 4 Multi Multi false) refl in absurd (omega arith)

-- a ring of 2^21 slots
pub small : ¬ IsConsistent tags (ring 2097152 3 Multi Multi false ∷ []) 0
    (state (words 0 0 0 0) (replicate 2097152 bare) (only (ring 2097152 3 Multi Multi false ∷ []) 0 (newcomer [])))
small c = let h : 2097152 ≤ 2 ^ 20 = c.fitting.small 0 (ring 2097152 3 Multi Multi false) refl in absurd (omega arith)

-- a free ring that is too small for the pool
pub free_rings : ¬ IsConsistent tags (ring 4 3 Multi Multi true ∷ []) 4
    (state (words 0 0 0 0) empty (only (ring 4 3 Multi Multi true ∷ []) 4 (newcomer (0 ∷ 1 ∷ 2 ∷ 3 ∷ []))))
free_rings c = let h : 4 ≤ 3 = c.fitting.free_rings 0 (ring 4 3 Multi Multi true) refl refl in absurd (omega arith)

-- a buffer that two hands have
pub sound : ¬ IsConsistent tags (plan Multi) 1 (state (words 0 0 0 0) empty (
    hand 1 (plan Multi) 1 (newcomer (0 ∷ [])) [] None ∷ hand 9223372036854775807 (plan Multi) 1 (newcomer (0 ∷ [])) [] None ∷ []))
unfolding side_of party_items party_count party_end listed holds moved place_count
sound c = let h : Same 2 1 = c.sound.buffers.one_place 0 (omega arith) in absurd (omega arith)

-- an open put after a gap
pub ruled : ¬ IsConsistent tags (plan Multi) 0
    (state (words 2 0 0 0) (bare ∷ out ∷ bare ∷ bare ∷ []) (only (plan Multi) 0 (busy [] [] (span 0 Put 1 1))))
unfolding side_of party_items party_count party_end
ruled c = let h : 0 < 0 = (c.ruled.sides 0 Put (ring 4 3 Multi Multi false) refl).covered refl 0 (omega arith) (omega arith) in absurd (omega arith)

-- an item without a buffer on a free ring
pub free : ¬ IsConsistent tags (ring 4 3 Multi Multi true ∷ []) 0
    (state (words 1 1 0 0) (has 1 ∷ bare ∷ bare ∷ bare ∷ []) (only (ring 4 3 Multi Multi true ∷ []) 0 (quiet [] (done Put 0 (Word 1 ∷ []) ∷ []))))
unfolding side_of party_items party_count party_end listed
free c = let h : false ≡ true = c.free.singles 0 (ring 4 3 Multi Multi true) refl refl in absurd cc

-- a word too many
pub word_count : ¬ IsConsistent tags (plan Multi) 0 (state (words 0 0 0 0 ++ 0 ∷ []) empty (only (plan Multi) 0 (newcomer [])))
word_count c = let h : Same 65 64 = c.word_count in absurd (omega arith)

-- a head that no span reserved
pub own_multi : ¬ IsConsistent tags (plan Multi) 0 (state (words 1 0 0 0) empty (only (plan Multi) 0 (newcomer [])))
unfolding side_of party_items party_count party_end
own_multi c = let h : Same 1 0 = c.words.own 0 Put (ring 4 3 Multi Multi false) refl in absurd (omega arith)

-- a head/tail-sync word that hides an open span
pub own_hts : ¬ IsConsistent tags (plan Hts) 0
    (state (words 0 0 0 0) (out ∷ bare ∷ bare ∷ bare ∷ []) (only (plan Hts) 0 (busy [] [] (span 0 Put 0 1))))
unfolding side_of party_items party_count party_end
own_hts c = let h : Same 0 1 = c.words.own 0 Put (ring 4 3 Hts Hts false) refl in absurd (omega arith)

-- a take head that no span reserved
pub own_take : ¬ IsConsistent tags (plan Multi) 0 (state (words 0 0 1 0) empty (only (plan Multi) 0 (newcomer [])))
unfolding side_of party_items party_count party_end
own_take c = let h : Same 1 0 = c.words.own 0 Take (ring 4 3 Multi Multi false) refl in absurd (omega arith)

-- a tail that passes an open put
pub tail : ¬ IsConsistent tags (plan Multi) 0
    (state (words 1 1 0 0) (out ∷ bare ∷ bare ∷ bare ∷ []) (only (plan Multi) 0 (busy [] [] (span 0 Put 0 1))))
unfolding side_of party_items party_count party_end
tail c = let h : Same 1 0 = c.words.tail 0 Put (ring 4 3 Multi Multi false) refl refl in absurd (omega arith)

-- a slot too many
pub home_count : ¬ IsConsistent tags (plan Multi) 0 (state (words 0 0 0 0) (bare ∷ empty) (only (plan Multi) 0 (newcomer [])))
home_count c = let h : Same 5 4 = c.home_count in absurd (omega arith)

-- a published item whose slot has a different item, or nothing, or is out though no take is open
pub full_of_another : ¬ IsConsistent tags (plan Multi) 0
    (state (words 1 1 0 0) (has 2 ∷ bare ∷ bare ∷ bare ∷ []) (only (plan Multi) 0 (quiet [] (done Put 0 (Word 1 ∷ []) ∷ []))))
unfolding side_of party_items party_count party_end listed
full_of_another c = let h : some (has 2) ≡ some (has 1) = (c.homes 0 (ring 4 3 Multi Multi false) refl).full 0 (Word 1) (omega arith) refl refl in absurd cc

pub full_of_nothing : ¬ IsConsistent tags (plan Multi) 0
    (state (words 1 1 0 0) empty (only (plan Multi) 0 (quiet [] (done Put 0 (Word 1 ∷ []) ∷ []))))
unfolding side_of party_items party_count party_end listed
full_of_nothing c = let h : some bare ≡ some (has 1) = (c.homes 0 (ring 4 3 Multi Multi false) refl).full 0 (Word 1) (omega arith) refl refl in absurd cc

pub full_and_out : ¬ IsConsistent tags (plan Multi) 0
    (state (words 1 1 0 0) (out ∷ bare ∷ bare ∷ bare ∷ []) (only (plan Multi) 0 (quiet [] (done Put 0 (Word 1 ∷ []) ∷ []))))
unfolding side_of party_items party_count party_end listed
full_and_out c = let h : some out ≡ some (has 1) = (c.homes 0 (ring 4 3 Multi Multi false) refl).full 0 (Word 1) (omega arith) refl refl in absurd cc

-- a free slot that has an item, or is out though no put is open
pub vacant_with_an_item : ¬ IsConsistent tags (plan Multi) 0 (state (words 0 0 0 0) (has 1 ∷ bare ∷ bare ∷ bare ∷ []) (only (plan Multi) 0 (newcomer [])))
unfolding side_of party_items party_count party_end
vacant_with_an_item c =
    let h : some (has 1) ≡ some bare = (c.homes 0 (ring 4 3 Multi Multi false) refl).vacant 0 (omega arith) refl (omega arith) in absurd cc

pub vacant_and_out : ¬ IsConsistent tags (plan Multi) 0 (state (words 0 0 0 0) (bare ∷ bare ∷ bare ∷ out ∷ []) (only (plan Multi) 0 (newcomer [])))
unfolding side_of party_items party_count party_end
vacant_and_out c =
    let h : some out ≡ some bare = (c.homes 0 (ring 4 3 Multi Multi false) refl).vacant 3 (omega arith) refl (omega arith) in absurd cc

-- a look at a ring that doesn't exist
pub observed_ring : ¬ IsConsistent tags (plan Multi) 0 (state (words 0 0 0 0) empty (looking Multi (look 5 0 None)))
observed_ring c =
    let h : 5 < 1 = ((c.views 0 (hand all_parts (plan Multi) 0 (newcomer []) [] (Some (look 5 0 None))) refl).observed (look 5 0 None) refl).0.known in
    absurd (omega arith)

-- a look at a head/tail-sync word that shows a reservation
pub observed_reserved : ¬ IsConsistent tags (plan Hts) 0 (state (words 0 0 0 0) empty (looking Hts (look 0 1 None)))
observed_reserved c =
    let h = ((c.views 0 (hand all_parts (plan Hts) 0 (newcomer []) [] (Some (look 0 1 None))) refl).observed (look 0 1 None) refl).0.whole
    (ring 4 3 Hts Hts false) refl refl in
    let e : 1 ≡ h.0 * 1048576 = h.1 in absurd (omega (arith, e))

-- a tail that never was so far
pub observed_tail : ¬ IsConsistent tags (plan Multi) 0 (state (words 0 0 0 0) empty (looking Multi (look 0 0 (Some 1))))
unfolding side_of party_items party_count party_end
observed_tail c =
    let seen = (c.views 0 (hand all_parts (plan Multi) 0 (newcomer []) [] (Some (look 0 0 (Some 1)))) refl).observed (look 0 0 (Some 1)) refl in
    let h : 1 ≤ 0 = seen.0.tail_seen 1 refl in
    absurd (omega arith)

-- a word that never was so far
pub observed_word : ¬ IsConsistent tags (plan Multi) 0 (state (words 0 0 0 0) empty (looking Multi (look 0 1 None)))
unfolding side_of party_items party_count party_end
observed_word c =
    let h : 1 ≤ 0 = ((c.views 0 (hand all_parts (plan Multi) 0 (newcomer []) [] (Some (look 0 1 None))) refl).observed (look 0 1 None) refl).1
    (ring 4 3 Multi Multi false) refl in
    absurd (omega arith)

-- an open take that shows a different item from the one published
abbrev taking : View Item
taking = hand all_parts (plan Multi) 0 (busy [] (done Put 0 (Word 1 ∷ []) ∷ []) (span 0 Take 0 1)) (Word 2 ∷ []) None

pub shown : ¬ IsConsistent tags (plan Multi) 0 (state (words 1 1 1 0) (out ∷ bare ∷ bare ∷ bare ∷ []) (taking ∷ []))
unfolding side_of party_items party_count party_end listed
shown c = let h : Word 2 ∷ [] ≡ Word 1 ∷ [] = (c.views 0 taking refl).shown (span 0 Take 0 1) refl refl in absurd cc

-- an empty settle ahead of its side
abbrev ahead : View Item
ahead = hand all_parts (plan Hts) 0 (quiet [] (done Put 2 [] ∷ [])) [] None

pub ends : ¬ IsConsistent tags (plan Hts) 0 (state (words 0 0 0 0) empty (ahead ∷ []))
unfolding side_of party_items party_count party_end
ends c = let h : 2 ≤ 0 = (c.views 0 ahead refl).ends 0 (done Put 2 []) refl in absurd (omega arith)

-- a hand that knows of no ring
abbrev astray : View Item
astray = hand all_parts [] 0 (newcomer []) [] None

pub told_plans : ¬ IsConsistent tags (plan Multi) 0 (state (words 0 0 0 0) empty (astray ∷ []))
told_plans c = let h : [] ≡ plan Multi = (c.told 0 astray refl (omega arith)).0 in absurd cc

-- a hand that counts more buffers than there are
abbrev boasting : View Item
boasting = hand all_parts (plan Multi) 7 (newcomer []) [] None

pub told_pool : ¬ IsConsistent tags (plan Multi) 0 (state (words 0 0 0 0) empty (boasting ∷ []))
told_pool c = let h : Same 7 0 = (c.told 0 boasting refl (omega arith)).1 in absurd (omega arith)

-- a hand without parts that has a buffer
abbrev ghostly : View Item
ghostly = hand 0 [] 0 (newcomer (0 ∷ [])) [] None

pub spent_party : ¬ IsConsistent tags (plan Multi) 1
    (state (words 0 0 0 0) empty (hand all_parts (plan Multi) 1 (newcomer []) [] None ∷ ghostly ∷ []))
spent_party c = let h : Same 1 0 = ap (λ (p : Party Item). length p.given) (c.spent 1 ghostly refl refl).party in absurd (omega arith)

-- a hand without parts that remembers a look
abbrev mindful : View Item
mindful = hand 0 [] 0 (newcomer []) [] (Some (look 0 0 None))

pub spent_look : ¬ IsConsistent tags (plan Multi) 0
    (state (words 0 0 0 0) empty (hand all_parts (plan Multi) 0 (newcomer []) [] None ∷ mindful ∷ []))
spent_look c = let h : Some (look 0 0 None) ≡ None = (c.spent 1 mindful refl refl).observed in absurd cc

-- a hand that went missing with its parts
pub parts : ¬ IsConsistent tags (plan Multi) 0 (state (words 0 0 0 0) empty (hand 1 (plan Multi) 0 (newcomer []) [] None ∷ []))
parts c = let h : Same 1 9223372036854775808 = c.parts in absurd (omega arith)
