-- States whose open spans aren't as the words show, and states that break the rule of free rings: for each field one
-- that is made to break it and no other. Each theorem is named for its field
use Rattle.std.proofs.Common.{ℕ, ◌≡◌, ◌≤◌, ◌<◌, [], ◌∷◌, refl, true, false, arith}
use Rattle.geom.specs.declared.plan.Mode.TheVariants.{Multi, Hts}
use Rattle.geom.specs.declared.plan.Side.TheVariants.{Put, Take}
use Rattle.ringcore_laws.specs.declared.contents.Item.TheVariants.{Word}
use Rattle.ringcore_laws.specs.RingSide.{side_of, listed, party_items, party_count, party_end}
use Rattle.ringcore_laws.specs.Sound.{holds, moved}
use Rattle.ringcore_laws.specs.HeadTailRule.{HeadTailRule}
use Rattle.ringcore_laws.specs.FreeRings.{FreeRule, buffers_had}
use Rattle.ringcore_laws.specs.History.{tags}
use Rattle.ringcore_laws.proofs.Rows.{ring}
use Rattle.ringcore_laws.proofs.WornRows.{span}
use Rattle.ringcore_laws.proofs.Unsound.{quiet, busy, done}

abbrev Same : ℕ → ℕ → Type 0
Same a b = a ≡ b

-- two settled puts at one position: two items, and none after position 0
pub behind : ¬ HeadTailRule (ring 4 3 Multi Multi false ∷ []) (quiet [] (done Put 0 (Word 1 ∷ []) ∷ done Put 0 (Word 2 ∷ []) ∷ []) ∷ [])
unfolding side_of party_items party_count party_end listed
behind s =
    let h : 2 ≤ 1 = (s.sides 0 Put (ring 4 3 Multi Multi false) refl).behind in absurd (omega arith)

-- an open take up to position 2^44
pub last : ¬ HeadTailRule (ring 4 3 Multi Multi false ∷ []) (busy [] [] (span 0 Take 0 17592186044416) ∷ [])
unfolding side_of party_items party_count party_end listed
last s =
    let h : 17592186044416 ≤ 17592186044415 = (s.sides 0 Take (ring 4 3 Multi Multi false) refl).last in absurd (omega arith)

-- an open take of an HTS side with 2^20 positions, which the word has no room for
pub small : ¬ HeadTailRule (ring 4 3 Hts Hts false ∷ []) (busy [] [] (span 0 Take 0 1048576) ∷ [])
unfolding side_of party_items party_count party_end listed
small s =
    let h : 1048576 < 1048576 = (s.sides 0 Take (ring 4 3 Hts Hts false) refl).small refl in absurd (omega arith)

-- an open put after a gap
pub covered : ¬ HeadTailRule (ring 4 3 Multi Multi false ∷ []) (busy [] [] (span 0 Put 1 1) ∷ [])
unfolding side_of party_items party_count party_end listed
covered s =
    let h : 0 < 0 = (s.sides 0 Put (ring 4 3 Multi Multi false) refl).covered refl 0 (omega arith) (omega arith) in absurd (omega arith)

-- an open put of more positions than the capacity
pub room : ¬ HeadTailRule (ring 4 3 Multi Multi false ∷ []) (busy [] [] (span 0 Put 0 4) ∷ [])
unfolding side_of party_items party_count party_end listed
room s =
    let h : 4 ≤ 3 = s.room 0 (ring 4 3 Multi Multi false) refl in absurd (omega arith)

-- an open span of no position
pub positive : ¬ HeadTailRule (ring 4 3 Multi Multi false ∷ []) (busy [] [] (span 0 Put 0 0) ∷ [])
unfolding side_of party_items party_count party_end listed
positive s =
    let h : 0 < 0 = (s.spans 0 (quiet [] []) (span 0 Put 0 0) (omega arith) refl).positive in absurd (omega arith)

-- an open span of a ring that the plan lacks
pub known : ¬ HeadTailRule (ring 4 3 Multi Multi false ∷ []) (busy [] [] (span 5 Put 0 1) ∷ [])
unfolding side_of party_items party_count party_end listed
known s =
    let h : 5 < 1 = (s.spans 0 (quiet [] []) (span 5 Put 0 1) (omega arith) refl).known in absurd (omega arith)

-- an open span of an HTS side that starts after the settled items
pub alone_at_the_end : ¬ HeadTailRule (ring 4 3 Hts Hts false ∷ []) (busy [] [] (span 0 Put 1 1) ∷ [])
unfolding side_of party_items party_count party_end listed
alone_at_the_end s =
    let h : Same 1 0 = ((s.spans 0 (quiet [] []) (span 0 Put 1 1) (omega arith) refl).alone (ring 4 3 Hts Hts false) refl refl).0 in
    absurd (omega arith)

-- two open spans of an HTS side
pub alone : ¬ HeadTailRule (ring 4 3 Hts Hts false ∷ []) (busy [] [] (span 0 Put 0 1) ∷ busy [] [] (span 0 Put 0 1) ∷ [])
unfolding side_of party_items party_count party_end listed
alone s =
    let h : Same 1 2 = ((s.spans 0 (quiet [] []) (span 0 Put 0 1) (omega arith) refl).alone (ring 4 3 Hts Hts false) refl refl).1 in
    absurd (omega arith)

-- an item without a buffer on a free ring
pub singles : ¬ FreeRule tags (ring 4 3 Multi Multi true ∷ []) 0 (quiet [] (done Put 0 (Word 1 ∷ []) ∷ []) ∷ [])
unfolding side_of party_items party_count party_end listed holds moved buffers_had
singles s =
    let h : false ≡ true = s.singles 0 (ring 4 3 Multi Multi true) refl refl in absurd cc

-- an open put into a free ring of more positions than the party has buffers
pub few : ¬ FreeRule tags (ring 4 3 Multi Multi true ∷ []) 1 (busy (0 ∷ []) [] (span 0 Put 0 2) ∷ [])
unfolding side_of party_items party_count party_end listed holds moved buffers_had
few s =
    let h : 2 ≤ 1 = s.few 0 (quiet [] []) (omega arith) (span 0 Put 0 2) (ring 4 3 Multi Multi true) refl refl refl refl in
    absurd (omega arith)
