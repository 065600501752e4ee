-- Worked examples, computed by the definitions
use Rattle.std.proofs.Common.{◌-◌, ◌^◌, ℕ, [], ◌∷◌, refl, true, false, Bool}
use Rattle.geom.specs.declared.plan.Mode.{Mode}
use Rattle.geom.specs.declared.plan.Mode.TheVariants.{Multi, Hts}
use Rattle.geom.specs.declared.plan.Side.TheVariants.{Put, Take}
use Rattle.geom.specs.declared.plan.How.TheVariants.{Bulk, Burst}
use Rattle.geom.specs.declared.plan.RingPlan.{RingPlan}
use Rattle.ringcore_laws.specs.declared.contents.Item.TheVariants.{Word, Buffers}
use Rattle.ringcore_laws.specs.declared.protocol.Step.{Step}
use Rattle.ringcore_laws.specs.declared.protocol.Step.TheVariants.{Look, Room, Reserve, SettlePut, SettleTake, Stash, Unstash}
use Rattle.ringcore_laws.specs.declared.protocol.Reply.{Reply}
use Rattle.ringcore_laws.specs.declared.protocol.Reply.TheVariants.{Seen, Granted, Done, Busy, Contended, NoRoom, NotYet, NoSpan, BadCount, NotYours}
use Rattle.ringcore_laws.specs.RingSide.{side_of, listed, party_items, party_count, party_end}
use Rattle.ringcore_laws.specs.Sound.{holds, moved}
use Rattle.ringcore_laws.specs.History.{Event, IsRun, after, reply_to, opening}
use Rattle.ringcore_laws.specs.FreeRings.{buffers_had}

abbrev pub event : ℕ → Step → Reply → Event
event i step reply = record { actor = i; step = step; reply = reply }

abbrev pub ring : ℕ → ℕ → Mode → Mode → Bool → RingPlan
ring size capacity put take free = record { geometry = record { size = size; capacity = capacity; last = 2 ^ 44 - 1; count_bits = 20 }; put = put; take = take; free = free }

-- two actors look, one reserves, the other is contended and tries again
pub contended : IsRun (ring 4 3 Multi Multi false ∷ []) 0 (opening 2 ([])) (
    event 0 (Look 0 Put) (Seen 0)
    ∷ event 0 (Room 0 Put) (Seen 0)
    ∷ event 1 (Look 0 Put) (Seen 0)
    ∷ event 1 (Room 0 Put) (Seen 0)
    ∷ event 1 (Reserve 0 Put Bulk 2) (Granted 0 2 1)
    ∷ event 0 (Reserve 0 Put Bulk 1) (Contended 2)
    ∷ event 0 (Look 0 Put) (Seen 2)
    ∷ event 0 (Room 0 Put) (Seen 0)
    ∷ event 0 (Reserve 0 Put Bulk 1) (Granted 2 1 0)
    ∷ [])
unfolding reply_to after side_of party_items party_count party_end listed holds moved buffers_had
contended = (refl, (refl, (refl, (refl, (refl, (refl, (refl, (refl, (refl, tt)))))))))

-- a later span waits for the earlier one; a take gives what was put in order
pub earlier_first : IsRun (ring 4 3 Multi Multi false ∷ []) 0 (opening 2 ([])) (
    event 0 (Look 0 Put) (Seen 0)
    ∷ event 0 (Room 0 Put) (Seen 0)
    ∷ event 0 (Reserve 0 Put Bulk 2) (Granted 0 2 1)
    ∷ event 1 (Look 0 Put) (Seen 2)
    ∷ event 1 (Room 0 Put) (Seen 0)
    ∷ event 1 (Reserve 0 Put Bulk 1) (Granted 2 1 0)
    ∷ event 1 (SettlePut 0 (Word 3 ∷ [])) (NotYet 0)
    ∷ event 0 (SettlePut 0 (Word 1 ∷ Word 2 ∷ [])) (Done 2 [])
    ∷ event 1 (SettlePut 0 (Word 3 ∷ [])) (Done 1 [])
    ∷ event 0 (Look 0 Take) (Seen 0)
    ∷ event 0 (Room 0 Take) (Seen 3)
    ∷ event 0 (Reserve 0 Take Burst 8) (Granted 0 3 0)
    ∷ event 0 (SettleTake 0 3) (Done 3 (Word 1 ∷ Word 2 ∷ Word 3 ∷ []))
    ∷ [])
unfolding reply_to after side_of party_items party_count party_end listed holds moved buffers_had
earlier_first = (refl, (refl, (refl, (refl, (refl, (refl, (refl, (refl, (refl, (refl, (refl, (refl, (refl, tt)))))))))))))

-- an actor that stops inside its span
pub stopped : IsRun (ring 4 3 Multi Multi false ∷ []) 3 (opening 3 (0 ∷ 0 ∷ 1 ∷ [])) (
    event 0 (Look 0 Put) (Seen 0)
    ∷ event 0 (Room 0 Put) (Seen 0)
    ∷ event 0 (Reserve 0 Put Bulk 2) (Granted 0 2 1)
    ∷ event 1 (Look 0 Put) (Seen 2)
    ∷ event 1 (Room 0 Put) (Seen 0)
    ∷ event 1 (Reserve 0 Put Bulk 1) (Granted 2 1 0)
    ∷ event 1 (SettlePut 0 (Buffers (2 ∷ []) ∷ [])) (NotYet 0)
    ∷ event 1 (SettlePut 0 (Buffers (2 ∷ []) ∷ [])) (NotYet 0)
    ∷ event 2 (Look 0 Take) (Seen 0)
    ∷ event 2 (Room 0 Take) (Seen 0)
    ∷ event 2 (Reserve 0 Take Burst 1) (NoRoom 0)
    ∷ [])
unfolding reply_to after side_of party_items party_count party_end listed holds moved buffers_had
stopped = (refl, (refl, (refl, (refl, (refl, (refl, (refl, (refl, (refl, (refl, (refl, tt)))))))))))

-- an HTS span is given up, and the word comes back to an old value
pub given_up : IsRun (ring 4 3 Hts Hts false ∷ []) 0 (opening 2 ([])) (
    event 0 (Look 0 Put) (Seen 0)
    ∷ event 0 (Room 0 Put) (Seen 0)
    ∷ event 1 (Look 0 Put) (Seen 0)
    ∷ event 1 (Room 0 Put) (Seen 0)
    ∷ event 1 (Reserve 0 Put Bulk 3) (Granted 0 3 0)
    ∷ event 1 (SettlePut 0 []) (Done 0 [])
    ∷ event 0 (Reserve 0 Put Bulk 2) (Granted 0 2 1)
    ∷ event 1 (Look 0 Put) (Busy 2)
    ∷ [])
unfolding reply_to after side_of party_items party_count party_end listed holds moved buffers_had
given_up = (refl, (refl, (refl, (refl, (refl, (refl, (refl, (refl, tt))))))))

-- a put of a buffer of another actor
pub not_yours : IsRun (ring 4 3 Multi Multi false ∷ []) 1 (opening 2 (0 ∷ [])) (
    event 1 (Look 0 Put) (Seen 0)
    ∷ event 1 (Room 0 Put) (Seen 0)
    ∷ event 1 (Reserve 0 Put Bulk 1) (Granted 0 1 2)
    ∷ event 1 (SettlePut 0 (Buffers (0 ∷ []) ∷ [])) (NotYours)
    ∷ [])
unfolding reply_to after side_of party_items party_count party_end listed holds moved buffers_had
not_yours = (refl, (refl, (refl, (refl, tt))))

-- a free ring, and a cached buffer
pub free_ring : IsRun (ring 2 1 Multi Multi true ∷ []) 1 (opening 2 (0 ∷ [])) (
    event 0 (Stash 0) (Seen 0)
    ∷ event 0 (Stash 0) (NotYours)
    ∷ event 0 (Look 0 Put) (Seen 0)
    ∷ event 0 (Room 0 Put) (Seen 0)
    ∷ event 0 (Reserve 0 Put Bulk 2) (BadCount)
    ∷ event 0 (Reserve 0 Put Bulk 1) (NoSpan)
    ∷ event 0 (Look 0 Put) (Seen 0)
    ∷ event 0 (Room 0 Put) (Seen 0)
    ∷ event 0 (Reserve 0 Put Bulk 1) (Granted 0 1 0)
    ∷ event 0 (SettlePut 0 (Buffers (0 ∷ []) ∷ [])) (NotYours)
    ∷ event 0 (Unstash 0) (Seen 0)
    ∷ event 0 (SettlePut 0 (Buffers (0 ∷ []) ∷ [])) (Done 1 [])
    ∷ event 1 (Look 0 Put) (Seen 1)
    ∷ event 1 (Room 0 Put) (Seen 0)
    ∷ event 1 (Reserve 0 Put Bulk 1) (BadCount)
    ∷ [])
unfolding reply_to after side_of party_items party_count party_end listed holds moved buffers_had
free_ring = (refl, (refl, (refl, (refl, (refl, (refl, (refl, (refl, (refl, (refl, (refl, (refl, (refl, (refl, (refl, tt)))))))))))))))

-- an HTS span is settled in part
pub in_part : IsRun (ring 4 3 Hts Hts false ∷ []) 0 (opening 1 ([])) (
    event 0 (Look 0 Put) (Seen 0)
    ∷ event 0 (Room 0 Put) (Seen 0)
    ∷ event 0 (Reserve 0 Put Burst 9) (Granted 0 3 0)
    ∷ event 0 (SettlePut 0 (Word 7 ∷ Word 8 ∷ [])) (Done 2 [])
    ∷ event 0 (Look 0 Take) (Seen 0)
    ∷ event 0 (Room 0 Take) (Seen 2)
    ∷ event 0 (Reserve 0 Take Bulk 2) (Granted 0 2 0)
    ∷ event 0 (SettleTake 0 3) (BadCount)
    ∷ event 0 (SettleTake 0 1) (Done 1 (Word 7 ∷ []))
    ∷ event 0 (Look 0 Take) (Seen 1048576)
    ∷ event 0 (Room 0 Take) (Seen 2)
    ∷ event 0 (Reserve 0 Take Bulk 2) (NoRoom 1)
    ∷ event 0 (SettleTake 0 0) (NoSpan)
    ∷ [])
unfolding reply_to after side_of party_items party_count party_end listed holds moved buffers_had
in_part = (refl, (refl, (refl, (refl, (refl, (refl, (refl, (refl, (refl, (refl, (refl, (refl, (refl, tt)))))))))))))

-- a multi put side and an HTS take side
pub mixed : IsRun (ring 4 3 Multi Hts false ∷ []) 0 (opening 2 ([])) (
    event 0 (Look 0 Put) (Seen 0)
    ∷ event 0 (Room 0 Put) (Seen 0)
    ∷ event 0 (Reserve 0 Put Bulk 2) (Granted 0 2 1)
    ∷ event 0 (SettlePut 0 (Word 1 ∷ Word 2 ∷ [])) (Done 2 [])
    ∷ event 1 (Look 0 Take) (Seen 0)
    ∷ event 1 (Room 0 Take) (Seen 2)
    ∷ event 1 (Reserve 0 Take Bulk 2) (Granted 0 2 0)
    ∷ event 0 (Look 0 Take) (Busy 2)
    ∷ event 1 (SettleTake 0 1) (Done 1 (Word 1 ∷ []))
    ∷ event 0 (Look 0 Put) (Seen 2)
    ∷ event 0 (Room 0 Put) (Seen 1)
    ∷ event 0 (Reserve 0 Put Burst 9) (Granted 2 2 0)
    ∷ event 0 (SettlePut 0 (Word 3 ∷ [])) (BadCount)
    ∷ [])
unfolding reply_to after side_of party_items party_count party_end listed holds moved buffers_had
mixed = (refl, (refl, (refl, (refl, (refl, (refl, (refl, (refl, (refl, (refl, (refl, (refl, (refl, tt)))))))))))))
