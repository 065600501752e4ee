-- Which replies end a look, and which leave it, computed by the definitions. What is expected is the protocol's table:
-- a look is the last Look that was not answered NoSpan, if it was answered Seen and there was no Reserve since, except
-- one answered NoSpan
use Rattle.std.proofs.Common.{[], ◌∷◌, refl, false}
use Rattle.geom.specs.declared.plan.Mode.TheVariants.{Multi, Hts}
use Rattle.geom.specs.declared.plan.Side.TheVariants.{Put, Take}
use Rattle.geom.specs.declared.plan.How.TheVariants.{Bulk, Burst}
use Rattle.ringcore_laws.specs.declared.contents.Item.TheVariants.{Word}
use Rattle.ringcore_laws.specs.declared.protocol.Step.TheVariants.{Look, Room, Reserve, SettlePut}
use Rattle.ringcore_laws.specs.declared.protocol.Reply.TheVariants.{Seen, Granted, Done, Busy, Contended, NoRoom, NoSpan, BadCount}
use Rattle.ringcore_laws.specs.RingSide.{side_of, listed, party_items, party_count, party_end}
use Rattle.ringcore_laws.specs.Sound.{holds, moved}
use Rattle.ringcore_laws.specs.History.{IsRun, after, reply_to, opening}
use Rattle.ringcore_laws.specs.FreeRings.{buffers_had}
use Rattle.ringcore_laws.proofs.Rows.{event, ring}

-- a Busy look leaves no look, even if there was one before
pub busy_ends : IsRun (ring 4 3 Hts Hts false ∷ []) 0 (opening 2 []) (
    event 0 (Look 0 Put) (Seen 0)
    ∷ event 0 (Room 0 Put) (Seen 0)
    ∷ event 1 (Look 0 Put) (Seen 0)
    ∷ event 1 (Room 0 Put) (Seen 0)
    ∷ event 1 (Reserve 0 Put Bulk 3) (Granted 0 3 0)
    ∷ event 0 (Look 0 Put) (Busy 3)
    ∷ event 0 (Room 0 Put) NoSpan
    ∷ event 1 (SettlePut 0 []) (Done 0 [])
    ∷ event 0 (Reserve 0 Put Bulk 1) NoSpan
    ∷ [])
unfolding reply_to after side_of party_items party_count party_end listed holds moved buffers_had
busy_ends = (refl, (refl, (refl, (refl, (refl, (refl, (refl, (refl, (refl, tt)))))))))

-- a Reserve that is answered NoRoom ends the look
pub no_room_ends : IsRun (ring 4 3 Multi Multi false ∷ []) 0 (opening 1 []) (
    event 0 (Look 0 Put) (Seen 0)
    ∷ event 0 (Room 0 Put) (Seen 0)
    ∷ event 0 (Reserve 0 Put Bulk 4) (NoRoom 3)
    ∷ event 0 (Reserve 0 Put Bulk 1) NoSpan
    ∷ event 0 (Room 0 Put) NoSpan
    ∷ [])
unfolding reply_to after side_of party_items party_count party_end listed holds moved buffers_had
no_room_ends = (refl, (refl, (refl, (refl, (refl, tt)))))

-- so does one that is answered Contended
pub contended_ends : IsRun (ring 4 3 Multi Multi false ∷ []) 0 (opening 2 []) (
    event 0 (Look 0 Put) (Seen 0)
    ∷ event 0 (Room 0 Put) (Seen 0)
    ∷ event 1 (Look 0 Put) (Seen 0)
    ∷ event 1 (Room 0 Put) (Seen 0)
    ∷ event 1 (Reserve 0 Put Bulk 1) (Granted 0 1 2)
    ∷ event 0 (Reserve 0 Put Bulk 1) (Contended 1)
    ∷ event 0 (Reserve 0 Put Bulk 1) NoSpan
    ∷ event 0 (Room 0 Put) NoSpan
    ∷ [])
unfolding reply_to after side_of party_items party_count party_end listed holds moved buffers_had
contended_ends = (refl, (refl, (refl, (refl, (refl, (refl, (refl, (refl, tt))))))))

-- so does one that is answered BadCount: a count of 0, which is tested before the room
pub bad_count_ends : IsRun (ring 4 3 Multi Multi false ∷ []) 0 (opening 1 []) (
    event 0 (Look 0 Take) (Seen 0)
    ∷ event 0 (Room 0 Take) (Seen 0)
    ∷ event 0 (Reserve 0 Take Burst 0) BadCount
    ∷ event 0 (Reserve 0 Take Burst 1) NoSpan
    ∷ [])
unfolding reply_to after side_of party_items party_count party_end listed holds moved buffers_had
bad_count_ends = (refl, (refl, (refl, (refl, tt))))

-- a Reserve or a Room that is answered NoSpan leaves the look: of another side, of another ring, and before the tail was seen
pub no_span_leaves : IsRun (ring 4 3 Multi Multi false ∷ ring 4 3 Multi Multi false ∷ []) 0 (opening 1 []) (
    event 0 (Look 1 Put) (Seen 0)
    ∷ event 0 (Reserve 1 Put Bulk 1) NoSpan
    ∷ event 0 (Room 1 Take) NoSpan
    ∷ event 0 (Room 0 Put) NoSpan
    ∷ event 0 (Room 1 Put) (Seen 0)
    ∷ event 0 (Reserve 1 Take Bulk 1) NoSpan
    ∷ event 0 (Reserve 0 Put Bulk 1) NoSpan
    ∷ event 0 (Reserve 1 Put Bulk 1) (Granted 0 1 2)
    ∷ event 0 (Look 0 Put) NoSpan
    ∷ event 0 (SettlePut 0 (Word 1 ∷ [])) NoSpan
    ∷ event 0 (SettlePut 1 (Word 1 ∷ [])) (Done 1 [])
    ∷ [])
unfolding reply_to after side_of party_items party_count party_end listed holds moved buffers_had
no_span_leaves = (refl, (refl, (refl, (refl, (refl, (refl, (refl, (refl, (refl, (refl, (refl, tt)))))))))))

-- another look has seen no tail, and one of another side is the only one
pub look_again : IsRun (ring 4 3 Multi Multi false ∷ []) 0 (opening 1 []) (
    event 0 (Look 0 Put) (Seen 0)
    ∷ event 0 (Room 0 Put) (Seen 0)
    ∷ event 0 (Look 0 Put) (Seen 0)
    ∷ event 0 (Reserve 0 Put Bulk 1) NoSpan
    ∷ event 0 (Look 0 Take) (Seen 0)
    ∷ event 0 (Room 0 Put) NoSpan
    ∷ event 0 (Room 0 Take) (Seen 0)
    ∷ event 0 (Reserve 0 Take Bulk 1) (NoRoom 0)
    ∷ [])
unfolding reply_to after side_of party_items party_count party_end listed holds moved buffers_had
look_again = (refl, (refl, (refl, (refl, (refl, (refl, (refl, (refl, tt))))))))
