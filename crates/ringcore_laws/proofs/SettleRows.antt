-- The tests of a Settle in their order, and which buffers may be put, computed by the definitions. What is expected is the protocol's
-- table: BadCount, then NotYours, then NotYet
use Rattle.std.proofs.Common.{[], ◌∷◌, refl, true, false}
use Rattle.geom.specs.declared.plan.Mode.TheVariants.{Multi}
use Rattle.geom.specs.declared.plan.Side.TheVariants.{Put, Take}
use Rattle.geom.specs.declared.plan.How.TheVariants.{Bulk}
use Rattle.ringcore_laws.specs.declared.contents.Item.TheVariants.{Word, Buffers}
use Rattle.ringcore_laws.specs.declared.protocol.Step.TheVariants.{Look, Room, Reserve, SettlePut, SettleTake, Stash, Unstash}
use Rattle.ringcore_laws.specs.declared.protocol.Reply.TheVariants.{Seen, Granted, Done, NotYet, BadCount, NotYours}
use Rattle.ringcore_laws.specs.RingSide.{side_of, listed, party_items, party_count, party_end}
use Rattle.ringcore_laws.specs.Sound.{holds, moved}
use Rattle.ringcore_laws.specs.History.{IsRun, after, reply_to, opening}
use Rattle.ringcore_laws.specs.FreeRings.{buffers_had}
use Rattle.ringcore_laws.proofs.Rows.{event, ring}

-- a put after an open span: two items for one position, a buffer of another actor, one number twice, and at last its
-- own
pub tests_in_order : IsRun (ring 4 3 Multi Multi false ∷ []) 2 (opening 2 (0 ∷ 1 ∷ [])) (
    event 0 (Look 0 Put) (Seen 0)
    ∷ event 0 (Room 0 Put) (Seen 0)
    ∷ event 0 (Reserve 0 Put Bulk 1) (Granted 0 1 2)
    ∷ event 1 (Look 0 Put) (Seen 1)
    ∷ event 1 (Room 0 Put) (Seen 0)
    ∷ event 1 (Reserve 0 Put Bulk 1) (Granted 1 1 1)
    ∷ event 1 (SettlePut 0 (Buffers (0 ∷ []) ∷ Word 1 ∷ [])) BadCount
    ∷ event 1 (SettlePut 0 (Buffers (0 ∷ []) ∷ [])) NotYours
    ∷ event 1 (SettlePut 0 (Buffers (1 ∷ 1 ∷ []) ∷ [])) NotYours
    ∷ event 1 (SettlePut 0 (Buffers (2 ∷ []) ∷ [])) NotYours
    ∷ event 1 (SettlePut 0 (Buffers (1 ∷ []) ∷ [])) (NotYet 0)
    ∷ event 0 (SettlePut 0 (Buffers (0 ∷ []) ∷ [])) (Done 1 [])
    ∷ event 1 (SettlePut 0 (Buffers (1 ∷ []) ∷ [])) (Done 1 [])
    ∷ [])
unfolding reply_to after side_of party_items party_count party_end listed holds moved buffers_had
tests_in_order = (refl, (refl, (refl, (refl, (refl, (refl, (refl, (refl, (refl, (refl, (refl, (refl, (refl, tt)))))))))))))

-- a cached buffer may not be put on any ring, free or not
pub cached_stays : IsRun (ring 4 3 Multi Multi false ∷ []) 1 (opening 1 (0 ∷ [])) (
    event 0 (Stash 0) (Seen 0)
    ∷ event 0 (Look 0 Put) (Seen 0)
    ∷ event 0 (Room 0 Put) (Seen 0)
    ∷ event 0 (Reserve 0 Put Bulk 1) (Granted 0 1 2)
    ∷ event 0 (SettlePut 0 (Buffers (0 ∷ []) ∷ [])) NotYours
    ∷ event 0 (Unstash 0) (Seen 0)
    ∷ event 0 (Unstash 0) NotYours
    ∷ event 0 (SettlePut 0 (Buffers (0 ∷ []) ∷ [])) (Done 1 [])
    ∷ event 0 (Stash 0) NotYours
    ∷ [])
unfolding reply_to after side_of party_items party_count party_end listed holds moved buffers_had
cached_stays = (refl, (refl, (refl, (refl, (refl, (refl, (refl, (refl, (refl, tt)))))))))

-- an item on a free ring carries one buffer; on any other ring it may carry more, or none
pub one_each : IsRun (ring 4 3 Multi Multi true ∷ ring 4 3 Multi Multi false ∷ []) 2 (opening 1 (0 ∷ 0 ∷ [])) (
    event 0 (Look 0 Put) (Seen 0)
    ∷ event 0 (Room 0 Put) (Seen 0)
    ∷ event 0 (Reserve 0 Put Bulk 1) (Granted 0 1 2)
    ∷ event 0 (SettlePut 0 (Word 5 ∷ [])) NotYours
    ∷ event 0 (SettlePut 0 (Buffers (0 ∷ 1 ∷ []) ∷ [])) NotYours
    ∷ event 0 (SettlePut 0 (Buffers (1 ∷ []) ∷ [])) (Done 1 [])
    ∷ event 0 (Look 0 Take) (Seen 0)
    ∷ event 0 (Room 0 Take) (Seen 1)
    ∷ event 0 (Reserve 0 Take Bulk 1) (Granted 0 1 0)
    ∷ event 0 (SettleTake 0 1) (Done 1 (Buffers (1 ∷ []) ∷ []))
    ∷ event 0 (Look 1 Put) (Seen 0)
    ∷ event 0 (Room 1 Put) (Seen 0)
    ∷ event 0 (Reserve 1 Put Bulk 2) (Granted 0 2 1)
    ∷ event 0 (SettlePut 1 (Buffers (0 ∷ 1 ∷ []) ∷ Word 5 ∷ [])) (Done 2 [])
    ∷ [])
unfolding reply_to after side_of party_items party_count party_end listed holds moved buffers_had
one_each = (refl, (refl, (refl, (refl, (refl, (refl, (refl, (refl, (refl, (refl, (refl, (refl, (refl, (refl, tt))))))))))))))

-- a mark belongs to one buffer: ending one leaves the others
pub marks_apart : IsRun (ring 4 3 Multi Multi false ∷ []) 2 (opening 1 (0 ∷ 0 ∷ [])) (
    event 0 (Stash 0) (Seen 0)
    ∷ event 0 (Stash 1) (Seen 1)
    ∷ event 0 (Unstash 0) (Seen 0)
    ∷ event 0 (Unstash 0) NotYours
    ∷ event 0 (Unstash 1) (Seen 1)
    ∷ [])
unfolding reply_to after side_of party_items party_count party_end listed holds moved buffers_had
marks_apart = (refl, (refl, (refl, (refl, (refl, tt)))))
