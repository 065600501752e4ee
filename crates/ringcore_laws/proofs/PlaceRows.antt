-- Where buffers are, computed by the definitions: the ring and the position of a queued one, and the actor of a held or cached one
use Rattle.std.proofs.Common.{◌≡◌, List, [], ◌∷◌, ◌++◌, refl, false}
use Rattle.geom.specs.declared.plan.Mode.TheVariants.{Multi}
use Rattle.geom.specs.declared.plan.Side.TheVariants.{Put, Take}
use Rattle.geom.specs.declared.plan.How.TheVariants.{Bulk}
use Rattle.ringcore_laws.specs.declared.contents.Item.TheVariants.{Word, Buffers}
use Rattle.ringcore_laws.specs.declared.protocol.Place.TheVariants.{AtRing, Held, Cached, Nowhere}
use Rattle.ringcore_laws.specs.declared.protocol.Step.TheVariants.{Look, Room, Reserve, SettlePut, SettleTake, Stash}
use Rattle.ringcore_laws.specs.declared.protocol.Reply.TheVariants.{Seen, Granted, Done}
use Rattle.ringcore_laws.specs.RingSide.{side_of, listed, party_items, party_count, party_end}
use Rattle.ringcore_laws.specs.Sound.{holds, moved}
use Rattle.ringcore_laws.specs.History.{Actor, Event, IsRun, after, after_all, reply_to, opening}
use Rattle.ringcore_laws.specs.FreeRings.{buffers_had}
use Rattle.ringcore_laws.specs.Place.{place, queued_at}
use Rattle.ringcore_laws.proofs.Rows.{event, ring}

-- Actor 0 puts two items on ring 1, the second with buffer 0, and takes the first; actor 1 caches its buffer 1
abbrev put_two : List Event
put_two =
    event 0 (Look 1 Put) (Seen 0)
    ∷ event 0 (Room 1 Put) (Seen 0)
    ∷ event 0 (Reserve 1 Put Bulk 2) (Granted 0 2 1)
    ∷ event 0 (SettlePut 1 (Word 7 ∷ Buffers (0 ∷ []) ∷ [])) (Done 2 [])
    ∷ event 1 (Stash 1) (Seen 1)
    ∷ []

abbrev take_one : List Event
take_one =
    event 0 (Look 1 Take) (Seen 0)
    ∷ event 0 (Room 1 Take) (Seen 2)
    ∷ event 0 (Reserve 1 Take Bulk 1) (Granted 0 1 1)
    ∷ event 0 (SettleTake 1 1) (Done 1 (Word 7 ∷ []))
    ∷ []

-- then it reserves the second, and takes it
abbrev reserve_next : List Event
reserve_next =
    event 0 (Look 1 Take) (Seen 1)
    ∷ event 0 (Room 1 Take) (Seen 2)
    ∷ event 0 (Reserve 1 Take Bulk 1) (Granted 1 1 0)
    ∷ []

abbrev start : List Actor
start = opening 2 (0 ∷ 1 ∷ 1 ∷ [])

pub replies : IsRun (ring 4 3 Multi Multi false ∷ ring 4 3 Multi Multi false ∷ []) 3 start
    (put_two ++ take_one ++ reserve_next ++ event 0 (SettleTake 1 1) (Done 1 (Buffers (0 ∷ []) ∷ [])) ∷ [])
unfolding reply_to after side_of party_items party_count party_end listed holds moved buffers_had
replies = (refl, (refl, (refl, (refl, (refl, (refl, (refl, (refl, (refl, (refl, (refl, (refl, (refl, tt)))))))))))))

pub at_first : place 2 start 0 ≡ Held 0
unfolding after side_of party_items party_count party_end listed holds moved queued_at
at_first = refl

-- on ring 1, at position 1
pub when_put : place 2 (after_all start put_two) 0 ≡ AtRing 1 1
unfolding after side_of party_items party_count party_end listed holds moved queued_at
when_put = refl

-- still at position 1, where it is the oldest item now
pub when_oldest : place 2 (after_all start (put_two ++ take_one)) 0 ≡ AtRing 1 1
unfolding after side_of party_items party_count party_end listed holds moved queued_at
when_oldest = refl

-- and while an open take span holds it
pub when_reserved : place 2 (after_all start (put_two ++ take_one ++ reserve_next)) 0 ≡ AtRing 1 1
unfolding after side_of party_items party_count party_end listed holds moved queued_at
when_reserved = refl

pub when_taken : place 2
    (after_all start (put_two ++ take_one ++ reserve_next ++ event 0 (SettleTake 1 1) (Done 1 (Buffers (0 ∷ []) ∷ [])) ∷ [])) 0
    ≡ Held 0
unfolding after side_of party_items party_count party_end listed holds moved queued_at
when_taken = refl

pub when_cached : place 2 (after_all start put_two) 1 ≡ Cached 1
unfolding after side_of party_items party_count party_end listed holds moved queued_at
when_cached = refl

pub when_held : place 2 (after_all start put_two) 2 ≡ Held 1
unfolding after side_of party_items party_count party_end listed holds moved queued_at
when_held = refl

pub outside_the_pool : place 2 (after_all start put_two) 3 ≡ Nowhere
unfolding after side_of party_items party_count party_end listed holds moved queued_at
outside_the_pool = refl
