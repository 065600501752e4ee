-- Worked rows of packets and shares, computed by the definitions. What is expected is what DPDK's guide states about
-- headroom, tailroom and reference counts, and the order of the errors
use Rattle.std.proofs.Common.{ℕ, ◌≡◌, List, [], ◌∷◌, refl}
use Rattle.std.specs.Prelude.{Some, None}
use Rattle.mbuf.specs.Buffer.{Buffer, made, appended, prepended, cut_front, cut_back}
use Rattle.mbuf.specs.Chain.{filled, headroom_of, tailroom_of, space_of, fresh_of, singles, part_of, place_of_part}
use Rattle.mbuf.specs.Deck.{Share, Shares, shared, again, narrowed, mentions_of, freed_by}
use Rattle.mbuf.specs.Deck.{share_refusal, again_refusal, cut_refusal, release_refusal, copy_refusal}
use Rattle.mbuf.specs.declared.fault.DeckFault.TheVariants.{NoTailroom, TooShort, NoSuchShare, NoId}

abbrev buffer : ℕ → ℕ → ℕ → List ℕ → ℕ → Buffer
buffer number reserve headroom bytes tailroom =
    record { number = number; reserve = reserve; headroom = headroom; bytes = bytes; tailroom = tailroom }

-- segments 4 and 7, with two bytes of headroom and room for two, with bytes 1, 2 and 3
abbrev packet : List Buffer
packet = buffer 4 2 2 (1 ∷ 2 ∷ []) 0 ∷ buffer 7 2 2 (3 ∷ []) 1 ∷ []

abbrev deck : ℕ → List Share → Shares
deck next live = record { next = next; live = live }

-- bytes go into the first segment as far as they fit there, whatever was in it
pub fills_the_first_first : filled (1 ∷ 2 ∷ 3 ∷ []) (buffer 4 2 0 (9 ∷ 9 ∷ 9 ∷ []) 1 ∷ made 2 2 7 ∷ []) ≡ packet
fills_the_first_first = refl

pub made_fresh : fresh_of packet ≡ made 2 2 4 ∷ made 2 2 7 ∷ []
made_fresh = refl

pub room_at_the_ends : (headroom_of packet ≡ 2) × (tailroom_of packet ≡ 1) × (space_of packet ≡ 4)
room_at_the_ends = (refl, refl, refl)

pub second_part : (part_of packet 1 ≡ 3 ∷ []) × (place_of_part packet 1 ≡ 2)
second_part = (refl, refl)

pub behind_and_before : prepended (8 ∷ []) (appended (9 ∷ []) (made 2 2 5)) ≡ buffer 5 2 1 (8 ∷ 9 ∷ []) 1
behind_and_before = refl

pub cut_at_both_ends : cut_back 1 (cut_front 1 (buffer 5 2 1 (8 ∷ 9 ∷ 7 ∷ []) 1)) ≡ buffer 5 2 2 (9 ∷ []) 2
cut_at_both_ends = refl

-- 2^32 - 1 ids are given, and then no more
pub last_id : share_refusal (deck 4294967294 []) ≡ None
last_id = refl

pub no_id : share_refusal (deck 4294967295 []) ≡ Some NoId
no_id = refl

-- a share that doesn't exist is reported first
pub again_unknown : again_refusal 1 (deck 4294967295 (shared 0 packet ∷ [])) ≡ Some NoSuchShare
again_unknown = refl

pub again_no_id : again_refusal 0 (deck 4294967295 (shared 0 packet ∷ [])) ≡ Some NoId
again_no_id = refl

pub cut_unknown : cut_refusal 1 0 4 (deck 1 (shared 0 packet ∷ [])) ≡ Some NoSuchShare
cut_unknown = refl

-- the last byte may be among those that are left, and none after it
pub cut_to_the_end : cut_refusal 0 1 2 (deck 1 (shared 0 packet ∷ [])) ≡ None
cut_to_the_end = refl

pub cut_too_far : cut_refusal 0 1 3 (deck 1 (shared 0 packet ∷ [])) ≡ Some TooShort
cut_too_far = refl

pub release_unknown : release_refusal 1 (deck 1 (shared 0 packet ∷ [])) ≡ Some NoSuchShare
release_unknown = refl

pub copy_unknown : copy_refusal 1 [] (deck 1 (shared 0 packet ∷ [])) ≡ Some NoSuchShare
copy_unknown = refl

-- a copy fills the space of the chain, not what is free now
pub copy_that_fits : copy_refusal 0 (buffer 9 0 0 (5 ∷ 5 ∷ []) 1 ∷ []) (deck 1 (shared 0 packet ∷ [])) ≡ None
copy_that_fits = refl

pub copy_that_is_too_long : copy_refusal 0 (made 9 2 9 ∷ []) (deck 1 (shared 0 packet ∷ [])) ≡ Some NoTailroom
copy_that_is_too_long = refl

-- a share of what is left of another one shows that, and mentions all segments; a part is taken from what is shown
pub again_of_a_part : again 1 (narrowed 1 2 (shared 0 packet)) ≡ record { id = 1; mentions = fresh_of packet; bytes = 2 ∷ 3 ∷ [] }
again_of_a_part = refl

pub part_of_a_part : (narrowed 1 1 (narrowed 1 2 (shared 0 packet))).bytes ≡ 3 ∷ []
part_of_a_part = refl

-- each live share counts, and a segment is returned fresh, with its last mention
pub mentioned_twice : mentions_of 7 (shared 0 packet ∷ again 1 (shared 0 packet) ∷ []) ≡ 2
mentioned_twice = refl

pub still_mentioned : freed_by (Some (shared 0 packet)) (again 1 (shared 0 packet) ∷ []) ≡ []
still_mentioned = refl

pub last_mention : freed_by (Some (shared 0 packet)) (shared 1 (made 2 2 5 ∷ []) ∷ []) ≡ singles (made 2 2 4 ∷ made 2 2 7 ∷ [])
last_mention = refl
