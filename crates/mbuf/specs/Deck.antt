-- A deck as contracts see it: its live shares, and the reference counts of their segments (DPDK Programmer's Guide,
-- "Mbuf Library", indirect buffers: a buffer is returned when its reference count reaches 0).
use Rattle.std.specs.Prelude.{◌≡◌, ◌+◌, ◌<◌, All, None, nat_lt, length, ◌==◌, ℕ, not, if◌then◌else◌, List, [], ◌∷◌}
use Rattle.std.specs.Prelude.{◌++◌, map, take, drop, filter, find, Option, Some, IfSome, slice_index_or}
use Rattle.std.specs.List.{sum_by}
use Rattle.std.specs.List.Sorted.{IsNonDecreasing}
use Rattle.burst.specs.Numbers.{times, AreDistinct}
use Rattle.mbuf.specs.Buffer.{Buffer}
use Rattle.mbuf.specs.Chain.{numbers_of, bytes_of, fresh_of, space_of, singles}
use Rattle.mbuf.specs.declared.fault.DeckFault.{DeckFault}
use Rattle.mbuf.specs.declared.fault.DeckFault.TheVariants.{NoTailroom, TooShort, NoSuchShare, NoId}

-- a live share: its id, the segments that it mentions, as they were made, and the bytes that it shows
pub record Share : Type 0 where
  pub id : ℕ
  pub mentions : List Buffer
  pub bytes : List ℕ

-- the live shares in the order of their ids, and the id that the next one gets
pub record Shares : Type 0 where
  pub next : ℕ
  pub live : List Share

-- the reference count of a segment: how often live shares mention it
abbrev pub mentions_of : ℕ → List Share → ℕ
mentions_of number live = sum_by (λ share. times number (numbers_of share.mentions)) live

abbrev pub share_of : ℕ → List Share → Option Share
share_of id live = find (λ share. share.id == id) live

-- the share at index i
abbrev pub share_at : List Share → ℕ → Share
share_at live i = slice_index_or live i record { id = 0; mentions = []; bytes = [] }

-- the share with this id is at index i
pub record StandsAt (id : ℕ) (live : List Share) (i : ℕ) : Type 0 where
  pub there : i < length live
  pub is : share_of id live ≡ Some (share_at live i)
  pub has_id : (share_at live i).id ≡ id

-- no live share mentions any of these numbers
abbrev pub AreUnmentioned : List ℕ → List Share → Type 0
AreUnmentioned numbers live = (number : ℕ) → 0 < times number numbers → mentions_of number live ≡ 0

-- the share of a chain
abbrev pub shared : ℕ → List Buffer → Share
shared id chain = record { id = id; mentions = fresh_of chain; bytes = bytes_of chain }

-- the same mentions and bytes under another id
abbrev pub again : ℕ → Share → Share
again id share = record share { id = id }

-- narrowed to n of its bytes, from byte `from` on
abbrev pub narrowed : ℕ → ℕ → Share → Share
narrowed from n share = record share { bytes = take n (drop from share.bytes) }

-- the shares, with f applied to the one with this id
abbrev pub at_id : ℕ → (Share → Share) → List Share → List Share
at_id id f live = map (λ share. if share.id == id then f share else share) live

-- the shares without the one with this id
abbrev pub without : ℕ → List Share → List Share
without id live = filter (λ share. not (share.id == id)) live

-- those of these segments that no live share mentions
abbrev pub unmentioned : List Share → List Buffer → List Buffer
unmentioned live buffers = filter (λ b. mentions_of b.number live == 0) buffers

-- the segments that a share returned, given the shares that are still live
abbrev pub freed_by : Option Share → List Share → List (List Buffer)
freed_by None live = []
freed_by (Some share) live = singles (unmentioned live share.mentions)

-- what holds for the live share with this id
abbrev pub IfShare : ℕ → Shares → (Share → Type 0) → Type 0
IfShare id deck holds = IfSome (share_of id deck.live) holds

-- the deck with one share more, which has the next id
abbrev pub added : Share → Shares → Shares
added share deck = record { next = deck.next + 1; live = deck.live ++ share ∷ [] }

-- the deck with other live shares
abbrev pub on_live : (List Share → List Share) → Shares → Shares
on_live f deck = record deck { live = f deck.live }

-- ids are given once and in order, each below the next
pub record HasIds (next : ℕ) (live : List Share) : Type 0 where
  pub distinct : AreDistinct (map (λ share. share.id) live)
  pub rising : IsNonDecreasing (map (λ share. share.id) live)
  pub below : All (λ share. share.id < next) live

-- the error for a share that doesn't exist, which is tested before anything else
abbrev pub of_share : Option Share → (Share → Option DeckFault) → Option DeckFault
of_share None later = Some NoSuchShare
of_share (Some share) later = later share

-- after 2^32 - 1 ids there are no more
abbrev pub share_refusal : Shares → Option DeckFault
share_refusal deck = if deck.next == 4294967295 then Some NoId else None

abbrev pub again_refusal : ℕ → Shares → Option DeckFault
again_refusal id deck = of_share (share_of id deck.live) (λ share. share_refusal deck)

abbrev pub cut_refusal : ℕ → ℕ → ℕ → Shares → Option DeckFault
cut_refusal id from n deck =
    of_share (share_of id deck.live) (λ share. if nat_lt (length share.bytes) (from + n) then Some TooShort else None)

abbrev pub release_refusal : ℕ → Shares → Option DeckFault
release_refusal id deck = of_share (share_of id deck.live) (λ share. None)

abbrev pub copy_refusal : ℕ → List Buffer → Shares → Option DeckFault
copy_refusal id chain deck =
    of_share (share_of id deck.live) (λ share. if nat_lt (space_of chain) (length share.bytes) then Some NoTailroom
    else None)
