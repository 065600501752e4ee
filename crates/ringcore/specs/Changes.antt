-- What an answered step changes in the members, rings and entries
use Rattle.std.specs.Prelude.{ℕ, true, false, ◌≡◌, ◌+◌, ◌-◌, ◌^◌, ◌<◌, ◌≤◌, List, ◌++◌, take, drop}
use Rattle.std.specs.Prelude.{length, Option, Some, None}
use Rattle.std.specs.List.{flat_map}
use Rattle.geom.specs.declared.plan.Mode.{Mode}
use Rattle.geom.specs.declared.plan.Mode.TheVariants.{Multi, Hts}
use Rattle.geom.specs.declared.plan.Side.{Side}
use Rattle.geom.specs.declared.plan.Side.TheVariants.{Put, Take}
use Rattle.geom.specs.declared.plan.RingPlan.{RingPlan}
use Rattle.ringcore_laws.specs.declared.contents.Item.{Item}
use Rattle.ringcore_laws.specs.declared.protocol.Reply.{Reply}
use Rattle.ringcore_laws.specs.declared.protocol.Reply.TheVariants.{Granted, Seen, Busy, NoSpan, Done}
use Rattle.ringcore_laws.specs.declared.protocol.Span.{Span}
use Rattle.ringcore_laws.specs.History.{tags, with_tail}
use Rattle.ringcore.specs.declared.ring.Words.{Words}
use Rattle.ringcore.specs.declared.ring.Ring.{Ring}
use Rattle.ringcore.specs.declared.member.Member.{Member}
use Rattle.ringcore_laws.specs.Runs.{is_done}
use Rattle.ringcore_laws.specs.declared.protocol.Place.{Place}
use Rattle.ringcore_laws.specs.declared.protocol.Place.TheVariants.{Held}
use Rattle.ringcore.specs.Entries.{with_each, with_items_at}

-- the words of one side
abbrev pub side_words : Ring → Side → Words
side_words ring Put = ring.put
side_words ring Take = ring.take

-- the words of a side after an attempt to reserve
abbrev pub words_after : Words → Reply → Words
words_after w (Granted start count left) = record w { head = start + count }
words_after w _ = w

abbrev pub member_looked : Member → ℕ → Side → Reply → Member
member_looked m ring side (Seen word) =
    record m { observed = Some record { ring = ring; side = side; looked_at = word; tail_seen = None } }
member_looked m ring side (Busy word) = record m { observed = None }
member_looked m ring side _ = m

abbrev pub member_asked : Member → Reply → Member
member_asked m (Seen tail) = record m { observed = with_tail m.observed tail }
member_asked m _ = m

abbrev pub member_tried : Member → ℕ → Side → Reply → Member
member_tried m ring side NoSpan = m
member_tried m ring side (Granted start count left) =
    record m { span = Some record { ring = ring; side = side; start = start; count = count }; observed = None }
member_tried m ring side _ = record m { observed = None }

-- a ring after this reply to a Reserve
abbrev pub ring_tried : Ring → Side → Reply → Ring
ring_tried ring Put reply = record ring { put = words_after ring.put reply }
ring_tried ring Take reply = record ring { take = words_after ring.take reply }

-- the words of a side, and the open span, after this reply to a settle of this many positions
abbrev pub words_moved_to : Mode → Words → ℕ → Words
words_moved_to Multi w end = record w { tail = end }
words_moved_to Hts w end = record w { head = end; tail = end }

abbrev pub start_at : Option Span → ℕ
start_at None = 0
start_at (Some s) = s.start

abbrev pub end_at : Option Span → ℕ → ℕ
end_at None count = count
end_at (Some s) count = s.start + count

-- a Done with these items instead of its own
abbrev pub with_items : Reply → List Item → Reply
with_items (Done count none) items = Done count items
with_items r items = r

-- what a reply other than Done does to a member, a ring and the entries
abbrev pub NothingSettled : (m n : Member) (x y : Ring) (old new : List Place) → Type 0
NothingSettled m n x y old new = (n ≡ m) × (y ≡ x) × (new ≡ old)

-- a member after its span was settled, except for the count of its buffers
pub record SpanSettled (m n : Member) : Type 0 where
  pub number : n.number ≡ m.number
  pub observed : n.observed ≡ m.observed
  pub span : n.span ≡ None

-- items were queued at the first positions of a put span, and it was settled
pub record IsPublished (plan : RingPlan) (number : ℕ) (m n : Member) (x y : Ring) (old new : List Place)
    (items : List Item) : Type 0 where
  pub queue : length x.queue.items + length items ≤ x.queue.capacity → y.queue.items ≡ x.queue.items ++ items
  pub capacity : y.queue.capacity ≡ x.queue.capacity
  pub put : end_at m.span (length items) < 2 ^ 64
      → y.put ≡ words_moved_to plan.put x.put (end_at m.span (length items))
  pub taking : y.take ≡ x.take
  pub places : end_at m.span (length items) < 2 ^ 64 → new ≡ with_items_at old number (start_at m.span) items
  pub counted : length (flat_map tags items) < 2 ^ 64 → n.count ≡ m.count - length (flat_map tags items)
  pub member : SpanSettled m n

-- this many items were dequeued at the first positions of a take span, and it was settled
pub record IsDequeued (plan : RingPlan) (m n : Member) (x y : Ring) (old new : List Place) (count : ℕ) : Type 0 where
  pub queue : y.queue.items ≡ drop count x.queue.items
  pub capacity : y.queue.capacity ≡ x.queue.capacity
  pub taking : end_at m.span count < 2 ^ 64 → y.take ≡ words_moved_to plan.take x.take (end_at m.span count)
  pub put : y.put ≡ x.put
  pub places : new ≡ with_each old (flat_map tags (take count x.queue.items)) (Held m.number)
  pub counted : m.count + length (flat_map tags (take count x.queue.items)) < 2 ^ 64
      → n.count ≡ m.count + length (flat_map tags (take count x.queue.items))
  pub member : SpanSettled m n

-- what a settle did, by the reply
pub record PutResult (plan : RingPlan) (number : ℕ) (m n : Member) (x y : Ring) (old new : List Place)
    (items : List Item) (reply : Reply) : Type 0 where
  pub refused : is_done reply ≡ false → NothingSettled m n x y old new
  pub done : is_done reply ≡ true → IsPublished plan number m n x y old new items

pub record TakeResult (plan : RingPlan) (m n : Member) (x y : Ring) (old new : List Place) (count : ℕ)
    (reply : Reply) : Type 0 where
  pub refused : is_done reply ≡ false → NothingSettled m n x y old new
  pub done : is_done reply ≡ true → IsDequeued plan m n x y old new count
