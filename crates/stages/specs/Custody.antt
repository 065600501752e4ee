-- Which buffers a thread's hand holds: at least those of the items that the thread has.
use Rattle.std.specs.Prelude.{◌≡◌, ◌≤◌, ◌+◌, ℕ, zero, suc, List, Option, None, Some}
use Rattle.std.specs.Ordering.{nat_cmp}
use Rattle.std.specs.FinMap as map
use Rattle.burst.specs.declared.tagged.Tagged.{Ghosts}
use Rattle.fabric.specs.declared.stored.Stored.{Ghosts as StoredGhosts}
use Rattle.fabric.specs.declared.hand.Hand.{Hand}
use Rattle.fabric.specs.Hands.{view}
use Rattle.mbuf.specs.Buffer.{Buffer}
use Rattle.mbuf.specs.Chain.{numbers_of}
use Rattle.reorder.specs.Waiting.{Waiting}
use Rattle.ringcore_laws.specs.Sound.{holds, occurrences, occurrences_in}
use Rattle.stages_laws.specs.declared.run.Run.{Ghosts as RunGhosts}
use Rattle.run_one.specs.declared.packet.Judged.{Judged}
use Rattle.stages.specs.declared.threads.item.RingItem.{RingItem}
use Rattle.stages.specs.Numbers.{item_numbers}

module _ {T : Type 0} {S : Type 0} {G : Ghosts T} {H : StoredGhosts S T} where
  -- the hand in this place holds each buffer at least as often as the count says
  abbrev pub HoldsAll : (T → List ℕ) → Option (Hand T S G H) → (ℕ → ℕ) → Type 0
  HoldsAll tags place count = (h : Hand T S G H) → place ≡ Some h → (b : ℕ) → count b ≤ holds tags b (view h).party

-- how often a buffer occurs in numbers, and in a chain
abbrev pub in_numbers : List ℕ → ℕ → ℕ
in_numbers numbers b = occurrences b numbers

abbrev pub in_chain : List Buffer → ℕ → ℕ
in_chain chain = in_numbers (numbers_of chain)

module _ {J : Type 0} {R : RunGhosts J} where
  -- how often a buffer occurs in items
  abbrev pub in_items : List (RingItem J R) → ℕ → ℕ
  in_items items b = occurrences_in item_numbers b items

  abbrev pub in_packet : Option (Judged J R) → ℕ → ℕ
  in_packet None b = 0
  in_packet (Some x) b = in_chain x.chain b

  -- how often a buffer occurs in the packets that wait under `count` numbers, from n on
  abbrev pub in_waiting : map.FinMap nat_cmp (Judged J R) → ℕ → ℕ → ℕ → ℕ
  in_waiting held n zero b = 0
  in_waiting held n (suc count) b = in_packet (map.get held n) b + in_waiting held (n + 1) count b

  module _ {S : Type 0} {G : Ghosts (RingItem J R)} {H : StoredGhosts S (RingItem J R)} where
    -- the reader's hand holds the buffers of the packets that wait to be put together, and of the segments in stock
    abbrev pub HoldsFor : Option (Hand (RingItem J R) S G H) → List (RingItem J R) → List (RingItem J R) → Type 0
    HoldsFor place batch stock = HoldsAll item_numbers place (λ b. in_items batch b + in_items stock b)

    -- the sink's hand holds the buffers of the segments that are to be freed, of the packets in its window, and others
    abbrev pub HoldsOf : Option (Hand (RingItem J R) S G H) → List (RingItem J R) → Waiting (Judged J R) → (ℕ → ℕ) → Type 0
    HoldsOf place free w others = (count : ℕ)
        → HoldsAll item_numbers place (λ b. in_items free b + (in_waiting w.held w.next count b + others b))
