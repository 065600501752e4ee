-- A reorder window as its contracts see it (DPDK Programmer's Guide, "Reorder Library"): the items that wait, by their
-- sequence numbers, and the number whose turn is next. Where an item is stored is not part of it.
use Rattle.std.specs.Prelude.{◌≡◌, ℕ, ◌+◌, ◌-◌, ◌^◌, ◌<◌, ◌≤◌, min, max, IsTrue, None, slice_index_or, refl}
use Rattle.std.specs.Ordering.{nat_cmp}
use Rattle.std.specs.Coded.{Coded, code_by, coded×, coded_ℕ}
use Rattle.std.specs.FinMap as map

pub record Waiting (T : Type 0) : Type 0 where
  -- the items, by number
  pub held : map.FinMap nat_cmp T
  -- the next number to be released
  pub next : ℕ
  -- how many numbers the window spans
  pub size : ℕ

module _ {T : Type 0} where
  -- a window that waits for number 0
  abbrev pub empty_window : ℕ → Waiting T
  empty_window size = record { held = map.empty; next = 0; size = size }

  -- the first number that is early: `size` above `next`, or the last number of 64 bits, which no window reaches
  abbrev pub end_of : Waiting T → ℕ
  end_of w = min (w.next + w.size) (2 ^ 64 - 1)

  -- number n is within the window, and no item has it
  pub record IsFree (w : Waiting T) (n : ℕ) : Type 0 where
    pub in_turn : w.next ≤ n
    pub in_reach : n < end_of w
    pub vacant : map.get w.held n ≡ None

  -- the pair (n, x) joins those that wait
  abbrev pub with_number : Waiting T → ℕ → T → Waiting T
  with_number w n x = record w { held = map.insert w.held n x }

  -- the item of `next` has gone
  abbrev pub after_next : Waiting T → Waiting T
  after_next w = record w { held = map.remove w.held w.next; next = w.next + 1 }

  -- the least number held, or `other` if none is held
  abbrev pub least_held_or : Waiting T → ℕ → ℕ
  least_held_or w other = slice_index_or (map.keys w.held) 0 other

  -- `next` moves up to n, but not past an item that waits, and never down
  abbrev pub slid_to : Waiting T → ℕ → ℕ
  slid_to w n = max w.next (min n (least_held_or w n))

  -- what holds for every window: its size, and that each number held is from `next` on and not early
  pub record IsWindow (w : Waiting T) : Type 0 where
    pub some : 0 < w.size
    pub small : w.size ≤ 65536
    pub in_turn : (n : ℕ) → IsTrue (map.contains_key w.held n) → w.next ≤ n
    pub in_reach : (n : ℕ) → IsTrue (map.contains_key w.held n) → n < end_of w

abbrev pub waiting_code : {T : Type 0} → Coded T → Coded (Waiting T)
waiting_code code =
    code_by (ℕ × (ℕ × map.FinMap nat_cmp _)) (coded× coded_ℕ (coded× coded_ℕ (map.code coded_ℕ code)))
    (λ w. (w.next, (w.size, w.held))) (λ p. record { held = p.1.1; next = p.0; size = p.1.0 }) (λ _. refl)
