-- What each call does to the window that its places represent.
use Rattle.std.proofs.Common.{◌≡◌, ◌≢◌, ℕ, ◌+◌, ◌-◌, ◌%◌, ◌^◌, ◌<◌, ◌≤◌, inl, inr, Bool, true, false, cond, List, length, get_or, set, replicate, Option, Some}
use Rattle.std.proofs.Common.{None, is_some, true≢false, refl, sym, ap, ap₂, subst, ◌∙◌, arith, length-set, mod-lt}
use native.Mathlib.Nat.{mod-add-mod, zero-mod}
use Rattle.std.specs.Ordering.{nat_cmp}
use Rattle.std.specs.Cmp.{nat_cmp_total}
use Rattle.std.specs.FinMap.{get, len, len-remove, empty_of_len, remove, get-remove, get-empty, same_map, nat_cmp-IsAntisymmetric, empty}
use Rattle.std.proofs.lemmas.Bool.{cases_lt, cond-false, cond-true}
use Rattle.std.proofs.lemmas.List.{get_or-replicate, length-replicate, get_or_default}
use Rattle.reorder.specs.Places.{at_number, held_in, waiting_in, IsRowOf, IsFirstHeld}
use Rattle.reorder.specs.Waiting.{Waiting, end_of, IsWindow, empty_window, with_number, after_next, slid_to}
use Rattle.reorder.proofs.HeldLaws.{held_inside, held_outside, held_within, held-put, held-taken, held_later, held_written, untied}
use Rattle.reorder.proofs.Rows.{at_written}
use Rattle.reorder.proofs.LeastLaws.{slides}

module _ {T : Type 0} where
  pub is_window : (places : List (Option T)) (head next : ℕ) → IsRowOf places head next
      → IsWindow (waiting_in places next)
  is_window places head next laid = record {
    some = laid.some;
    small = laid.small;
    in_turn = λ n held. (held_within places next n held).0;
    in_reach = λ n held.
        let within : (next ≤ n) × (n < next + length places) = held_within places next n held in
        elim (cases_lt n (2 ^ 64 - 1)) [
          | inl reached ↦ omega (arith, within.1)
          | inr beyond ↦ absurd (true≢false (sym held ∙ ap is_some (laid.unreached n beyond)))
        ];
  }

  -- taking an item that is held leaves fewer
  pub fewer_after : (window : Waiting T) → is_some (get window.held window.next) ≡ true
      → len (after_next window).held < len window.held
  fewer_after window held =
      let some : len window.held ≢ 0 =
      λ none. true≢false (sym held ∙ ap is_some (ap (λ m. get m window.next) (empty_of_len window.held none)
      ∙ get-empty nat_cmp window.next)) in
      let less : len (after_next window).held ≡ len window.held - 1 =
      len-remove nat_cmp_total window.held window.next ∙ cond-true _ _ _ held in
      omega arith

  nothing_new : (size q : ℕ) → 0 < size → at_number (replicate {A = Option T} size None) q ≡ None
  nothing_new size q some = get_or-replicate size _ None None (rw length-replicate (mod-lt q some))

  nothing_held : (size q : ℕ) → 0 < size → get (held_in (replicate {A = Option T} size None) 0) q ≡ None
  nothing_held size q some =
      let long : length (replicate {A = Option T} size None) ≡ size = length-replicate size None in
      elim (cases_lt q size) [
        | inl below ↦ held_inside (replicate size None) 0 q (omega arith) (omega arith) ∙ nothing_new size q some
        | inr above ↦ held_outside (replicate size None) 0 q (inr (omega arith))
      ]

  -- a new row of places represents an empty window
  pub laid_new : (size : ℕ) → 0 < size → size ≤ 65536 → IsRowOf (replicate {A = Option T} size None) 0 0
  laid_new size some small = record {
    some = rw length-replicate some;
    small = rw length-replicate small;
    at_head = sym (zero-mod _);
    unreached = λ n _. nothing_held size n some;
  }

  pub waiting_new : (size : ℕ) → 0 < size → waiting_in (replicate {A = Option T} size None) 0 ≡ empty_window size
  waiting_new size some =
      let held : held_in (replicate {A = Option T} size None) 0 ≡ empty =
      same_map nat_cmp_total nat_cmp-IsAntisymmetric _ _ (λ q. nothing_held size q some
      ∙ sym (get-empty nat_cmp q)) in
      λ i. record { held = held i; next = 0; size = length-replicate {A = Option T} size None i }

  none_either : (b : Bool) (o : Option T) → o ≡ None → cond b None o ≡ None
  none_either true o none = refl
  none_either false o none = none

  module _ (places : List (Option T)) (head next : ℕ) (laid : IsRowOf places head next) where
    -- the place that the code computes for a number of the window
    pub placed : (n place size : ℕ) → next ≤ n → place ≡ (head + (n - next)) % size → size ≡ length places
        → place ≡ n % length places
    placed n place size low computed whole =
        computed
        ∙ ap₂ (λ from all. (from + (n - next)) % all) laid.at_head whole
        ∙ mod-add-mod next (length places) (n - next)
        ∙ ap (λ m. m % length places) (omega arith)

    read_at : (n place : ℕ) (o : Option T) → next ≤ n → n < next + length places → place ≡ n % length places
        → o ≡ get_or places place o → o ≡ get (held_in places next) n
    read_at n place o low high at read =
        let inside : place < length places = subst (λ p. p < length places) (sym at) (mod-lt n laid.some) in
        read ∙ get_or_default places place o None inside ∙ ap (λ p. get_or places p None) at
        ∙ sym (held_inside places next n low high)

    -- what is read at the place of a number of the window is what is held at that number
    pub seen : (n place size : ℕ) (o : Option T) (window : Waiting T) → next ≤ n → n < next + length places
        → place ≡ (head + (n - next)) % size → size ≡ length places → o ≡ get_or places place o
        → waiting_in places next ≡ window → o ≡ get window.held n
    seen n place size o window low high computed whole read is =
        read_at n place o low high (placed n place size low computed whole) read ∙ ap (λ w. get w.held n) is

    -- what is read at `head` is what is held at `next`
    pub seen_at_head : (o : Option T) (window : Waiting T) → o ≡ get_or places head o
        → waiting_in places next ≡ window → o ≡ get window.held window.next
    seen_at_head o window read is =
        read_at next head o (omega arith) (omega (arith, laid.some)) laid.at_head read
        ∙ ap (λ w. get w.held w.next) is

    -- a number whose item is here isn't the last of 64 bits
    pub next_reached : is_some (get (held_in places next) next) ≡ true → next < 2 ^ 64 - 1
    next_reached held = elim (cases_lt next (2 ^ 64 - 1)) [
      | inl reached ↦ reached
      | inr beyond ↦ absurd (true≢false (sym held ∙ ap is_some (laid.unreached next beyond)))
    ]

    -- an item put into the place of a number of the window
    pub laid_put : (n : ℕ) (x : T) → next ≤ n → n < end_of (waiting_in places next)
        → IsRowOf (set places (n % length places) (Some x)) head next
    laid_put n x low high = record {
      some = rw length-set laid.some;
      small = rw length-set laid.small;
      at_head = rw length-set laid.at_head;
      unreached = λ q far.
          held_written places next n (Some x) laid.some low (omega arith) q
          ∙ cond-false _ (Some x) _ (untied q n (λ same. omega arith))
          ∙ laid.unreached q far;
    }

    pub waiting_put : (n : ℕ) (x : T) → next ≤ n → n < end_of (waiting_in places next)
        → waiting_in (set places (n % length places) (Some x)) next ≡ with_number (waiting_in places next) n x
    waiting_put n x low high = λ i. record {
      held = held-put places next n x laid.some low (omega arith) i;
      next = next;
      size = length-set places (n % length places) (Some x) i;
    }

    held_on : held_in (set places (next % length places) None) (next + 1) ≡ remove (held_in places next) next
    held_on =
        let written : List (Option T) = set places (next % length places) None in
        let vacant : (n : ℕ) → next ≤ n → n < next + 1 → n < next + length written → at_number written n ≡ None =
        λ n from before _. let same : n ≡ next = omega arith in ap (at_number written) same
        ∙ at_written places next None laid.some in
        held_later written next (next + 1) (rw length-set laid.some) (omega arith) vacant
        ∙ held-taken places next next laid.some (omega arith) (omega (arith, laid.some))

    held_after : held_in (set places head None) (next + 1) ≡ remove (held_in places next) next
    held_after = subst (λ place. held_in (set places place None) (next + 1) ≡ remove (held_in places next) next)
        (sym laid.at_head) held_on

    -- the item of `next` taken from its place
    pub laid_after : IsRowOf (set places head None) ((head + 1) % length places) (next + 1)
    laid_after = record {
      some = rw length-set laid.some;
      small = rw length-set laid.small;
      at_head = rw length-set (ap (λ place. (place + 1) % length places) laid.at_head
          ∙ mod-add-mod next (length places) 1);
      unreached = λ q far. ap (λ held. get held q) held_after ∙ get-remove nat_cmp_total _ next q
          ∙ none_either _ _ (laid.unreached q far);
    }

    pub waiting_after : waiting_in (set places head None) (next + 1) ≡ after_next (waiting_in places next)
    waiting_after = λ i. record { held = held_after i; next = next + 1; size = length-set places head None i }

    module _ (n later : ℕ) (first : IsFirstHeld places next n later) where
      held_still : held_in places later ≡ held_in places next
      held_still = held_later places next later laid.some first.from first.passed

      -- `next` moved on to the first item, or to n
      pub laid_later : IsRowOf places (later % length places) later
      laid_later = record {
        some = laid.some;
        small = laid.small;
        at_head = refl;
        unreached = λ q far. ap (λ held. get held q) held_still ∙ laid.unreached q far;
      }

      pub waiting_later : waiting_in places later ≡ record (waiting_in places next) { next = later }
      waiting_later = λ i. record { held = held_still i; next = later; size = length places }

      none_passed : (k : ℕ) → is_some (get (held_in places next) k) ≡ true → later ≤ k
      none_passed k held =
          let within : (next ≤ k) × (k < next + length places) = held_within places next k held in
          elim (cases_lt k later) [
            | inl passed ↦ absurd (true≢false (sym held ∙ ap is_some
                (held_inside places next k within.0 within.1 ∙ first.passed k within.0 passed within.1)))
            | inr ahead ↦ ahead
          ]

      pub slid : later ≡ slid_to (waiting_in places next) n
      slid = slides (waiting_in places next) n later first.from first.upto none_passed
          (λ short. ap is_some (held_inside places next later first.from (first.near short)) ∙ first.found short)

    -- no item waits under the number whose turn it is
    module _ (vacant : get (held_in places next) next ≡ None) where
      passing : IsFirstHeld places next (next + 1) (next + 1)
      passing =
          let here : at_number places next ≡ None =
          sym (held_inside places next next (omega arith) (omega (arith, laid.some))) ∙ vacant in
          record {
            from = omega arith;
            upto = omega arith;
            passed = λ k from before _. let same : k ≡ next = omega arith in ap (at_number places) same ∙ here;
            near = λ short. absurd (omega arith);
            found = λ short. absurd (omega arith);
          }

      -- the turn goes on without an item
      pub laid_passed : IsRowOf places ((head + 1) % length places) (next + 1)
      laid_passed = subst (λ place. IsRowOf places place (next + 1))
          (sym (ap (λ place. (place + 1) % length places) laid.at_head ∙ mod-add-mod next (length places) 1))
          (laid_later (next + 1) (next + 1) passing)

      pub waiting_passed : waiting_in places (next + 1) ≡ record (waiting_in places next) { next = next + 1 }
      waiting_passed = waiting_later (next + 1) (next + 1) passing
