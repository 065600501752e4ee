-- Bytes of a buffer that are lent for writing, and the buffer after them.
use Rattle.std.proofs.Common.{◌≡◌, ℕ, ◌+◌, ◌-◌, ◌≤◌, min, List, ◌++◌, length, take, drop, slice_range, vec_len, refl, sym, ap, ◌∙◌, arith, length-append}
use Rattle.std.proofs.Math.Bridge.{le_prop}
use Rattle.std.proofs.Math.Nat.{ℕ_set}
use Rattle.std.proofs.lemmas.List.{drop-drop, drop_at, take_at, take-take, length-take, length-take-le, length-drop}
use Rattle.std.specs.List.{refill}
use mathlib.Core.HLevel.{is_prop→PathP}
use Rattle.pcapio.specs.BufferLends.{consumed}
use Rattle.pcapio.specs.ReadBuffer.{items}
use Rattle.pcapio.specs.declared.read_buffer.ReadBuffer.{ReadBuffer}
use Rattle.pcapio.proofs.Windows.{stepped}

-- two buffers with the same bytes, the same start and the same end are the same
pub same_buffer : (x y : ReadBuffer) → x.buffer ≡ y.buffer → x.start ≡ y.start → x.end ≡ y.end → x ≡ y
same_buffer x y b s e i =
    record {
      buffer = b i;
      start = s i;
      end = e i;
      ordered = is_prop→PathP (λ j. s j ≤ e j) (λ j. le_prop) x.ordered y.ordered i;
      within = is_prop→PathP (λ j. e j ≤ 65536) (λ j. le_prop) x.within y.within i;
      room = is_prop→PathP (λ j. vec_len (b j) ≡ 65536) (λ j. ℕ_set _ _) x.room y.room i;
    }

-- the bytes of a row from a start to an end, n of them after the first `before`
pub part_of_row : (xs : List ℕ) (start end before n : ℕ) → start + (before + n) ≤ end
    → slice_range xs (start + before) (start + before + n) ≡ take n (drop before (slice_range xs start end))
part_of_row xs start end before n inside =
    let many : (start + before + n) - (start + before) ≡ n = omega arith in
    let fewer : n ≤ end - (start + before) = omega arith in
    ap (λ k. take k (drop (start + before) xs)) many
    ∙ sym (take-take n (end - (start + before)) (drop (start + before) xs) fewer)
    ∙ ap (take n) (stepped xs start end before (omega arith))

-- a row with others written over those from index i on is the same after them
after_written : (xs ws : List ℕ) (i : ℕ) → i ≤ length xs
    → drop (i + length ws) (take i xs ++ (ws ++ drop (length ws) (drop i xs))) ≡ drop (i + length ws) xs
after_written xs ws i inside =
    let front = length-take-le i xs inside in
    sym (drop-drop (length ws) i (take i xs ++ (ws ++ drop (length ws) (drop i xs))))
    ∙ ap (drop (length ws)) (drop_at (take i xs) (ws ++ drop (length ws) (drop i xs)) i front)
    ∙ drop_at ws (drop (length ws) (drop i xs)) (length ws) refl
    ∙ drop-drop (length ws) i xs

-- so it is in a row of fixed length
pub after_refilled : (xs ws : List ℕ) (len i : ℕ) → len ≡ length xs → i + length ws ≤ length xs
    → let all = take i xs ++ (ws ++ drop (length ws) (drop i xs)) in
    drop (i + length ws) (refill len xs all) ≡ drop (i + length ws) xs
after_refilled xs ws len i same inside =
    let all = take i xs ++ (ws ++ drop (length ws) (drop i xs)) in
    let long : length all ≡ len = omega (
      arith,
      length-append (take i xs) (ws ++ drop (length ws) (drop i xs)),
      length-append ws (drop (length ws) (drop i xs)),
      length-take-le i xs (omega arith),
      length-drop (length ws) (drop i xs),
      length-drop i xs,
      same,
    ) in
    ap (drop (i + length ws)) (take_at all (drop (length all) xs) len long) ∙ after_written xs ws i (omega arith)

-- what is still to come after bytes that were consumed, written over or not
pub still : (a : ReadBuffer) (before n : ℕ) (ws : List ℕ) → before + n ≤ length (items a) → length ws ≡ n
    → items (consumed a before n ws) ≡ drop (before + n) (items a)
still a before n ws inside len =
    let xs = a.buffer.items in
    let whole = a.buffer.ok.0 in
    let room : a.start + (before + n) ≤ a.end =
    omega (arith, a.ordered, length-take {A = ℕ} (a.end - a.start) (drop a.start xs), length-drop {A = ℕ} a.start xs) in
    let from : min (a.start + (before + n)) a.end ≡ a.start + before + length ws = omega arith in
    let back : a.start + before + length ws ≡ a.start + (before + n) = omega arith in
    let fits : a.start + before + length ws ≤ length xs = omega (arith, a.within, a.room, whole) in
    ap (λ s. take (a.end - s) (drop s (consumed a before n ws).buffer.items)) from
    ∙ ap (take (a.end - (a.start + before + length ws))) (after_refilled xs ws a.buffer.len (a.start + before) whole fits)
    ∙ ap (λ s. slice_range xs s a.end) back
    ∙ stepped xs a.start a.end (before + n) room
