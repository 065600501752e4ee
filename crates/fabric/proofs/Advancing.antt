-- What a hand holds after an advance of its open span
use Rattle.std.proofs.Common.{◌≡◌, ℕ, List, length, map, take, drop, refl, sym, ap, ◌∙◌, arith, Bool}
use Rattle.std.proofs.Common.{◌+◌, ◌-◌, ◌≤◌, ◌++◌, replicate, length-append, length-drop, length-take, take-append-drop}
use Rattle.std.proofs.lemmas.List.{map-append}
use Rattle.std.specs.Prelude.{Option, Some, None}
use Rattle.std.specs.List.{flat_map}
use Rattle.geom.specs.declared.plan.Side.TheVariants.{Put, Take}
use Rattle.ringcore_laws.specs.declared.party.Party.{Party}
use Rattle.ringcore_laws.specs.declared.protocol.Span.{Span}
use Rattle.ringcore_laws.specs.Moves.{Owns}
use Rattle.ringcore_laws.specs.Party.{with_open, with_settled}
use Rattle.ringcore_laws.specs.Sound.{holds, moved}
use Rattle.fabric_laws.specs.declared.view.View.{View}
use Rattle.fabric_laws.specs.Changes.{advanced, rest_of, settled}
use Rattle.fabric_laws.specs.Kinds.{IsHeldOnce, run}
use Rattle.fabric.specs.Owned.{IsRow, marked}
use Rattle.fabric.specs.Settles.{HoldsLess, HoldsMore}
use Rattle.fabric.specs.Views.{span_of}
use Rattle.fabric_laws.proofs.Cells.{length-cells, length-many}
use Rattle.fabric.specs.Slots.{rotated}
use Rattle.fabric.proofs.Blocks.{same_words}
use Rattle.fabric.proofs.Settling.{drop_some}
use Rattle.fabric.proofs.Turns.{all_taken, drop_front, length-run, run_append, take_front}
use Rattle.fabric.proofs.Holding.{holds_less, holds_more}

module _ {T : Type 0} (tags : T → List ℕ) where
  -- a party that opens a span holds what it held
  pub holds_opened : (b : ℕ) (party : Party T) (span : Span) → holds tags b (with_open party span) ≡ holds tags b party
  unfolding holds moved
  holds_opened b party span = refl

  pub row_opened : (pool : ℕ) (party : Party T) (span : Span) (row : List Bool) → IsRow tags pool party row → IsRow tags pool (with_open party span) row
  row_opened pool party span row is = record { long = is.long; own = λ b. is.own b ∙ sym (holds_opened b party span) }

  -- and what it holds once, it held once before
  pub once_opened : (pool : ℕ) (party : Party T) (span : Span) → IsHeldOnce tags pool (with_open party span) → IsHeldOnce tags pool party
  unfolding holds moved
  once_opened pool party span once = once

  pub advance_less : (ring start count : ℕ) (v w : View T) (items : List T) → w ≡ advanced (span_of ring Put start count) items v → Owns tags v.party items
      → HoldsLess tags v items w
  advance_less ring start count v w items is owns b =
      omega (
        arith,
        ap (λ (u : View T). holds tags b u.party) is,
        holds_opened b (with_settled v.party (span_of ring Put start count) items) (rest_of (span_of ring Put start count) (length items)),
        holds_less tags ring start count v (settled (span_of ring Put start count) items v) items refl owns b,
      )

  pub advance_more : (ring start count : ℕ) (v w : View T) (items : List T) → w ≡ advanced (span_of ring Take start count) items v
      → IsHeldOnce tags v.pool v.party → HoldsMore tags v items w
  advance_more ring start count v w items is well b =
      omega (
        arith,
        ap (λ (u : View T). holds tags b u.party) is,
        holds_opened b (with_settled v.party (span_of ring Take start count) items) (rest_of (span_of ring Take start count) (length items)),
        holds_more tags ring start count v (settled (span_of ring Take start count) items v) items refl well b,
      )

  -- the first k of the items that a take shows came out, and their buffers were marked
  pub row_taken : (k : ℕ) (shown out : List T) (row later : List Bool) → out ≡ take k shown → later ≡ marked row (flat_map tags (take k out))
      → later ≡ marked row (flat_map tags (take k shown))
  row_taken k shown out row later is e =
      e ∙ ap (λ l. marked row (flat_map tags l)) (ap (take k) is ∙ all_taken (take k shown) k (omega (arith, length-take k shown)))

-- the first k slots of a row that holds the items of a take: they are emptied, and then the row is in order again
module _ {T : Type 0} (slot : ℕ → ℕ) (start count k : ℕ) (shown : List T) (fits : k ≤ count) (long : length shown ≡ count)
    (c : List (ℕ × Option T)) (has : c ≡ run slot start (map Some shown)) where
  many : length (take k shown) ≡ k
  many = omega (arith, length-take k shown, long, fits)

  parts : c ≡ run slot start (map Some (take k shown)) ++ run slot (start + k) (map Some (drop k shown))
  parts =
      has ∙ (ap (λ l. run slot start (map Some l)) (sym (take-append-drop k shown))
      ∙ (ap (run slot start) (map-append Some (take k shown) (drop k shown))
      ∙ (run_append slot start (map Some (take k shown)) (map Some (drop k shown))
      ∙ ap (λ n. run slot start (map Some (take k shown)) ++ run slot (start + n) (map Some (drop k shown))) (length-cells (take k shown) ∙ many))))

  front_long : length (run slot start (map Some (take k shown))) ≡ k
  front_long = length-run slot start (map Some (take k shown)) ∙ (length-cells (take k shown) ∙ many)

  behind : drop k c ≡ run slot (start + k) (map Some (drop k shown))
  behind =
      ap (drop k) parts
      ∙ (ap (λ n. drop n (run slot start (map Some (take k shown)) ++ run slot (start + k) (map Some (drop k shown)))) (sym front_long)
      ∙ drop_front (run slot start (map Some (take k shown))) (run slot (start + k) (map Some (drop k shown))))

  rest_long : length (drop k c) ≡ count - k
  rest_long =
      ap length behind ∙ (length-run slot (start + k) (map Some (drop k shown)) ∙ (length-cells (drop k shown) ∙ (length-drop k shown ∙ ap (λ n. n - k) long)))

  pub words_start : c ≡ run slot start (map Some (take k shown)) ++ drop k c
  words_start = parts ∙ ap (λ l. run slot start (map Some (take k shown)) ++ l) (sym behind)

  pub words_many : length (take k shown) ≡ k
  words_many = many

  -- what was read
  pub words_are : (found : List T) → length found ≡ k → c ≡ run slot start (map Some found) ++ drop k c → found ≡ take k shown
  words_are found same e = same_words slot start found (take k shown) (drop k c) (drop k c) (same ∙ sym many) (sym e ∙ words_start)

  module _ (d : List (ℕ × Option T)) (emptied : d ≡ drop k c ++ run slot start (replicate k None)) where
    pub turn_long : count - k ≤ length d
    turn_long = omega (arith, ap length emptied, length-append (drop k c) (run slot start (replicate k None)), rest_long)

    pub turn_ends : rotated (count - k) d ≡ run slot start (replicate k None ++ drop k (map Some shown))
    turn_ends =
        ap (rotated (count - k)) emptied
        ∙ ((λ i. drop (sym rest_long i) (drop k c ++ run slot start (replicate k None)) ++ take (sym rest_long i) (drop k c ++ run slot start (replicate k None)))
        ∙ ((λ i. drop_front (drop k c) (run slot start (replicate k None)) i ++ take_front (drop k c) (run slot start (replicate k None)) i)
        ∙ (ap (λ l. run slot start (replicate k None) ++ l) (behind
        ∙ (λ i. run slot (start + sym (length-many k (let z : Option T = None in z)) i) (sym (drop_some k shown) i)))
        ∙ sym (run_append slot start (replicate k None) (drop k (map Some shown))))))
