-- A ring that holds words of the file, and the ring of these words
use Rattle.std.proofs.Common.{◌≡◌, ℕ, ◌-◌, List, ◌++◌, length, take, drop, Bor, ap, ap₂, sym, ◌∙◌, codes, decimal, Result, Ok, Err, OnOk}
use Rattle.std.proofs.lemmas.List.{length-map, map-append, take-map, drop-map}
use Rattle.geom.specs.Plan.{granted}
use Rattle.geom.specs.declared.plan.How.{How}
use Rattle.ringcore.specs.Fifo.{Fifo}
use Rattle.command_file.specs.Text.{Bytes, texts}
use Rattle.ring_file.specs.Replies.{ring_contents, put_count, take_count, after_put, after_take, take_text, words_text}

put_count-texts : (ring : Fifo (Bor Bytes)) (how : How) (items : List (Bor Bytes))
    → put_count (ring_contents ring) how (texts items) ≡ granted how (length items) (ring.capacity - length ring.items)
put_count-texts ring how items =
    ap₂ (λ n m. granted how n (ring.capacity - m)) (length-map items (λ item. item.now)) (length-map ring.items (λ item. item.now))

take_count-texts : (ring : Fifo (Bor Bytes)) (how : How) (n : ℕ)
    → take_count (ring_contents ring) how n ≡ granted how n (length ring.items)
take_count-texts ring how n = ap (granted how n) (length-map ring.items (λ item. item.now))

-- a put, and then its words
pub put_contents : (ring : Fifo (Bor Bytes)) (how : How) (items : List (Bor Bytes)) (count : ℕ)
    → count ≡ granted how (length items) (ring.capacity - length ring.items)
    → ring_contents record ring { items = ring.items ++ take count items } ≡ after_put (ring_contents ring) how (texts items)
put_contents ring how items count granted_is =
    let moved = granted_is ∙ sym (put_count-texts ring how items) in
    let row : texts (ring.items ++ take count items) ≡ texts ring.items ++ take (put_count (ring_contents ring) how (texts items)) (texts items) =
    map-append (λ item. item.now) ring.items (take count items)
    ∙ ap (λ xs. texts ring.items ++ xs) (sym (take-map (λ item. item.now) count items) ∙ ap (λ k. take k (texts items)) moved) in
    ap (λ xs. let made : Fifo Bytes = record { capacity = ring.capacity; items = xs } in made) row

-- a take, and then its words
pub take_contents : (ring : Fifo (Bor Bytes)) (how : How) (n count : ℕ) → count ≡ granted how n (length ring.items)
    → ring_contents record ring { items = drop count ring.items } ≡ after_take (ring_contents ring) how n
take_contents ring how n count granted_is =
    let moved = granted_is ∙ sym (take_count-texts ring how n) in
    let row : texts (drop count ring.items) ≡ drop (take_count (ring_contents ring) how n) (texts ring.items) =
    sym (drop-map (λ item. item.now) count ring.items) ∙ ap (λ k. drop k (texts ring.items)) moved in
    ap (λ xs. let made : Fifo Bytes = record { capacity = ring.capacity; items = xs } in made) row

-- the reply to a take, from what was moved
pub take_text-texts : (ring : Fifo (Bor Bytes)) (how : How) (n count left : ℕ) (given : List (Bor Bytes))
    → count ≡ granted how n (length ring.items) → left ≡ length (drop count ring.items) → given ≡ take count ring.items
    → (codes "take " ++ decimal count ++ codes " left " ++ decimal left) ++ words_text (texts given) ≡ take_text (ring_contents ring) how n
take_text-texts ring how n count left given granted_is left_is given_is =
    let moved = granted_is ∙ sym (take_count-texts ring how n) in
    let rest = left_is ∙ sym (length-map (drop count ring.items) (λ item. item.now)) ∙ ap length (sym (drop-map (λ item. item.now) count ring.items)) in
    let out = ap texts given_is ∙ sym (take-map (λ item. item.now) count ring.items) in
    ap₂ (λ m xs. (codes "take " ++ decimal count ++ codes " left " ++ decimal m) ++ words_text xs) rest out
    ∙ ap (λ k. (codes "take " ++ decimal k ++ codes " left " ++ decimal (length (drop k (texts ring.items)))) ++ words_text (take k (texts ring.items))) moved

-- what holds whatever the result holds at `Ok`
pub on_ok_always : {T E : Type 0} (r : Result T E) {P : Type 0} → P → OnOk r P
on_ok_always (Ok value) held = held
on_ok_always (Err error) held = tt
