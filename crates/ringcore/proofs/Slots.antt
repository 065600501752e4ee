-- A write into the slots of a ring, seen from its front
use Rattle.std.proofs.Common.{◌≡◌, ℕ, zero, suc, ◌+◌, ◌-◌, ◌%◌, ◌<◌, ◌≤◌, ◌⊎◌, inl, inr, List, [], ◌∷◌, ◌++◌, length, take, drop, map, set, get_or, replicate}
use Rattle.std.proofs.Common.{Option, Some, None, refl, sym, ap, ◌∙◌, arith, append_assoc, length-append, length-drop, length-set, drop-cons}
use Rattle.std.proofs.lemmas.List.{length-map, length-replicate, take-set-le, set-append_left, set-append_right, drop-set-lt, drop-set-add}
use Rattle.std.proofs.lemmas.List.{replicate-append-replicate, map-append, append-nil, set_split, take_more}
use Rattle.std.proofs.lemmas.Grind.{take-set_at}
use Rattle.std.proofs.Math.Seq.{set-append_seam, take-set-lt}
use Rattle.std.proofs.Math.ListN.{drop_of_length-le}
use Rattle.std.proofs.Math.Nat.{mod-eq-sub-mod, mod-eq_of_lt}
use Rattle.std.proofs.lemmas.Bool.{cases_lt}
use Rattle.std.specs.Prelude.{IsSome}
use Rattle.std.specs.List.{flat_map}
use Rattle.std.specs.Option.{option_to_list}
use Rattle.geom.specs.Extent.{Extent, IsExtent}
use Rattle.ringcore.specs.Fifo.{slots_from, queued, IsLaidOut}

-- a number below two laps wraps at most once
wraps_once : (n i : ℕ) → i < n + n → ((i < n) × (i % n ≡ i)) ⊎ ((n ≤ i) × (i % n ≡ i - n))
wraps_once n i below =
    elim (cases_lt i n) [
      | inl low ↦ inl (low, mod-eq_of_lt low)
      | inr high ↦ inr (high, mod-eq-sub-mod high ∙ mod-eq_of_lt (omega arith))
    ]

-- a write n slots after the front, wrapping at the end, is a write at place n
pub slots_from-set : {A : Type 0} (xs : List A) (k n i : ℕ) (v : A) → k < length xs → n < length xs → i ≡ (k + n) % length xs
    → slots_from k (set xs i v) ≡ set (slots_from k xs) n v
slots_from-set xs k n i v front there at =
    let tail_length = length-drop k xs in
    elim (wraps_once (length xs) (k + n) (omega arith)) [
      | inl low ↦
          let e : i ≡ k + n = at ∙ low.1 in
          let place : n < length (drop k xs) = omega arith in
          rw (e, drop-set-add k xs n v, take-set-le k xs (k + n) v (omega arith)) (sym (set-append_left (drop k xs) (take k xs) n v place))
      | inr high ↦
          let e : i ≡ k + n - length xs = at ∙ high.1 in
          let before : i < k = omega arith in
          let place : n - (length xs - k) ≡ i = omega arith in
          rw (drop-set-lt k xs i v before, take-set-lt k xs i v before)
          (ap (λ j. drop k xs ++ set (take k xs) j v) (sym place)
          ∙ sym (set-append_right (drop k xs) (take k xs) (length xs - k) n v (omega arith) (omega arith)))
    ]

-- a write at the front, seen from the next slot
pub slots_from-next : {A : Type 0} (xs : List A) (k i : ℕ) (v : A) → k < length xs → i ≡ (k + 1) % length xs
    → slots_from i (set xs k v) ≡ (drop (suc k) xs ++ take k xs) ++ v ∷ []
slots_from-next xs k i v front at =
    elim (wraps_once (length xs) (k + 1) (omega arith)) [
      | inl low ↦
          let e : i ≡ k + 1 = at ∙ low.1 in
          let over : suc k ≡ k + 1 = omega arith in
          rw (e, drop-set-lt (k + 1) xs k v (omega arith), take-set_at xs k (k + 1) v refl front, over)
          (sym (append_assoc (drop (k + 1) xs) (take k xs) (v ∷ [])))
      | inr high ↦
          let e : i ≡ 0 = omega arith in
          let past : length xs ≤ suc k = omega arith in
          let over = drop_of_length-le xs past in
          rw (e, append-nil (set xs k v), set_split xs k v front, over) refl
    ]

-- the values of slots that are full and then empty
present : {T : Type 0} (ys : List T) (k : ℕ) → flat_map option_to_list (map Some ys ++ replicate k None) ≡ ys
present [] zero = refl
present [] (suc k) = present [] k
present (y ∷ ys) k = ap (λ rest. y ∷ rest) (present ys k)

pub queued-laid : {T : Type 0} (slots : List (Option T)) (front k : ℕ) (ys : List T)
    → slots_from front slots ≡ map Some ys ++ replicate k None → queued front slots ≡ ys
queued-laid slots front k ys laid = ap (flat_map option_to_list) laid ∙ present ys k

-- the slots as one row of items and then nothing
pub laid_from : {T : Type 0} (e : Extent) (slots : List (Option T)) (front count : ℕ) (ys : List T)
    → IsExtent e → length slots ≡ e.size → front < e.size → length ys ≡ count → count ≤ e.capacity
    → slots_from front slots ≡ map Some ys ++ replicate (e.size - count) None → IsLaidOut e slots front count
laid_from e slots front count ys extent sized within counted bounded laid =
    let items = queued-laid slots front (e.size - count) ys laid in
    record {
      extent = extent;
      sized = sized;
      within = within;
      bounded = bounded;
      counted = ap length items ∙ counted;
      laid = laid ∙ ap (λ zs. map Some zs ++ replicate (e.size - count) None) (sym items);
    }

-- one more place before the vacant ones
vacant_one : {T : Type 0} (n k : ℕ) → k < n → replicate {A = Option T} (n - k) None ≡ None ∷ replicate (n - (k + 1)) None
vacant_one n k h = let one : n - k ≡ suc (n - (k + 1)) = omega arith in ap (λ j. replicate j None) one

vacant_more : {T : Type 0} (n k : ℕ) → 0 < k → k ≤ n → replicate {A = Option T} (n - k) None ++ None ∷ [] ≡ replicate (n - (k - 1)) None
vacant_more n k some h =
    let more : n - k + 1 ≡ n - (k - 1) = omega arith in
    replicate-append-replicate (n - k) 1 None ∙ ap (λ j. replicate j None) more

-- ---- a push

pushed_row : {T : Type 0} (e : Extent) (slots : List (Option T)) (front count i : ℕ) (x : T)
    → IsLaidOut e slots front count → count < e.capacity → i ≡ (front + count) % e.size
    → slots_from front (set slots i (Some x)) ≡ map Some (queued front slots ++ x ∷ []) ++ replicate (e.size - (count + 1)) None
pushed_row e slots front count i x old room at =
    let spare = old.extent.spare in
    let ys = queued front slots in
    let sized = old.sized in
    let near : front < length slots = let w = old.within in omega arith in
    let place : i ≡ (front + count) % length slots = at ∙ ap (λ n. (front + count) % n) (sym sized) in
    let there : count < length slots = omega arith in
    let row = old.laid ∙ ap (λ v. map Some ys ++ v) (vacant_one e.size count (omega arith)) in
    let at_end : length (map Some ys) ≡ count = length-map ys Some ∙ old.counted in
    slots_from-set slots front count i (Some x) near there place
    ∙ ap (λ r. set r count (Some x)) row
    ∙ ap (λ n. set (map Some ys ++ None ∷ replicate (e.size - (count + 1)) None) n (Some x)) (sym at_end)
    ∙ set-append_seam (map Some ys) None (replicate (e.size - (count + 1)) None) (Some x)
    ∙ sym (rw (map-append Some ys (x ∷ [])) (append_assoc (map Some ys) (Some x ∷ []) (replicate (e.size - (count + 1)) None)))

pub pushed : {T : Type 0} (e : Extent) (slots : List (Option T)) (front count i : ℕ) (x : T)
    → IsLaidOut e slots front count → count < e.capacity → i ≡ (front + count) % e.size
    → IsLaidOut e (set slots i (Some x)) front (count + 1)
pushed e slots front count i x old room at =
    let longer : length (queued front slots ++ x ∷ []) ≡ count + 1 = length-append (queued front slots) (x ∷ []) ∙ ap (λ n. n + 1) old.counted in
    laid_from e (set slots i (Some x)) front (count + 1) (queued front slots ++ x ∷ []) old.extent (length-set slots i (Some x) ∙ old.sized)
    old.within longer (omega arith) (pushed_row e slots front count i x old room at)

pub queued-pushed : {T : Type 0} (e : Extent) (slots : List (Option T)) (front count i : ℕ) (x : T)
    → IsLaidOut e slots front count → count < e.capacity → i ≡ (front + count) % e.size
    → queued front (set slots i (Some x)) ≡ queued front slots ++ x ∷ []
queued-pushed e slots front count i x old room at =
    queued-laid (set slots i (Some x)) front (e.size - (count + 1)) (queued front slots ++ x ∷ []) (pushed_row e slots front count i x old room at)

-- ---- a pop

-- the row from the front on, as the front slot and the others
row-front : {T : Type 0} (slots : List (Option T)) (front : ℕ) (d : Option T) → front < length slots
    → slots_from front slots ≡ get_or slots front d ∷ (drop (suc front) slots ++ take front slots)
row-front slots front d h = ap (λ r. r ++ take front slots) (drop-cons slots front d h)

head_is : {A : Type 0} (x y : A) (xs ys : List A) → x ∷ xs ≡ y ∷ ys → x ≡ y
head_is x y xs ys e = cc

tail_is : {A : Type 0} (x y : A) (xs ys : List A) → x ∷ xs ≡ y ∷ ys → xs ≡ ys
tail_is x y xs ys e = cc

-- what the slots are once the front one is emptied
pub record Popped {T : Type 0} (e : Extent) (slots : List (Option T)) (front count next : ℕ) (item : Option T) : Type 0 where
  pub laid : IsLaidOut e (set slots front None) next (count - 1)
  pub items : queued front slots ≡ option_to_list item ++ queued next (set slots front None)
  pub some : IsSome item

popped_by : {T : Type 0} (e : Extent) (slots : List (Option T)) (front count next : ℕ) (item : Option T) (ys : List T)
    → IsExtent e → length slots ≡ e.size → front < e.size → 0 < count → count ≤ e.capacity → next < e.size → length ys ≡ count
    → slots_from front slots ≡ map Some ys ++ replicate (e.size - count) None
    → next ≡ (front + 1) % e.size → item ≡ get_or slots front item → Popped e slots front count next item
popped_by e slots front count next item [] extent sized within some bounded inside counted laid at item_is = absurd (omega arith)
popped_by e slots front count next item (y ∷ ys) extent sized within some bounded inside counted laid at item_is =
    let spare = extent.spare in
    let near : front < length slots = omega arith in
    let k = e.size - count in
    let row = sym (row-front slots front item near) ∙ laid in
    let is_y : item ≡ Some y =
    item_is ∙ head_is (get_or slots front item) (Some y) (drop (suc front) slots ++ take front slots) (map Some ys ++ replicate k None) row in
    let rest = tail_is (get_or slots front item) (Some y) (drop (suc front) slots ++ take front slots) (map Some ys ++ replicate k None) row in
    let place : next ≡ (front + 1) % length slots = at ∙ ap (λ n. (front + 1) % n) (sym sized) in
    let after : slots_from next (set slots front None) ≡ map Some ys ++ replicate (e.size - (count - 1)) None =
    slots_from-next slots front next None near place
    ∙ ap (λ r. r ++ None ∷ []) rest
    ∙ append_assoc (map Some ys) (replicate k None) (None ∷ [])
    ∙ ap (λ v. map Some ys ++ v) (vacant_more e.size count some (omega arith)) in
    let fewer : length ys ≡ count - 1 = omega arith in
    record {
      laid = laid_from e (set slots front None) next (count - 1) ys extent (length-set slots front None ∙ sized) inside fewer (omega arith) after;
      items =
          queued-laid slots front k (y ∷ ys) laid
          ∙ sym (rw (is_y, queued-laid (set slots front None) next (e.size - (count - 1)) ys after) refl);
      some = rw is_y refl;
    }

pub popped : {T : Type 0} (e : Extent) (slots : List (Option T)) (front count next : ℕ) (item : Option T)
    → IsLaidOut e slots front count → 0 < count → next < e.size → next ≡ (front + 1) % e.size → item ≡ get_or slots front item
    → Popped e slots front count next item
popped e slots front count next item old some inside at item_is =
    popped_by e slots front count next item (queued front slots) old.extent old.sized old.within some old.bounded inside old.counted old.laid at item_is

-- ---- an empty ring

pub emptied : {T : Type 0} (e : Extent) (slots : List (Option T)) → IsExtent e → slots ≡ replicate e.size None → IsLaidOut e slots 0 0
emptied e slots extent all =
    laid_from e slots 0 0 [] extent (ap length all ∙ length-replicate e.size None) (let s = extent.spare in omega arith) refl (omega arith)
    (append-nil slots ∙ all ∙ ap (λ n. replicate n None) (let whole : e.size ≡ e.size - 0 = omega arith in whole))

pub queued-emptied : {T : Type 0} (size : ℕ) (slots : List (Option T)) → slots ≡ replicate size None → queued 0 slots ≡ []
queued-emptied size slots all = queued-laid slots 0 size [] (append-nil slots ∙ all)

-- ---- a run of pops

-- one more element off the front of a list
pub taken_one : {T : Type 0} (xs rest : List T) (x : T) (k : ℕ) → k < length xs → drop k xs ≡ x ∷ rest
    → (rest ≡ drop (k + 1) xs) × (take k xs ++ x ∷ [] ≡ take (k + 1) xs)
taken_one xs rest x k there front =
    let row = sym front ∙ drop-cons xs k x there in
    let one : suc k ≡ k + 1 = omega arith in
    let first = head_is x (get_or xs k x) rest (drop (suc k) xs) row in (
      tail_is x (get_or xs k x) rest (drop (suc k) xs) row ∙ ap (λ n. drop n xs) one,
      ap (λ y. take k xs ++ y ∷ []) first ∙ sym (take_more xs k x there),
    )
