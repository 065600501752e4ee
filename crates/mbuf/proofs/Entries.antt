-- What a table of shares keeps when one is added, narrowed or removed.
use Rattle.std.proofs.Common.{◌≡◌, ◌+◌, ◌-◌, ◌<◌, ◌≤◌, ◌==◌, ℕ, suc, Bool, true, false, cond, ◌||◌, inl, inr, List, [], ◌∷◌, ◌++◌, length, map, take, drop}
use Rattle.std.proofs.Common.{filter, get_or, set, sym, refl, ap, ◌∙◌, subst, Option, Some, IsSome, arith}
use Rattle.std.specs.Prelude.{remove, All}
use Rattle.std.specs.List.{count_by, sum_by, list_any}
use Rattle.std.proofs.lemmas.Bool.{cases_lt}
use Rattle.std.proofs.lemmas.Bool.Decides.{eqb_tells}
use Rattle.std.proofs.lemmas.List.{length-drop, length-map, length-take-le, take-take, drop-take, drop-drop, map-append, map-set, get_or-map, take-map}
use Rattle.std.proofs.lemmas.List.{drop-map}
use Rattle.std.proofs.lemmas.List.Edits.{get_or-remove_below, get_or-remove_above, length-remove}
use Rattle.std.proofs.lemmas.List.Elements.{All-set, All-cons}
use Rattle.std.proofs.lemmas.List.Sums.{sum_by-cons, sum_by-set, sum_by-le, get_or-le-sum_by}
use Rattle.slab.specs.Slab.{Slab, get, SameValues}
use Rattle.burst.specs.Numbers.{times}
use Rattle.mbuf.specs.Buffer.{Buffer}
use Rattle.mbuf.specs.Chain.{numbers_of, bytes_of, fresh_of}
use Rattle.mbuf.specs.Links.{rest_of}
use Rattle.mbuf.specs.Deck.{Share, mentions_of, share_at, narrowed}
use Rattle.mbuf.specs.declared.entry.Entry.{Entry}
use Rattle.mbuf.specs.Entries.{packet_at, kept_by, live_of, IsKept, IsTable}
use Rattle.mbuf.proofs.Chains.{numbers_fresh}

-- ---- lists
module _ {X : Type 0} where
  pub map_same : {Y : Type 0} (f g : X → Y) (xs : List X) → All (λ x. f x ≡ g x) xs → map f xs ≡ map g xs
  map_same f g [] same = refl
  map_same f g (x ∷ xs) same = λ k. same 0 x (omega arith) k ∷ map_same f g xs (λ i d below. same (suc i) d (omega arith)) k

  pub All-remove : (P : X → Type 0) (xs : List X) (i : ℕ) → i < length xs → All P xs → All P (remove xs i)
  All-remove P xs i there all k d below = elim (cases_lt k i) [
    | inl less ↦ subst P (sym (get_or-remove_below xs i d k less there)) (all k d (omega (arith, length-remove xs i there)))
    | inr more ↦ subst P (sym (get_or-remove_above xs i d k more there)) (all (k + 1) d (omega (arith, length-remove xs i there)))
  ]

  pub none_passes : (p : X → Bool) (xs : List X) → list_any p xs ≡ false → All (λ x. p x ≡ false) xs
  none_passes p [] none = λ k d below. absurd (omega arith)
  none_passes p (x ∷ xs) none = by_test (p x) refl none (none_passes p xs)
    where
      by_test : (t : Bool) → p x ≡ t → (t || list_any p xs) ≡ false → (list_any p xs ≡ false → All (λ x. p x ≡ false) xs) → All (λ x. p x ≡ false) (x ∷ xs)
      by_test true e h rest = absurd (cc)
      by_test false e h rest = All-cons (λ x. p x ≡ false) x xs e (rest h)

  pub filter_all : (p : X → Bool) (xs : List X) → All (λ x. p x ≡ true) xs → filter p xs ≡ xs
  filter_all p [] all = refl
  filter_all p (x ∷ xs) all =
      (λ k. cond (all 0 x (omega arith) k) (x ∷ filter p xs) (filter p xs))
      ∙ ap (λ (l : List X). x ∷ l) (filter_all p xs (λ i d below. all (suc i) d (omega arith)))

  pub filter_none : (p : X → Bool) (xs : List X) → All (λ x. p x ≡ false) xs → filter p xs ≡ []
  filter_none p [] all = refl
  filter_none p (x ∷ xs) all =
      (λ k. cond (all 0 x (omega arith) k) (x ∷ filter p xs) (filter p xs)) ∙ filter_none p xs (λ i d below. all (suc i) d (omega arith))

  pub sum_by_none : (f : X → ℕ) (xs : List X) → All (λ x. f x ≡ 0) xs → sum_by f xs ≡ 0
  sum_by_none f xs all = omega (arith, sum_by-le f 0 xs (λ k d below. omega (arith, all k d below)))

  pub map_remove : {Y : Type 0} (f : X → Y) (xs : List X) (i : ℕ) → map f (remove xs i) ≡ remove (map f xs) i
  map_remove f xs i = map-append f (take i xs) (drop (suc i) xs) ∙ (λ k. sym (take-map f i xs) k ++ sym (drop-map f (suc i) xs) k)

-- ---- what an entry stores depends only on its own packet
module _ (packets later : Slab (List Buffer)) where
  pub same_share : (entry : Entry) → get later entry.packet ≡ get packets entry.packet → kept_by later entry ≡ kept_by packets entry
  same_share entry e = λ k. record { id = entry.id; mentions = fresh_of (rest_of (e k)); bytes = take entry.len (drop entry.from (bytes_of (rest_of (e k)))) }

  pub same_kept : (entry : Entry) → get later entry.packet ≡ get packets entry.packet → IsKept packets entry → IsKept later entry
  same_kept entry e is =
      record {
        stored = e ∙ is.stored ∙ ap (λ (o : Option (List Buffer)). Some (rest_of o)) (sym e);
        within =
            subst (λ (o : Option (List Buffer)). entry.from + entry.len ≤ length (bytes_of (rest_of o))) (sym e) is.within;
        fits = is.fits;
      }

  pub same_live : (entries : List Entry) → All (λ entry. get later entry.packet ≡ get packets entry.packet) entries
      → live_of later entries ≡ live_of packets entries
  same_live entries same = map_same (kept_by later) (kept_by packets) entries (λ k d below. same_share (get_or entries k d) (same k d below))

  pub table_same : (entries : List Entry) → SameValues packets later → IsTable packets entries → IsTable later entries
  table_same entries same is = record {
    kept = λ k d below. same_kept (get_or entries k d) (same (get_or entries k d).packet) (is.kept k d below);
    named = λ key some. is.named key (subst IsSome (same key) some);
    apart = λ key other number differ some. ap (λ (o : Option (List Buffer)). times number (numbers_of (rest_of o))) (same other)
        ∙ is.apart key other number differ (subst (λ (o : Option (List Buffer)). 0 < times number (numbers_of (rest_of o))) (same key) some);
  }

-- how often entries name a packet
abbrev pub naming : ℕ → List Entry → ℕ
naming key entries = count_by (λ entry. entry.packet == key) entries

-- whether an entry names the packet
abbrev pub one_if : Bool → ℕ
one_if b = cond b 1 0

-- a packet that an entry names is mentioned by its share
pub mentioned : (packets : Slab (List Buffer)) (entries : List Entry) (i number : ℕ) (d : Entry) → i < length entries
    → times number (numbers_of (packet_at packets (get_or entries i d).packet)) ≤ mentions_of number (live_of packets entries)
mentioned packets entries i number d there =
    let count = λ (share : Share). times number (numbers_of share.mentions) in
    let here = get_or-map (kept_by packets) entries i d (kept_by packets d) there in
    omega (
      arith,
      get_or-le-sum_by count (live_of packets entries) i (kept_by packets d) (omega (arith, length-map entries (kept_by packets))),
      ap count here,
      ap (times number) (numbers_fresh (packet_at packets (get_or entries i d).packet)),
    )

pub named_somewhere : (entries : List Entry) (key : ℕ) → 0 < naming key entries → (i : ℕ) × (d : Entry) × (i < length entries)
    × ((get_or entries i d).packet ≡ key)
named_somewhere [] key some = absurd (omega arith)
named_somewhere (entry ∷ entries) key some = elim (eqb_tells entry.packet key) [
  | inl here ↦ (0, entry, omega arith, here.1)
  | inr else ↦ let rest =
      named_somewhere entries key (omega (arith, sum_by-cons (λ (entry : Entry). one_if (entry.packet == key)) entry entries, ap one_if else.0)) in
      (suc rest.0, rest.1, omega (arith, rest.2), rest.3)
]

-- ---- narrowing
narrowed_part : (from more n len : ℕ) (bytes : List ℕ) → more + n ≤ len → take n (drop (from + more) bytes) ≡ take n (drop more (take len (drop from bytes)))
narrowed_part from more n len bytes fits =
    let split : len ≡ more + (len - more) = omega arith in
    sym (ap (λ k. take n (drop more (take k (drop from bytes)))) split
    ∙ ap (take n) (drop-take more (len - more) (drop from bytes))
    ∙ take-take n (len - more) (drop more (drop from bytes)) (omega arith)
    ∙ ap (take n) (drop-drop more from bytes))

module _ (packets : Slab (List Buffer)) (entries : List Entry) (place : ℕ) (entry : Entry) (there : place < length entries)
    (here : entry ≡ get_or entries place entry) where
  pub share_here : share_at (live_of packets entries) place ≡ kept_by packets entry
  share_here = get_or-map (kept_by packets) entries place entry (record { id = 0; mentions = []; bytes = [] }) there ∙ ap (kept_by packets) (sym here)

  pub kept_here : IsTable packets entries → IsKept packets entry
  kept_here is = subst (IsKept packets) (sym here) (is.kept place entry there)

  pub narrow_live : (from n : ℕ) → from + n ≤ entry.len
      → live_of packets (set entries place (record entry { from = entry.from + from; len = n }))
      ≡ set (live_of packets entries) place (narrowed from n (share_at (live_of packets entries) place))
  narrow_live from n fits =
      let bytes = bytes_of (packet_at packets entry.packet) in
      map-set (kept_by packets) entries place (record entry { from = entry.from + from; len = n })
      ∙ ap (set (live_of packets entries) place) ((λ k. record (kept_by packets entry) { bytes = narrowed_part entry.from from n entry.len bytes fits k })
      ∙ ap (narrowed from n) (sym share_here))

  pub narrow_table : (from n : ℕ) → from + n ≤ entry.len → IsTable packets entries
      → IsTable packets (set entries place (record entry { from = entry.from + from; len = n }))
  narrow_table from n fits is =
      let is_here = kept_here is in
      let later : Entry = record entry { from = entry.from + from; len = n } in
      record {
        kept = All-set (IsKept packets) entries place later (record
            { stored = is_here.stored; within = omega (arith, is_here.within); fits = omega (arith, is_here.fits) }) is.kept;
        named = λ key some. omega (
          arith,
          is.named key some,
          sum_by-set (λ (entry : Entry). one_if (entry.packet == key)) entries place later entry there,
          ap (λ (s : Entry). one_if (s.packet == key)) here,
        );
        apart = is.apart;
      }

-- an entry that was read at an index of the shares
pub record IsRead (packets : Slab (List Buffer)) (entries : List Entry) (live : List Share) (place : ℕ) (entry : Entry) : Type 0 where
  pub there : place < length entries
  pub share : share_at live place ≡ kept_by packets entry
  pub long : length (share_at live place).bytes ≡ entry.len
  pub kept : IsKept packets entry

pub read_at : (packets : Slab (List Buffer)) (entries : List Entry) (live : List Share) (place : ℕ) (entry : Entry) → live_of packets entries ≡ live
    → place < length live → entry ≡ get_or entries place entry → IsTable packets entries → IsRead packets entries live place entry
read_at packets entries live place entry view below here is =
    let there : place < length entries = omega (arith, ap length view, length-map entries (kept_by packets)) in
    let kept = kept_here packets entries place entry there here is in
    let share : share_at live place ≡ kept_by packets entry =
    ap (λ (l : List Share). share_at l place) (sym view) ∙ share_here packets entries place entry there here in
    let bytes = bytes_of (packet_at packets entry.packet) in
    record {
      there = there;
      share = share;
      long = ap (λ (s : Share). length s.bytes) share ∙ length-take-le entry.len (drop entry.from bytes)
          (omega (arith, kept.within, length-drop entry.from bytes));
      kept = kept;
    }
