-- Packets up to an end mark, and what becomes of them, pair by pair.
use Rattle.std.proofs.Common.{◌⊎◌, ◌≡◌, ℕ, zero, suc, ◌+◌, ◌≤◌, inl, inr, Bool, true, false, List, [], ◌∷◌, ◌++◌, length, take, slice_get, Some, refl, sym, ap}
use Rattle.std.proofs.Common.{◌∙◌, arith, ◌||◌}
use Rattle.stages_laws.specs.declared.run.Run.{Ghosts}
use Rattle.stages.specs.declared.threads.item.RingItem.{RingItem}
use Rattle.stages.specs.declared.threads.item.RingItem.TheVariants.{Free, Before, After, Mark}
use Rattle.ringcore_laws.specs.Sound.{occurrences, occurrences_in}
use Rattle.std.proofs.lemmas.List.Sums.{sum_by-cons}
use Rattle.stages_laws.specs.Output.{Forwarding}
use Rattle.stages.specs.Numbers.{item_numbers}
use Rattle.stages.specs.Judging.{AllPairs, IsJudged, has_mark, is_mark, until_mark}

two : (b : Bool) → (b ≡ true) ⊎ (b ≡ false)
two true = inl refl
two false = inr refl

pub as_many : {X Y : Type 0} (R : X → Y → Type 0) (xs : List X) (ys : List Y) → AllPairs R xs ys → length ys ≡ length xs
as_many R [] [] pairs = refl
as_many R [] (y ∷ ys) pairs = absurd pairs
as_many R (x ∷ xs) [] pairs = absurd pairs
as_many R (x ∷ xs) (y ∷ ys) pairs = ap suc (as_many R xs ys pairs.1)

pub pairs_append : {X Y : Type 0} (R : X → Y → Type 0) (xs : List X) (bs : List Y) (cs : List X) (ds : List Y) → AllPairs R xs bs
    → AllPairs R cs ds → AllPairs R (xs ++ cs) (bs ++ ds)
pairs_append R [] [] cs ds p q = q
pairs_append R [] (b ∷ bs) cs ds p q = absurd p
pairs_append R (a ∷ xs) [] cs ds p q = absurd p
pairs_append R (a ∷ xs) (b ∷ bs) cs ds p q = (p.0, pairs_append R xs bs cs ds p.1 q)

pub take_all : {X : Type 0} (xs : List X) (n : ℕ) → length xs ≤ n → take n xs ≡ xs
take_all [] zero le = refl
take_all [] (suc n) le = refl
take_all (x ∷ xs) zero le = absurd (omega (arith, le))
take_all (x ∷ xs) (suc n) le = ap (λ ys. x ∷ ys) (take_all xs n (omega (arith, le)))

module _ {J : Type 0} {G : Ghosts J} where
  mark_past : (q : RingItem J G) (qs : List (RingItem J G)) → is_mark q ≡ false → has_mark (q ∷ qs) ≡ has_mark qs
  mark_past q qs e = rw e refl

  mark_first : (q : RingItem J G) (qs : List (RingItem J G)) → is_mark q ≡ true → has_mark (q ∷ qs) ≡ true
  mark_first q qs e = rw e refl

  first_alone : (q : RingItem J G) (qs : List (RingItem J G)) → is_mark q ≡ true → until_mark (q ∷ qs) ≡ q ∷ []
  first_alone q qs e = rw e refl

  first_kept : (q : RingItem J G) (qs : List (RingItem J G)) → is_mark q ≡ false → until_mark (q ∷ qs) ≡ q ∷ until_mark qs
  first_kept q qs e = rw e refl

  head_clear : (q : RingItem J G) (qs : List (RingItem J G)) → has_mark (q ∷ qs) ≡ false → is_mark q ≡ false
  head_clear q qs clear = elim (two (is_mark q)) [
    | inl e ↦ absurd (cc (sym (mark_first q qs e) ∙ clear))
    | inr e ↦ e
  ]

  tail_clear : (q : RingItem J G) (qs : List (RingItem J G)) → has_mark (q ∷ qs) ≡ false → has_mark qs ≡ false
  tail_clear q qs clear = sym (mark_past q qs (head_clear q qs clear)) ∙ clear

  pub cut_twice : (ps : List (RingItem J G)) → until_mark (until_mark ps) ≡ until_mark ps
  cut_twice [] = refl
  cut_twice (p ∷ ps) = let ih = cut_twice ps in elim (two (is_mark p)) [
    | inl e ↦ ap until_mark (first_alone p ps e) ∙ (first_alone p [] e ∙ sym (first_alone p ps e))
    | inr e ↦ ap until_mark (first_kept p ps e) ∙ (first_kept p (until_mark ps) e ∙ (ap (λ qs. p ∷ qs) ih ∙ sym (first_kept p ps e)))
  ]

  only_mark : (q : RingItem J G) → is_mark q ≡ true → q ≡ Mark
  only_mark (Free chain) e = absurd (cc e)
  only_mark (Before x) e = absurd (cc e)
  only_mark (After x) e = absurd (cc e)
  only_mark Mark e = refl

  pub until_here : (ps : List (RingItem J G)) (i : ℕ) (p : RingItem J G) → has_mark (take i ps) ≡ false → slice_get ps i ≡ Some p → is_mark p ≡ true
      → take (i + 1) ps ≡ until_mark ps
  until_here [] i p clear at mark = absurd (cc at)
  until_here (q ∷ ps) zero p clear at mark =
      let same : q ≡ p = cc at in
      let e : is_mark q ≡ true = ap is_mark same ∙ mark in rw e refl
  until_here (q ∷ ps) (suc i) p clear at mark = elim (two (is_mark q)) [
    | inl e ↦ absurd (cc (sym (head_clear q (take i ps) clear) ∙ e))
    | inr e ↦
        let n : suc i + 1 ≡ suc (i + 1) = omega arith in
        let ih = until_here ps i p (tail_clear q (take i ps) clear) at mark in rw (n, e) (ap (λ qs. q ∷ qs) ih)
  ]

  pub none_more : (ps : List (RingItem J G)) (i : ℕ) (p : RingItem J G) → has_mark (take i ps) ≡ false → slice_get ps i ≡ Some p → is_mark p ≡ false
      → has_mark (take (i + 1) ps) ≡ false
  none_more [] i p clear at mark = absurd (cc at)
  none_more (q ∷ ps) zero p clear at mark =
      let same : q ≡ p = cc at in
      let e : is_mark q ≡ false = ap is_mark same ∙ mark in rw e refl
  none_more (q ∷ ps) (suc i) p clear at mark = elim (two (is_mark q)) [
    | inl e ↦ absurd (cc (sym (head_clear q (take i ps) clear) ∙ e))
    | inr e ↦
        let n : suc i + 1 ≡ suc (i + 1) = omega arith in
        let ih = none_more ps i p (tail_clear q (take i ps) clear) at mark in rw (n, e) ih
  ]

  pub none_at_all : (ps : List (RingItem J G)) → has_mark ps ≡ false → until_mark ps ≡ ps
  none_at_all [] clear = refl
  none_at_all (q ∷ ps) clear = elim (two (is_mark q)) [
    | inl e ↦ absurd (cc (sym (head_clear q ps clear) ∙ e))
    | inr e ↦ let ih = none_at_all ps (tail_clear q ps clear) in rw e (ap (λ qs. q ∷ qs) ih)
  ]

  pub mark_append : (ps qs : List (RingItem J G)) → has_mark ps ≡ false → has_mark (ps ++ qs) ≡ has_mark qs
  mark_append [] qs clear = refl
  mark_append (p ∷ ps) qs clear = let ih = mark_append ps qs (tail_clear p ps clear) in
      let e = head_clear p ps clear in rw e ih

  -- packets up to an end mark, one of which is an end mark, end with it
  pub ends_in_mark : (ps : List (RingItem J G)) → until_mark ps ≡ ps → has_mark ps ≡ true
      → (front : List (RingItem J G)) × (ps ≡ front ++ Mark ∷ []) × (has_mark front ≡ false)
  ends_in_mark [] cut mark = absurd (cc mark)
  ends_in_mark (p ∷ ps) cut mark = elim (two (is_mark p)) [
    | inl e ↦
        let short : p ∷ [] ≡ p ∷ ps = sym (first_alone p ps e) ∙ cut in
        let none : ps ≡ [] = cc short in (
          [],
          ap (λ q. q ∷ ps) (only_mark p e) ∙ ap (λ qs. Mark ∷ qs) none,
          refl,
        )
    | inr e ↦
        let rest : until_mark ps ≡ ps = cc (sym (first_kept p ps e) ∙ cut) in
        let there : has_mark ps ≡ true = sym (mark_past p ps e) ∙ mark in
        let ih = ends_in_mark ps rest there in (p ∷ ih.0, ap (λ qs. p ∷ qs) ih.1, mark_past p ih.0 e ∙ ih.2)
  ]

  -- one more packet
  pub mark_more : (ps : List (RingItem J G)) (q : RingItem J G) → has_mark (ps ++ q ∷ []) ≡ (has_mark ps || is_mark q)
  mark_more [] q = elim (two (is_mark q)) [ inl e ↦ mark_first q [] e ∙ sym e | inr e ↦ mark_past q [] e ∙ sym e ]
  mark_more (p ∷ ps) q = let ih = mark_more ps q in elim (two (is_mark p)) [
    | inl e ↦ mark_first p (ps ++ q ∷ []) e ∙ ap (λ b. b || is_mark q) (sym (mark_first p ps e))
    | inr e ↦ mark_past p (ps ++ q ∷ []) e ∙ (ih ∙ ap (λ b. b || is_mark q) (sym (mark_past p ps e)))
  ]

  -- what becomes of packets before an end mark, and of the mark
  pub judged_to_mark : (forwarding : Forwarding) (front sent : List (RingItem J G)) → AllPairs (IsJudged forwarding) (front ++ Mark ∷ []) sent
      → (before : List (RingItem J G)) × (sent ≡ before ++ Mark ∷ []) × AllPairs (IsJudged forwarding) front before
  judged_to_mark forwarding [] [] pairs = absurd pairs
  judged_to_mark forwarding [] (s ∷ []) pairs = ([], ap (λ q. q ∷ []) pairs.0, tt)
  judged_to_mark forwarding [] (s ∷ t ∷ sent) pairs = absurd pairs.1
  judged_to_mark forwarding (p ∷ front) [] pairs = absurd pairs
  judged_to_mark forwarding (p ∷ front) (s ∷ sent) pairs =
      let ih = judged_to_mark forwarding front sent pairs.1 in (s ∷ ih.0, ap (λ qs. s ∷ qs) ih.1, (pairs.0, ih.2))

  same_numbers : (forwarding : Forwarding) (p q : RingItem J G) → IsJudged forwarding p q → item_numbers q ≡ item_numbers p
  same_numbers forwarding (Free x) q is = ap item_numbers is
  same_numbers forwarding (Before x) (Free y) is = absurd is
  same_numbers forwarding (Before x) (Before y) is = absurd is
  same_numbers forwarding (Before x) (After y) is = is.numbers
  same_numbers forwarding (Before x) Mark is = absurd is
  same_numbers forwarding (After x) q is = ap item_numbers is
  same_numbers forwarding Mark q is = ap item_numbers is

  -- a verdict moves no buffer
  pub same_buffers : (forwarding : Forwarding) (b : ℕ) (ps qs : List (RingItem J G)) → AllPairs (IsJudged forwarding) ps qs
      → occurrences_in item_numbers b qs ≡ occurrences_in item_numbers b ps
  same_buffers forwarding b [] [] pairs = refl
  same_buffers forwarding b [] (q ∷ qs) pairs = absurd pairs
  same_buffers forwarding b (p ∷ ps) [] pairs = absurd pairs
  same_buffers forwarding b (p ∷ ps) (q ∷ qs) pairs =
      omega (
        arith,
        sum_by-cons (λ x. occurrences b (item_numbers x)) q qs,
        sum_by-cons (λ x. occurrences b (item_numbers x)) p ps,
        ap (occurrences b) (same_numbers forwarding p q pairs.0),
        same_buffers forwarding b ps qs pairs.1,
      )
