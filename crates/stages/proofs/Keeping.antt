-- What reader and sink still hold as items go from list to list, from chain to chain, and into the window.
use Rattle.std.proofs.Common.{◌≡◌, ◌≢◌, ℕ, zero, suc, ◌+◌, ◌≤◌, true, cond, List, [], ◌∷◌, ◌++◌, length, Option, Some, None, Result, Ok, Err, IfOk, refl, sym, ap, ◌∙◌, arith, inl, inr}
use Rattle.std.specs.Prelude.{◌==◌, ◌&&◌}
use Rattle.std.specs.List.{list_all}
use Rattle.std.specs.Result.{result_ok}
use Rattle.std.specs.Ordering.{nat_cmp}
use Rattle.std.specs.Cmp.{nat_cmp_total}
use Rattle.std.specs.FinMap as fin
use Rattle.std.specs.FinMap.{get-insert, get-remove}
use Rattle.std.proofs.lemmas.Bool.{cases_eq}
use Rattle.std.proofs.lemmas.List.{length-map, map-append}
use Rattle.std.proofs.lemmas.List.Folds.{list_all-append}
use Rattle.std.proofs.lemmas.List.Sums.{sum_by-append}
use Rattle.mbuf.specs.Buffer.{Buffer}
use Rattle.mbuf.specs.Chain.{numbers_of}
use Rattle.mbuf.specs.Links.{rest_of}
use Rattle.reorder.specs.Waiting.{Waiting, after_next, with_number}
use Rattle.ringcore_laws.specs.FreeRings.{AreSingle}
use Rattle.ringapi.proofs.Counts.{count_both}
use Rattle.burst.specs.declared.tagged.Tagged.{Ghosts}
use Rattle.fabric.specs.declared.stored.Stored.{Ghosts as StoredGhosts}
use Rattle.fabric.specs.declared.hand.Hand.{Hand}
use Rattle.stages_laws.specs.declared.run.Run.{Ghosts as RunGhosts}
use Rattle.run_one.specs.declared.packet.Judged.{Judged}
use Rattle.run_one.specs.Keyed.{LetsGo}
use Rattle.run_one.proofs.Windows.{tied, untied}
use Rattle.stages.specs.declared.threads.item.RingItem.{RingItem}
use Rattle.stages.specs.declared.threads.item.RingItem.TheVariants.{Free, Before, After, Mark}
use Rattle.stages.specs.Custody.{HoldsAll, HoldsOf, in_chain, in_items, in_numbers, in_packet, in_waiting}
use Rattle.stages.specs.Judging.{IsFree}
use Rattle.stages.specs.Numbers.{item_numbers}

-- what holds of a value that is there, holds of the result made of it
pub given_ok : {A E : Type 0} (P : A → Type 0) (r : Result A E) → ((x : A) → result_ok r ≡ Some x → P x) → IfOk r P
given_ok P (Ok x) each = each x refl
given_ok P (Err e) each = tt

pub each_ok : {A E : Type 0} {P Q : A → Type 0} (r : Result A E) → ((x : A) → P x → Q x) → IfOk r P → IfOk r Q
each_ok (Ok x) each held = each x held
each_ok (Err e) each held = held

pub in_both : (xs ys : List ℕ) (b : ℕ) → in_numbers (xs ++ ys) b ≡ in_numbers xs b + in_numbers ys b
in_both xs ys b = sum_by-append (λ n. cond (n == b) 1 0) xs ys

-- a chain taken apart
pub in_parts : (first rest chain : List Buffer) → first ++ rest ≡ chain → (b : ℕ) → in_chain chain b ≡ in_chain first b + in_chain rest b
in_parts first rest chain whole b =
    ap (λ c. in_chain c b) (sym whole) ∙ (ap (λ ns. in_numbers ns b) (map-append (λ x. x.number) first rest) ∙ in_both (numbers_of first) (numbers_of rest) b)

module _ {J : Type 0} {R : RunGhosts J} where
  -- a list whose last item is this
  pub in_last : (items : List (RingItem J R)) (x : RingItem J R) (b : ℕ)
      → in_items (items ++ x ∷ []) b ≡ in_items items b + in_numbers (item_numbers x) b
  in_last items x b = omega (arith, count_both item_numbers b items (x ∷ []))

  pub free_numbers : (x : RingItem J R) (chain : List Buffer) → IsFree x chain → item_numbers x ≡ numbers_of chain
  free_numbers (Free x) chain is = ap numbers_of is
  free_numbers (Before x) chain is = absurd is
  free_numbers (After x) chain is = absurd is
  free_numbers Mark chain is = absurd is

  -- one more single segment
  pub single_more : (items : List (RingItem J R)) (x : RingItem J R) (chain : List Buffer) → AreSingle item_numbers items → IsFree x chain → length chain ≡ 1
      → AreSingle item_numbers (items ++ x ∷ [])
  single_more items x chain single is one =
      let len : length (item_numbers x) ≡ 1 = ap length (free_numbers x chain is) ∙ (length-map chain (λ y. y.number) ∙ one) in
      list_all-append (λ y. length (item_numbers y) == 1) items (x ∷ [])
      ∙ (ap (λ b. b && list_all (λ y. length (item_numbers y) == 1) (x ∷ [])) single
      ∙ ap (λ n. (n == 1) && true) len)

  -- the same packets from n on
  pub waiting_same : (a c : fin.FinMap nat_cmp (Judged J R)) (n count b : ℕ) → ((k : ℕ) → n ≤ k → fin.get a k ≡ fin.get c k)
      → in_waiting a n count b ≡ in_waiting c n count b
  waiting_same a c n zero b same = refl
  waiting_same a c n (suc count) b same =
      omega (arith, ap (λ x. in_packet x b) (same n (omega arith)), waiting_same a c (n + 1) count b (λ k order. same k (omega (arith, order))))

  pub waiting_none : (held : fin.FinMap nat_cmp (Judged J R)) (n count b : ℕ) → ((k : ℕ) → n ≤ k → fin.get held k ≡ None)
      → in_waiting held n count b ≡ 0
  waiting_none held n zero b none = refl
  waiting_none held n (suc count) b none =
      omega (arith, ap (λ x. in_packet x b) (none n (omega arith)), waiting_none held (n + 1) count b (λ k order. none k (omega (arith, order))))

  inserted_other : (held : fin.FinMap nat_cmp (Judged J R)) (k : ℕ) (x : Judged J R) (q : ℕ) → q ≢ k → fin.get (fin.insert held k x) q ≡ fin.get held q
  inserted_other held k x q other = get-insert nat_cmp_total held k x q ∙ ap (λ b. cond b (Some x) (fin.get held q)) (untied q k other)

  removed_other : (held : fin.FinMap nat_cmp (Judged J R)) (k q : ℕ) → q ≢ k → fin.get (fin.remove held k) q ≡ fin.get held q
  removed_other held k q other = get-remove nat_cmp_total held k q ∙ ap (λ b. cond b None (fin.get held q)) (untied q k other)

  -- with one more packet
  pub waiting_with : (held : fin.FinMap nat_cmp (Judged J R)) (k : ℕ) (x : Judged J R) (n count b : ℕ)
      → in_waiting (fin.insert held k x) n count b ≤ in_waiting held n count b + in_chain x.chain b
  waiting_with held k x n zero b = omega arith
  waiting_with held k x n (suc count) b = elim (cases_eq n k) [
    | inl here ↦
        let at : fin.get (fin.insert held k x) n ≡ Some x =
        get-insert nat_cmp_total held k x n ∙ ap (λ t. cond t (Some x) (fin.get held n)) (tied n k here) in
        omega (
          arith,
          ap (λ p. in_packet p b) at,
          waiting_same (fin.insert held k x) held (n + 1) count b
              (λ q order. inserted_other held k x q (λ same. omega (arith, order, same, here))),
        )
    | inr other ↦ omega (
      arith,
      ap (λ p. in_packet p b) (inserted_other held k x n other),
      waiting_with held k x (n + 1) count b,
    )
  ]

  -- the packet whose turn it is has gone
  pub waiting_after : (w : Waiting (Judged J R)) (count b : ℕ)
      → in_waiting w.held w.next (suc count) b ≡ in_packet (fin.get w.held w.next) b + in_waiting (after_next w).held (after_next w).next count b
  waiting_after w count b =
      omega (
        arith,
        waiting_same (fin.remove w.held w.next) w.held (w.next + 1) count b
            (λ k order. removed_other w.held w.next k (λ same. omega (arith, order, same))),
      )

  module _ {S : Type 0} {G : Ghosts (RingItem J R)} {H : StoredGhosts S (RingItem J R)} where
    -- the sink: the packet in turn leaves the window
    pub of_given : (place : Option (Hand (RingItem J R) S G H)) (free : List (RingItem J R)) (w : Waiting (Judged J R)) (x : Judged J R) (others : ℕ → ℕ)
        → fin.get w.held w.next ≡ Some x → HoldsOf place free w others → HoldsOf place free (after_next w) (λ b. in_chain x.chain b + others b)
    of_given place free w x others got had count h same b =
        omega (arith, had (suc count) h same b, waiting_after w count b, ap (λ p. in_packet p b) got)

    -- a packet in turn passes it
    pub of_passed : (place : Option (Hand (RingItem J R) S G H)) (free : List (RingItem J R)) (w : Waiting (Judged J R)) (k : ℕ) (x : Judged J R) (others : ℕ → ℕ)
        → k ≡ w.next → HoldsOf place free w others → HoldsOf place free (after_next (with_number w k x)) others
    of_passed place free w k x others turn had count h same b =
        let kept : in_waiting (fin.remove (fin.insert w.held k x) w.next) (w.next + 1) count b ≡ in_waiting w.held (w.next + 1) count b =
        waiting_same (fin.remove (fin.insert w.held k x) w.next) w.held (w.next + 1) count b
        (λ q order. removed_other (fin.insert w.held k x) w.next q (λ e. omega (arith, order, e)) ∙ inserted_other w.held k x q (λ e. omega (arith, order, e, turn))) in
        omega (arith, had (suc count) h same b, kept)

    -- what `give` gave, if it gave a packet
    pub of_give : (place : Option (Hand (RingItem J R) S G H)) (free : List (RingItem J R)) (w u : Waiting (Judged J R)) (r : Option (List Buffer)) (others : ℕ → ℕ)
        → LetsGo w u r → (fin.get w.held w.next ≡ None → (r ≡ None) × (u ≡ w))
        → (got : Option (Judged J R)) → fin.get w.held w.next ≡ got → HoldsOf place free w others → HoldsOf place free u (λ b. in_chain (rest_of r) b + others b)
    of_give place free w u r others gone none None is had count h same b =
        omega (arith, had count h same b, ap (λ v. in_waiting v.held v.next count b) (none is).1, ap (λ c. in_chain (rest_of c) b) (none is).0)
    of_give place free w u r others gone none (Some x) is had count h same b =
        omega (
          arith,
          of_given place free w x others is had count h same b,
          ap (λ v. in_waiting v.held v.next count b) (gone x is).1,
          ap (λ c. in_chain (rest_of c) b) (gone x is).0,
        )

    -- what `pass` let pass
    pub of_pass : (place : Option (Hand (RingItem J R) S G H)) (free : List (RingItem J R)) (w u : Waiting (Judged J R)) (x : Judged J R) (chain : List Buffer)
        (others : ℕ → ℕ) → u ≡ after_next (with_number w x.seq x) → chain ≡ x.chain → x.seq ≡ w.next
        → HoldsOf place free w (λ b. in_chain x.chain b + others b) → HoldsOf place free u (λ b. in_chain chain b + others b)
    of_pass place free w u x chain others after is turn had count h same b =
        omega (
          arith,
          of_passed place free w x.seq x (λ n. in_chain x.chain n + others n) turn had count h same b,
          ap (λ v. in_waiting v.held v.next count b) after,
          ap (λ c. in_chain c b) is,
        )

    -- a packet joins those that wait
    pub of_joined : (place : Option (Hand (RingItem J R) S G H)) (free : List (RingItem J R)) (w : Waiting (Judged J R)) (k : ℕ) (x : Judged J R) (others : ℕ → ℕ)
        → HoldsOf place free w (λ b. in_chain x.chain b + others b) → HoldsOf place free (with_number w k x) others
    of_joined place free w k x others had count h same b = omega (arith, had count h same b, waiting_with w.held k x w.next count b)

    -- a chain's segments join those that are to be freed, or are freed
    pub of_released : (place new : Option (Hand (RingItem J R) S G H)) (free after : List (RingItem J R)) (w : Waiting (Judged J R)) (chain : List Buffer) (others : ℕ → ℕ)
        → ((o : ℕ → ℕ) → HoldsAll item_numbers place (λ b. in_items free b + (in_chain chain b + o b)) → HoldsAll item_numbers new (λ b. in_items after b + o b))
        → HoldsOf place free w (λ b. in_chain chain b + others b) → HoldsOf new after w others
    of_released place new free after w chain others kept had count =
        kept (λ b. in_waiting w.held w.next count b + others b) (λ h same b. omega (arith, had count h same b))
