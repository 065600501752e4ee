-- What whole puts and takes change in the view of a hand: the items that it settled, and its own items.
use Rattle.std.proofs.Common.{◌≡◌, ℕ, ◌-◌, ◌<◌, ◌≤◌, List, [], ◌∷◌, ◌++◌, length, take, Bool, true, false, refl, sym, ap, ◌∙◌, subst, arith, append-nil}
use Rattle.std.proofs.Common.{append_assoc}
use Rattle.std.specs.Prelude.{◌==◌, ◌&&◌, if◌then◌else◌}
use Rattle.std.proofs.lemmas.Bool.Decides.{nat_tests}
use Rattle.geom.specs.declared.plan.How.{How}
use Rattle.geom.specs.declared.plan.RingPlan.{RingPlan}
use Rattle.geom.specs.declared.plan.Side.TheVariants.{Put, Take}
use Rattle.ringcore_laws.specs.declared.party.Party.{Party}
use Rattle.ringcore_laws.specs.declared.party.Settled.{Settled}
use Rattle.ringcore_laws.specs.Party.{with_settled}
use Rattle.ringcore_laws.specs.Sound.{holds, occurrences_in}
use Rattle.burst.specs.declared.tagged.Tagged.{Ghosts}
use Rattle.fabric.specs.declared.stored.Stored.{Ghosts as StoredGhosts}
use Rattle.fabric_laws.specs.declared.view.View.{View}
use Rattle.fabric_laws.specs.Changes.{settled}
use Rattle.fabric_laws.specs.Kinds.{IsHeldOnce}
use Rattle.fabric.specs.declared.hand.Hand.{Hand}
use Rattle.fabric.specs.declared.hand.StartFault.TheVariants.{Busy, Contended, NoRoom, Worn, BadCount}
use Rattle.fabric.specs.Hands.{view}
use Rattle.fabric.specs.Settles.{AreYours}
use Rattle.fabric.specs.Starts.{Starts}
use Rattle.fabric.specs.Views.{IsWornAt, span_of}
use Rattle.fabric.proofs.Holding.{holds_put, holds_take}
use Rattle.fabric.proofs.Told.{refused_kept, started_party}
use Rattle.ringapi.specs.Holdings.{HasMore}
use Rattle.ringapi.proofs.Moves.{had_before, moved_party}
use Rattle.ringapi.proofs.Counts.{count_parts}
use Rattle.ringapi.proofs.Few.{own_few}
use Rattle.ringapi.proofs.Singles.{single_drop}
use Rattle.ringapi.specs.declared.answers.Moved.{Moved}
use Rattle.ringapi.specs.declared.answers.PutAnswer.TheVariants.{Done, Refused}
use Rattle.ringapi.specs.declared.answers.Refusal.{Refusal}
use Rattle.ringapi.specs.declared.answers.Refusal.TheVariants.{Start, NotYours}
use Rattle.ringapi.specs.Puts.{IsUnfinishedPut, PutHasTold, PutSettles}
use Rattle.ringapi.specs.Views.{HasSettled, settlement}
use Rattle.ringapi.proofs.Tries.{starts_kept}
use Rattle.ringapi.proofs.Yours.{kept_yours, not_both}
use Rattle.stages.specs.Passing.{Passes, Puts, settled_on}

same_number : (n : ℕ) → (n == n) ≡ true
same_number n = grind (arith, nat_tests)

and_none : (b : Bool) → (b && false) ≡ false
and_none true = refl
and_none false = refl

pub no_more : {A : Type 0} (xs : List A) → length xs ≡ 0 → xs ≡ []
no_more [] e = refl
no_more (x ∷ xs) e = absurd (omega (arith, e))

module _ {T : Type 0} where
  pub puts_none : (ring : ℕ) (u w : List (Settled T)) → w ≡ u → Puts ring u w []
  puts_none ring u w same = record {
    puts = ap (settled_on ring Put) same ∙ sym (append-nil (settled_on ring Put u));
    takes = λ r. ap (settled_on r Take) same;
  }

  put_on : (ring start : ℕ) (items : List T) (v : List (Settled T))
      → settled_on ring Put (settlement ring Put start items ∷ v) ≡ settled_on ring Put v ++ items
  put_on ring start items v = ap (λ b. settled_on ring Put v ++ (if b && true then items else [])) (same_number ring)

  put_off : (ring r start : ℕ) (items : List T) (v : List (Settled T))
      → settled_on r Take (settlement ring Put start items ∷ v) ≡ settled_on r Take v
  put_off ring r start items v =
      ap (λ b. settled_on r Take v ++ (if b then items else [])) (and_none (ring == r)) ∙ append-nil (settled_on r Take v)

  pub puts_more : (ring : ℕ) (u v w : List (Settled T)) (sent items : List T) (start : ℕ) → Puts ring u v sent
      → w ≡ settlement ring Put start items ∷ v → Puts ring u w (sent ++ items)
  puts_more ring u v w sent items start before more = record {
    puts = ap (settled_on ring Put) more
        ∙ (put_on ring start items v ∙ (ap (λ xs. xs ++ items) before.puts ∙ append_assoc (settled_on ring Put u) sent items));
    takes = λ r. ap (settled_on r Take) more ∙ (put_off ring r start items v ∙ before.takes r);
  }

  pub puts_kept : (ring : ℕ) (u v w : List (Settled T)) (sent : List T) → Puts ring u v sent → w ≡ v → Puts ring u w sent
  puts_kept ring u v w sent before same = record {
    puts = ap (settled_on ring Put) same ∙ before.puts;
    takes = λ r. ap (settled_on r Take) same ∙ before.takes r;
  }

  pub passes_take : (u v w : List (Settled T)) (taken sent items : List T) (start : ℕ) → Passes u v taken sent
      → w ≡ settlement 1 Take start items ∷ v → Passes u w (taken ++ items) sent
  passes_take u v w taken sent items start before more = record {
    takes = ap (settled_on 1 Take) more ∙ (ap (λ xs. xs ++ items) before.takes ∙ append_assoc (settled_on 1 Take u) taken items);
    puts = ap (settled_on 2 Put) more ∙ (append-nil (settled_on 2 Put v) ∙ before.puts);
  }

  pub passes_puts : (u v w : List (Settled T)) (taken sent items : List T) → Passes u v taken sent → Puts 2 v w items
      → Passes u w taken (sent ++ items)
  passes_puts u v w taken sent items before more = record {
    takes = more.takes 1 ∙ before.takes;
    puts = more.puts ∙ (ap (λ xs. xs ++ items) before.puts ∙ append_assoc (settled_on 2 Put u) sent items);
  }

module _ {T : Type 0} (tags : T → List ℕ) (how : How) (n ring : ℕ) (plan : RingPlan) where
  -- a take whose span was settled with its first items
  pub took_first : (v : View T) (start count left : ℕ) (shown : List T) (w x : View T) (k pool : ℕ) → IsHeldOnce tags pool v.party
      → Starts tags how n ring Take plan v start count left shown w → x ≡ settled (span_of ring Take start count) (take k shown) w
      → HasSettled ring Take (take k shown) v x × HasMore tags v.party (take k shown) x.party
  took_first v start count left shown w x k pool once is done =
      let opened = started_party tags how n ring Take plan v start count left shown w is in
      let party : x.party ≡ with_settled v.party (span_of ring Take start count) (take k shown) =
      ap (λ (u : View T). u.party) done ∙ ap (λ p. with_settled p (span_of ring Take start count) (take k shown)) opened in (
        (start, ap (λ (p : Party T). p.settled) party),
        λ b. ap (holds tags b) party ∙ holds_take tags b ring start count v.party (take k shown) (once b).2,
      )

module _ {T : Type 0} {S : Type 0} {G : Ghosts T} {H : StoredGhosts S T} (tags : T → List ℕ) (most : ℕ) (how : How) (ring : ℕ) (plan : RingPlan) where
  -- what is left of a list whose first items were put is still the hand's own
  pub rest_yours : (v : View T) (h : Hand T S G H) (m : Moved) (items rest : List T) → PutHasTold {N = most} tags how ring plan v items (Done h m) rest
      → AreYours tags plan v items → AreYours tags plan (view h) rest
  rest_yours v h m items rest told yours =
      let is = told.2.2 in
      let less : (b : ℕ) → holds tags b (view h).party ≡ holds tags b v.party - occurrences_in tags b (take m.count items) =
      λ b. ap (holds tags b) (moved_party tags most how (length items) ring Put plan v (view h) told.0 m.count m.left [] (take m.count items) told.1 is)
      ∙ holds_put tags b ring is.0 m.count v.party (take m.count items) in
      subst (AreYours tags plan (view h)) (sym told.2.1)
      (record {
        owned = λ b. omega (arith, yours.owned b, less b, count_parts tags b m.count items);
        single = λ free. single_drop tags m.count items
            (yours.single free);
      })

  -- a refused put leaves the hand what it had, and the list its items
  pub refused_party : (v : View T) (h : Hand T S G H) (why : Refusal) (items rest : List T) → PutHasTold {N = most} tags how ring plan v items (Refused h why) rest
      → ((view h).party ≡ v.party) × (rest ≡ items)
  refused_party v h (Start e) items rest told = (
    (refused_kept tags most how (length items) ring Put plan told.2.2 (view h) e told.2.4).party
        ∙ starts_kept tags most how (length items) ring Put plan v told.0 told.2.2 told.2.3,
    told.2.1,
  )
  refused_party v h NotYours items rest told = (ap (λ u. u.party) told.2.2, told.2.1)

  pub refused_yours : (v : View T) (h : Hand T S G H) (why : Refusal) (items rest : List T) → PutHasTold {N = most} tags how ring plan v items (Refused h why) rest
      → AreYours tags plan v items → AreYours tags plan (view h) rest
  refused_yours v h why items rest told yours =
      let is = refused_party v h why items rest told in
      subst (AreYours tags plan (view h)) (sym is.1) (kept_yours tags plan v (view h) items is.0 yours)

  -- items that are the hand's to put are refused only if there is no room, or if the ring is worn
  pub refused_worn : (v : View T) (h : Hand T S G H) (why : Refusal) (items rest : List T) → PutHasTold {N = most} tags how ring plan v items (Refused h why) rest
      → PutSettles {N = most} ring v items (Refused h why) → (IsUnfinishedPut {N = most} (Refused h why) → ⊥) → ((left : ℕ) → why ≡ Start (NoRoom left) → ⊥)
      → 0 < length items → length items ≤ most → IsHeldOnce tags v.pool v.party → AreYours tags plan v items → IsWornAt most (view h)
  refused_worn v h NotYours items rest told settles final full some fit once yours = absurd (not_both tags plan v items yours told.2.0)
  refused_worn v h (Start (Busy x)) items rest told settles final full some fit once yours = absurd (final tt)
  refused_worn v h (Start (Contended x)) items rest told settles final full some fit once yours = absurd (final tt)
  refused_worn v h (Start (NoRoom left)) items rest told settles final full some fit once yours = absurd (full left refl)
  refused_worn v h (Start Worn) items rest told settles final full some fit once yours = settles.1 refl
  refused_worn v h (Start BadCount) items rest told settles final full some fit once yours =
      absurd (told.2.5 (
        some,
        fit,
        λ side free. omega (
          arith,
          own_few tags v.pool v.party items once yours.owned (yours.single free),
          had_before tags most how (length items) ring Put plan v told.0 told.2.2 told.2.3,
        ),
      ))
