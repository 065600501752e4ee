-- Own items that carry one buffer each are at most as many as the hand has buffers
use Rattle.std.proofs.Common.{◌≡◌, ℕ, ◌≤◌, List, [], ◌∷◌, length, refl, arith, true}
use Rattle.std.specs.Prelude.{◌==◌}
use Rattle.std.specs.List.{flat_map, range_with_len, sum_by}
use Rattle.std.proofs.lemmas.Bool.Decides.{nat_tests}
use Rattle.std.proofs.lemmas.List.{length-append}
use Rattle.std.proofs.lemmas.List.Sums.{sum_by-cons}
use Rattle.ringcore_laws.specs.declared.party.Party.{Party}
use Rattle.ringcore_laws.specs.FreeRings.{AreSingle, buffers_had}
use Rattle.ringcore_laws.specs.Moves.{Owns}
use Rattle.ringcore_laws.specs.Sound.{holds, occurrences}
use Rattle.ringcore_laws.proofs.FreeRoom.{count_all}
use Rattle.ringcore_laws.proofs.Laws.{times_in_is}
use Rattle.fabric_laws.specs.Kinds.{IsHeldOnce}
use Rattle.ringapi.proofs.Singles.{first_of, rest_of}

sum_less : {X : Type 0} (f g : X → ℕ) (xs : List X) → ((x : X) → f x ≤ g x) → sum_by f xs ≤ sum_by g xs
sum_less f g [] less = omega arith
sum_less f g (x ∷ xs) less = omega (arith, sum_by-cons f x xs, sum_by-cons g x xs, less x, sum_less f g xs less)

one_is : (n : ℕ) → (n == 1) ≡ true → n ≡ 1
one_is n e = grind (arith, nat_tests, e)

module _ {T : Type 0} (tags : T → List ℕ) where
  pub single_long : (items : List T) → AreSingle tags items → length (flat_map tags items) ≡ length items
  single_long [] single = refl
  single_long (x ∷ items) single =
      omega (
        arith,
        length-append (tags x) (flat_map tags items),
        one_is (length (tags x)) (first_of _ _ single),
        single_long items (rest_of _ _ single),
      )

  pub own_few : (pool : ℕ) (party : Party T) (items : List T) → IsHeldOnce tags pool party → Owns tags party items → AreSingle tags items
      → length items ≤ buffers_had tags pool party
  unfolding buffers_had
  own_few pool party items once own single =
      omega (
        arith,
        single_long items single,
        count_all pool (flat_map tags items) (λ b le. omega (arith, times_in_is tags b items, own b, (once b).1 le)),
        sum_less (λ b. occurrences b (flat_map tags items)) (λ b. holds tags b party) (range_with_len 0 pool)
            (λ b. omega (arith, times_in_is tags b items, own b)),
      )
