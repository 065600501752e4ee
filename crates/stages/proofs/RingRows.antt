-- Worked rows of the rings of a run, computed by the definitions.
use Rattle.std.proofs.Common.{◌≡◌, ℕ, true, false, List, [], ◌∷◌, ap, sym, refl, arith}
use Rattle.std.proofs.lemmas.Option.{same_Some}
use Rattle.geom.specs.declared.plan.Mode.TheVariants.{Hts, Multi}
use Rattle.geom.specs.declared.plan.RingPlan.{RingPlan}
use Rattle.geom.specs.declared.plan.Side.TheVariants.{Put, Take}
use Rattle.ringcore_laws.specs.declared.party.Settled.{Settled}
use Rattle.stages_laws.specs.declared.run.Run.{Ghosts}
use Rattle.stages.specs.declared.threads.item.RingItem.TheVariants.{Free, Mark}
use Rattle.stages.specs.declared.threads.item.FreeSegment.{FreeSegment}
use Rattle.stages.specs.Judging.{until_mark, has_mark}
use Rattle.stages.specs.Passing.{AreAsked, AreRings, settled_on}

-- the rings: of free segments, of packets at which workers peek, and of packets after their verdict
rings : AreRings (
    record { geometry = record { size = 128; capacity = 112; last = 17592186044415; count_bits = 20 }; put = Multi; take = Multi; free = true }
    ∷ record { geometry = record { size = 1024; capacity = 512; last = 17592186044415; count_bits = 20 }; put = Multi; take = Hts; free = false }
    ∷ record { geometry = record { size = 1024; capacity = 512; last = 17592186044415; count_bits = 20 }; put = Multi; take = Multi; free = false }
    ∷ [])
rings = record {
  many = refl;
  free = (omega arith, λ plan there. ap (λ (p : RingPlan). p.free) (sym (same_Some _ plan there)));
  peeked = λ plan there. ap (λ (p : RingPlan). p.take) (sym (same_Some _ plan there));
  unjudged = λ plan there. ap (λ (p : RingPlan). p.free) (sym (same_Some _ plan there));
  mixed = λ plan there. ap (λ (p : RingPlan). p.free) (sym (same_Some _ plan there));
}

-- and as they are planned, with 112 segments and room for 512 packets on each of the others
asked : AreAsked 112 512 (
    record { geometry = record { size = 128; capacity = 112; last = 17592186044415; count_bits = 20 }; put = Multi; take = Multi; free = true }
    ∷ record { geometry = record { size = 1024; capacity = 512; last = 17592186044415; count_bits = 20 }; put = Multi; take = Hts; free = false }
    ∷ record { geometry = record { size = 1024; capacity = 512; last = 17592186044415; count_bits = 20 }; put = Multi; take = Multi; free = false }
    ∷ [])
asked = refl

-- spans of a hand, newest first: what it took from the input ring, and what it put on the output ring, oldest first
spans : List (Settled ℕ)
spans =
    record { ring = 2; side = Put; start = 4; items = 5 ∷ 6 ∷ [] } ∷ record { ring = 1; side = Take; start = 9; items = 3 ∷ 4 ∷ [] }
    ∷ record { ring = 2; side = Put; start = 1; items = 7 ∷ [] } ∷ record { ring = 1; side = Put; start = 2; items = 8 ∷ [] }
    ∷ record { ring = 1; side = Take; start = 7; items = 1 ∷ 2 ∷ [] } ∷ []

in_order : (settled_on 1 Take spans ≡ 1 ∷ 2 ∷ 3 ∷ 4 ∷ []) × (settled_on 2 Put spans ≡ 7 ∷ 5 ∷ 6 ∷ []) × (settled_on 2 Take spans ≡ [])
unfolding spans
in_order = (refl, refl, refl)

-- up to the first end mark, inclusive
first_marks : {J : Type 0} {G : Ghosts J} (x y : FreeSegment J G) → (until_mark (Free x ∷ Mark ∷ Free y ∷ Mark ∷ []) ≡ Free x ∷ Mark ∷ [])
    × (until_mark (Free x ∷ Free y ∷ []) ≡ Free x ∷ Free y ∷ []) × (has_mark (Free x ∷ Mark ∷ Free y ∷ []) ≡ true) × (has_mark (Free x ∷ Free y ∷ []) ≡ false)
first_marks x y = (refl, refl, refl, refl)
