-- What whole calls promise, one field for each promise.
use Rattle.std.specs.Prelude.{ℕ, List, []}
use Rattle.geom.specs.declared.plan.How.{How}
use Rattle.burst.specs.declared.tagged.Tagged.{Ghosts}
use Rattle.fabric.specs.declared.stored.Stored.{Ghosts as StoredGhosts}
use Rattle.fabric.specs.declared.fabric.Fabric.{Fabric}
use Rattle.fabric.specs.declared.hand.Hand.{Hand}
use Rattle.fabric.specs.Hands.{OnRing, view}
use Rattle.ringapi.specs.declared.answers.PutAnswer.{PutAnswer}
use Rattle.ringapi.specs.declared.answers.TakeAnswer.{TakeAnswer}
use Rattle.ringapi.specs.Puts.{IsPutOf, IsUnfinishedPut, PutHasTold, PutSettles, PutTells}
use Rattle.ringapi.specs.Takes.{IsTakeOf, IsUnfinishedTake, TakeHasTold, TakeSettles, TakeTells}
use Rattle.ringapi.specs.Truths.{IsTruePut, IsTrueTake}

module _ {T : Type 0} {S : Type 0} {G : Ghosts T} {H : StoredGhosts S T} {N : ℕ} where
  -- a put of these items that is tried once; `rest` are the items that it leaves
  pub record TriesPut (tags : T → List ℕ) (how : How) (f : Fabric T N S) (ring : ℕ) (hand : Hand T S G H) (items : List T)
      (answer : PutAnswer T N S G H) (rest : List T) : Type 0 where
    -- the hand or the open span that it returns is of this fabric and ring
    pub made : IsPutOf f ring answer
    -- what it returns and what it moved, start by start and step by step
    pub exact : OnRing f ring (λ plan. PutTells tags how ring plan (view hand) items [] [] answer rest)
    -- one span was settled with the first items, or nothing was
    pub settled : PutSettles ring (view hand) items answer
    -- a refusal agrees with the spans of all hands
    pub true_refusal : OnRing f ring (λ plan. IsTruePut tags ring plan answer)

  -- a put of these items that is tried until it is finished
  pub record MakesPut (tags : T → List ℕ) (how : How) (f : Fabric T N S) (ring : ℕ) (hand : Hand T S G H) (items : List T)
      (answer : PutAnswer T N S G H) (rest : List T) : Type 0 where
    pub made : IsPutOf f ring answer
    -- the same, after some starts and settles that were refused
    pub exact : OnRing f ring (λ plan. PutHasTold tags how ring plan (view hand) items answer rest)
    pub settled : PutSettles ring (view hand) items answer
    pub true_refusal : OnRing f ring (λ plan. IsTruePut tags ring plan answer)
    -- it returns nothing that it should try again
    pub finished : IsUnfinishedPut answer → ⊥

  -- a take of n items that is tried once; `items` are those that it moved
  pub record TriesTake (tags : T → List ℕ) (how : How) (n : ℕ) (f : Fabric T N S) (ring : ℕ) (hand : Hand T S G H)
      (answer : TakeAnswer T N S G H) (items : List T) : Type 0 where
    pub made : IsTakeOf f ring answer
    pub exact : OnRing f ring (λ plan. TakeTells tags how n ring plan (view hand) [] [] answer items)
    pub settled : TakeSettles ring (view hand) answer items
    pub true_refusal : OnRing f ring (λ plan. IsTrueTake tags ring plan answer)

  -- a take of n items that is tried until it is finished
  pub record MakesTake (tags : T → List ℕ) (how : How) (n : ℕ) (f : Fabric T N S) (ring : ℕ) (hand : Hand T S G H)
      (answer : TakeAnswer T N S G H) (items : List T) : Type 0 where
    pub made : IsTakeOf f ring answer
    pub exact : OnRing f ring (λ plan. TakeHasTold tags how n ring plan (view hand) answer items)
    pub settled : TakeSettles ring (view hand) answer items
    pub true_refusal : OnRing f ring (λ plan. IsTrueTake tags ring plan answer)
    pub finished : IsUnfinishedTake answer → ⊥
