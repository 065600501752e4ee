-- What a worker does with the items that it takes.
use Rattle.std.specs.Prelude.{◌≡◌, ℕ, Bool, true, false, if◌then◌else◌, List, [], ◌∷◌, ◌++◌}
use Rattle.mbuf.specs.Buffer.{Buffer}
use Rattle.ringcore_laws.specs.declared.party.Settled.{Settled}
use Rattle.stages_laws.specs.Output.{Forwarding}
use Rattle.stages_laws.specs.declared.run.Run.{Ghosts}
use Rattle.run_one.specs.Verdicts.{IsVerdictOf}
use Rattle.stages.specs.Passing.{Passes}
use Rattle.stages.specs.declared.threads.item.RingItem.{RingItem}
use Rattle.stages.specs.declared.threads.item.RingItem.TheVariants.{Free, Before, After, Mark}

-- two lists of the same length, with R for each pair
abbrev pub AllPairs : {X Y : Type 0} → (X → Y → Type 0) → List X → List Y → Type 0
AllPairs R [] [] = Unit {0}
AllPairs R [] (y ∷ ys) = ⊥
AllPairs R (x ∷ xs) [] = ⊥
AllPairs R (x ∷ xs) (y ∷ ys) = R x y × AllPairs R xs ys

module _ {J : Type 0} {G : Ghosts J} where
  abbrev pub is_mark : RingItem J G → Bool
  is_mark (Free x) = false
  is_mark (Before x) = false
  is_mark (After x) = false
  is_mark Mark = true

  abbrev pub has_mark : List (RingItem J G) → Bool
  has_mark [] = false
  has_mark (p ∷ ps) = if is_mark p then true else has_mark ps

  -- the items up to the first end mark, inclusive
  abbrev pub until_mark : List (RingItem J G) → List (RingItem J G)
  until_mark [] = []
  until_mark (p ∷ ps) = if is_mark p then p ∷ [] else p ∷ until_mark ps

  -- what becomes of an item: a packet before its verdict gets it, and any other is unchanged
  abbrev pub IsJudged : Forwarding → RingItem J G → RingItem J G → Type 0
  IsJudged forwarding (Free x) q = q ≡ Free x
  IsJudged forwarding (Before x) (Free y) = ⊥
  IsJudged forwarding (Before x) (Before y) = ⊥
  IsJudged forwarding (Before x) (After y) = IsVerdictOf forwarding x y
  IsJudged forwarding (Before x) Mark = ⊥
  IsJudged forwarding (After x) q = q ≡ After x
  IsJudged forwarding Mark q = q ≡ Mark

  -- A worker's hand took items and one end mark as the last, and put the results for these items, in order, and
  -- then one end mark
  pub record HasWorked (forwarding : Forwarding) (before after : List (Settled (RingItem J G))) : Type 0 where
    pub taken : List (RingItem J G)
    pub sent : List (RingItem J G)
    pub passes : Passes before after (taken ++ Mark ∷ []) (sent ++ Mark ∷ [])
    pub judged : AllPairs (IsJudged forwarding) taken sent
    pub unended : has_mark taken ≡ false

  -- a segment that isn't in use by a packet
  abbrev pub IsFree : RingItem J G → List Buffer → Type 0
  IsFree (Free x) chain = x.chain ≡ chain
  IsFree (Before x) chain = ⊥
  IsFree (After x) chain = ⊥
  IsFree Mark chain = ⊥

  -- this record, before its verdict
  abbrev pub IsBefore : RingItem J G → ℕ → ℕ → ℕ → ℕ → List Buffer → Type 0
  IsBefore (Free x) seq seconds fraction wire chain = ⊥
  IsBefore (Before x) seq seconds fraction wire chain =
      (x.seq ≡ seq) × (x.seconds ≡ seconds) × (x.fraction ≡ fraction) × (x.wire ≡ wire) × (x.chain ≡ chain)
  IsBefore (After x) seq seconds fraction wire chain = ⊥
  IsBefore Mark seq seconds fraction wire chain = ⊥
