-- What puts and takes on other rings return, next to a cache
use Rattle.std.specs.Prelude.{◌≡◌, ◌++◌, ℕ, List, drop, Option, Result, Ok, Err}
use Rattle.geom.specs.declared.plan.How.{How}
use Rattle.geom.specs.declared.plan.Mode.TheVariants.{Hts}
use Rattle.geom.specs.declared.plan.RingPlan.{RingPlan}
use Rattle.burst.specs.declared.tagged.Tagged.{Ghosts}
use Rattle.fabric.specs.declared.stored.Stored.{Ghosts as StoredGhosts}
use Rattle.fabric.specs.declared.hand.Hand.{Hand}
use Rattle.fabric.specs.declared.hand.StartFault.{StartFault}
use Rattle.fabric.specs.declared.hand.cache_hand.CacheHand.{CacheHand}
use Rattle.fabric.specs.Hands.{view}
use Rattle.fabric.specs.CacheHands.{IsCacheHandFor}
use Rattle.fabric.specs.Settles.{AreNotYours, AreOwnBuffers}
use Rattle.ringapi.specs.declared.answers.Moved.{Moved}
use Rattle.ringapi.specs.declared.answers.PutAnswer.{PutAnswer}
use Rattle.ringapi.specs.declared.answers.PutAnswer.TheVariants as put
use Rattle.ringapi.specs.declared.answers.Refusal.{Refusal}
use Rattle.ringapi.specs.declared.answers.Refusal.TheVariants.{Start, NotYours}
use Rattle.ringapi.specs.declared.answers.TakeAnswer.{TakeAnswer}
use Rattle.ringapi.specs.declared.answers.TakeAnswer.TheVariants as taken
use Rattle.ringapi.specs.Puts.{PutHasTold}
use Rattle.ringapi.specs.Takes.{TakeHasTold}
use Rattle.pool_laws.specs.Hands.{view_in}

module _ {T : Type 0} {S : Type 0} {G : Ghosts T} {H : StoredGhosts S T} (tags : T → List ℕ) (how : How) (most ring : ℕ)
    (plan : RingPlan) (k l : Option (CacheHand T S G H)) where
  -- What a put by bulk or burst returns, by the hand k, which is l afterwards: items with buffers that aren't the
  -- hand's own, or that are cached, are refused before anything else, and the rest is the put's own answer
  abbrev pub Sends : List T → List T → Result Moved Refusal → List T → Type 0
  Sends cache list (Ok moved) rest = (h : Hand T S G H)
      × PutHasTold {N = most} tags how ring plan (view_in k) list (put.Done h moved) rest × (view_in l ≡ view h)
  Sends cache list (Err (Start fault)) rest = (h : Hand T S G H)
      × PutHasTold {N = most} tags how ring plan (view_in k) list (put.Refused h (Start fault)) rest ×
      (view_in l ≡ view h)
  Sends cache list (Err NotYours) rest = AreNotYours tags plan (view_in k) (cache ++ list) × (rest ≡ list) ×
      (view_in l ≡ view_in k)

  -- what a take of n items by bulk or burst returns
  abbrev pub Receives : ℕ → Result Moved StartFault → List T → Type 0
  Receives n (Ok moved) items = (h : Hand T S G H)
      × TakeHasTold {N = most} tags how n ring plan (view_in k) (taken.Done h moved) items × (view_in l ≡ view h)
  Receives n (Err fault) items = (h : Hand T S G H)
      × TakeHasTold {N = most} tags how n ring plan (view_in k) (taken.Refused h fault) items ×
      (view_in l ≡ view h)

-- what a put from a slice left of it: all but the items that moved, from its end
abbrev pub unsent_of : {T : Type 0} → Result Moved Refusal → List T → List T
unsent_of (Ok moved) items = drop moved.count items
unsent_of (Err e) items = items

-- sides on which a call that is tried once leaves no open span
abbrev pub IsPutByHts : RingPlan → Type 0
IsPutByHts plan = plan.put ≡ Hts

abbrev pub IsTakenByHts : RingPlan → Type 0
IsTakenByHts plan = plan.take ≡ Hts

module _ {T : Type 0} {S : Type 0} {G : Ghosts T} {H : StoredGhosts S T} {N : ℕ} where
  -- an answer with a hand, which may put the items of this cache on a free ring
  abbrev pub PutOwns : (T → List ℕ) → List T → PutAnswer T N S G H → Type 0
  PutOwns tags cache (put.Done h moved) = AreOwnBuffers tags (view h) cache
  PutOwns tags cache (put.Refused h why) = AreOwnBuffers tags (view h) cache
  PutOwns tags cache (put.Open o tail) = ⊥

  abbrev pub TakeOwns : (T → List ℕ) → List T → TakeAnswer T N S G H → Type 0
  TakeOwns tags cache (taken.Done h moved) = AreOwnBuffers tags (view h) cache
  TakeOwns tags cache (taken.Refused h why) = AreOwnBuffers tags (view h) cache
  TakeOwns tags cache (taken.Open o tail) = ⊥

  -- the same answer, with its hand as one that sets the buffers of a cache aside
  abbrev pub IsPutBeside : PutAnswer T N S G H → CacheHand T S G H → Result Moved Refusal → Type 0
  IsPutBeside (put.Done h moved) k result = IsCacheHandFor h k × (result ≡ Ok moved)
  IsPutBeside (put.Refused h why) k result = IsCacheHandFor h k × (result ≡ Err why)
  IsPutBeside (put.Open o tail) k result = ⊥

  abbrev pub IsTakenBeside : TakeAnswer T N S G H → CacheHand T S G H → Result Moved StartFault → Type 0
  IsTakenBeside (taken.Done h moved) k result = IsCacheHandFor h k × (result ≡ Ok moved)
  IsTakenBeside (taken.Refused h why) k result = IsCacheHandFor h k × (result ≡ Err why)
  IsTakenBeside (taken.Open o tail) k result = ⊥
