-- What the refusal of a whole call says about the spans of all hands, in a state in which the refused step could happen
use Rattle.std.specs.Prelude.{◌≡◌, ⊤, ℕ, List}
use Rattle.geom.specs.declared.plan.RingPlan.{RingPlan}
use Rattle.geom.specs.declared.plan.Side.TheVariants.{Put, Take}
use Rattle.burst.specs.declared.tagged.Tagged.{Ghosts}
use Rattle.fabric.specs.declared.stored.Stored.{Ghosts as StoredGhosts}
use Rattle.fabric_laws.specs.declared.view.View.{View}
use Rattle.fabric_laws.specs.Changes.{missed}
use Rattle.fabric.specs.declared.hand.SettleFault.TheVariants.{NotYet}
use Rattle.fabric.specs.Hands.{put_span, put_view, take_span, take_view, view}
use Rattle.fabric.specs.Truths.{IsTrueRefusal, IsTrueTooEarly}
use Rattle.fabric.specs.Views.{IsKept}
use Rattle.ringapi.specs.declared.answers.PutAnswer.{PutAnswer}
use Rattle.ringapi.specs.declared.answers.PutAnswer.TheVariants as put
use Rattle.ringapi.specs.declared.answers.Refusal.TheVariants.{Start, NotYours}
use Rattle.ringapi.specs.declared.answers.TakeAnswer.{TakeAnswer}
use Rattle.ringapi.specs.declared.answers.TakeAnswer.TheVariants as taken

module _ {T : Type 0} {S : Type 0} {G : Ghosts T} {H : StoredGhosts S T} {N : ℕ} (tags : T → List ℕ) (ring : ℕ) (plan : RingPlan) where
  -- The last attempt of a put, whose answer is returned. Its start had the view v before it, with the spans and buffers
  -- that the hand still has; an open span had the view v before the settle that came too early
  abbrev pub IsTruePut : PutAnswer T N S G H → Type 0
  IsTruePut (put.Done h moved) = ⊤
  IsTruePut (put.Refused h (Start e)) =
      (v : View T) × IsKept v (view h) × IsTrueRefusal tags ring Put plan v (view h) e
  IsTruePut (put.Refused h NotYours) = ⊤
  IsTruePut (put.Open o tail) =
      (v : View T) × (put_view o ≡ missed tail v) × IsTrueTooEarly tags (put_span o) v (NotYet tail)

  -- the same of a take
  abbrev pub IsTrueTake : TakeAnswer T N S G H → Type 0
  IsTrueTake (taken.Done h moved) = ⊤
  IsTrueTake (taken.Refused h e) =
      (v : View T) × IsKept v (view h) × IsTrueRefusal tags ring Take plan v (view h) e
  IsTrueTake (taken.Open o tail) =
      (v : View T) × (take_view o ≡ missed tail v) × IsTrueTooEarly tags (take_span o) v (NotYet tail)
