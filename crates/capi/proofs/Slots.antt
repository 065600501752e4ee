-- What a call does to a handle, by what it does to a hand
use Rattle.std.proofs.Common.{◌≡◌, Option, None, Some, Err, ap, subst, sym}
use Rattle.capi.specs.Codes.{Outcome}
use Rattle.capi.specs.Closings.{ClosesAt, ClosesHand}
use Rattle.capi.specs.HandCalls.{HasNoHand, hand_in}
use Rattle.capi.specs.Handles.{At, Has, IsNone, IsOne, OnOne}
use Rattle.capi.specs.declared.rings.fault.Fault.{Fault}
use Rattle.capi.specs.declared.rings.fault.Fault.TheVariants as fault
use Rattle.capi.specs.declared.rings.member.Member.{Member}
use Rattle.capi.specs.declared.object.Object.{Object}
use Rattle.capi.specs.declared.object.Object.TheVariants as object

refuses_other : (found : Option Member) (o : Object) (new : Option Object) (why : Fault) (does : Member → Type 0)
    → IsNone hand_in found why → new ≡ Some o → OnOne hand_in found o new (Err why) does
refuses_other None o new why does is same = (ap Err is, same)
refuses_other (Some m) o new why does is same = absurd is

pub closes_none : (old new : Option Object) (why : Fault) → HasNoHand old why → new ≡ old → ClosesAt old new (Err why)
closes_none None new why is same = (ap Err is, same)
closes_none (Some o) new why is same = refuses_other (hand_in o) o new why (λ m. ClosesHand (Err why) m new) is same

pub closes_hand : (old new : Option Object) (m : Member) (outcome : Outcome) → old ≡ Some (object.Hand m)
    → ClosesHand outcome m new → ClosesAt old new outcome
closes_hand old new m outcome was done = subst (λ (o : Option Object). ClosesAt o new outcome) (sym was) done

-- a call on what a handle has, by what was found there
module _ {X : Type 0} (kind : Object → Option X) (does : X → X → Outcome → Type 0) (old new : Option Object) (outcome : Outcome) where
  pub at_one : (o p : Object) (x y : X) → kind o ≡ Some x → kind p ≡ Some y → old ≡ Some o → new ≡ Some p
      → does x y outcome → At kind old new does outcome
  at_one o p x y of_o of_p was is done =
      subst (λ (z : Option Object). At kind z new does outcome) (sym was)
      (subst (λ (z : Option X). OnOne kind z o new outcome (λ x. Has kind new (λ y. does x y outcome))) (sym of_o)
      (subst (λ (z : Option Object). Has kind z (λ y. does x y outcome)) (sym is)
      (subst (λ (z : Option X). IsOne kind z (λ y. does x y outcome)) (sym of_p) done)))

  pub at_none : outcome ≡ Err fault.Empty → old ≡ None → new ≡ None → At kind old new does outcome
  at_none why was is = subst (λ (z : Option Object). At kind z new does outcome) (sym was) (why, is)

  pub at_other : (o : Object) → outcome ≡ Err fault.Kind → kind o ≡ None → old ≡ Some o → new ≡ Some o → At kind old new does outcome
  at_other o why of_o was is =
      subst (λ (z : Option Object). At kind z new does outcome) (sym was)
      (subst (λ (z : Option X). OnOne kind z o new outcome (λ x. Has kind new (λ y. does x y outcome))) (sym of_o) (why, is))
