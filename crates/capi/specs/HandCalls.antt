-- What calls on rings do to what a handle has
use Rattle.std.specs.Prelude.{Option, None, Some}
use Rattle.capi.specs.Codes.{Outcome}
use Rattle.capi.specs.Handles.{At, Has, HasNone}
use Rattle.capi.specs.declared.rings.fault.Fault.{Fault}
use Rattle.capi.specs.declared.rings.member.Member.{Member}
use Rattle.capi.specs.declared.rings.closing.Leftover.{Leftover}
use Rattle.capi.specs.declared.object.Object.{Object}
use Rattle.capi.specs.declared.object.Object.TheVariants as object

-- the hand of an object, or what is left of closed rings
abbrev pub hand_in : Object → Option Member
hand_in (object.Hand m) = Some m
hand_in (object.Leftover r) = None
hand_in (object.Pool p) = None
hand_in (object.Routes t) = None
hand_in (object.Reorder w) = None
hand_in (object.Forward f) = None
hand_in (object.Fib r) = None

abbrev pub leftover_in : Object → Option Leftover
leftover_in (object.Leftover r) = Some r
leftover_in (object.Hand m) = None
leftover_in (object.Pool p) = None
leftover_in (object.Routes t) = None
leftover_in (object.Reorder w) = None
leftover_in (object.Forward f) = None
leftover_in (object.Fib r) = None

abbrev pub HasHand : Option Object → (Member → Type 0) → Type 0
HasHand old holds = Has hand_in old holds

abbrev pub HasLeftover : Option Object → (Leftover → Type 0) → Type 0
HasLeftover old holds = Has leftover_in old holds

abbrev pub HasNoHand : Option Object → Fault → Type 0
HasNoHand old why = HasNone hand_in old why

abbrev pub AtHand : Option Object → Option Object → (Member → Member → Outcome → Type 0) → Outcome → Type 0
AtHand old new does outcome = At hand_in old new does outcome

abbrev pub AtLeftover : Option Object → Option Object → (Leftover → Leftover → Outcome → Type 0) → Outcome → Type 0
AtLeftover old new does outcome = At leftover_in old new does outcome
