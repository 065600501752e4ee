-- What calls do to what a handle has
use Rattle.std.specs.Prelude.{◌≡◌, ℕ, Option, None, Some, Result, Ok, Err}
use Rattle.std.specs.declared.alloc.Global.{Global}
use Rattle.std.specs.declared.boxed.Box.{Box}
use Rattle.lpm.specs.Routes.{Routes}
use Rattle.reorder.specs.Waiting.{Waiting}
use Rattle.capi.specs.Codes.{Outcome}
use Rattle.capi.specs.declared.rings.fault.Fault.{Fault}
use Rattle.capi.specs.declared.rings.fault.Fault.TheVariants as fault
use Rattle.capi.specs.declared.object.Object.{Object}
use Rattle.capi.specs.declared.object.Object.TheVariants as object

-- an object was given to an empty handle, or there was no memory
abbrev pub GivesOut : Outcome → Object → Option Object → Type 0
GivesOut (Ok count) given new = (count ≡ 0) × (new ≡ Some given)
GivesOut (Err why) given new = (why ≡ fault.Memory) × (new ≡ None)

-- what the handle had was taken out of it, as it was: a hand's open span is still open, and stays so
abbrev pub TakesOut : Result (Box (Option Object) Global) Fault → Option Object → Option Object → Type 0
TakesOut (Ok slot) old new = (slot.value ≡ old) × (new ≡ None)
TakesOut (Err why) old new = (why ≡ fault.Empty) × (old ≡ None) × (new ≡ None)

-- nothing is left in the handle
abbrev pub Frees : Outcome → Option Object → Option Object → Type 0
Frees (Ok count) old new = (count ≡ 0) × (new ≡ None)
Frees (Err why) old new = (why ≡ fault.Empty) × (old ≡ None) × (new ≡ None)

-- the handle was empty, or has something of another kind, which stays
abbrev pub IsEmpty : Outcome → Option Object → Type 0
IsEmpty outcome new = (outcome ≡ Err fault.Empty) × (new ≡ None)

abbrev pub IsOther : Outcome → Object → Option Object → Type 0
IsOther outcome old new = (outcome ≡ Err fault.Kind) × (new ≡ Some old)

module _ {X : Type 0} (kind : Object → Option X) where
  -- an object of the kind, of which this holds
  abbrev pub IsOne : Option X → (X → Type 0) → Type 0
  IsOne None holds = ⊥
  IsOne (Some x) holds = holds x

  abbrev pub Has : Option Object → (X → Type 0) → Type 0
  Has None holds = ⊥
  Has (Some o) holds = IsOne (kind o) holds

  -- why the handle has none of the kind
  abbrev pub IsNone : Option X → Fault → Type 0
  IsNone None why = why ≡ fault.Kind
  IsNone (Some x) why = ⊥

  abbrev pub HasNone : Option Object → Fault → Type 0
  HasNone None why = why ≡ fault.Empty
  HasNone (Some o) why = IsNone (kind o) why

  -- a call on an object of the kind; otherwise it is refused, and what the handle has stays
  abbrev pub OnOne : Option X → Object → Option Object → Outcome → (X → Type 0) → Type 0
  OnOne None o new outcome does = IsOther outcome o new
  OnOne (Some x) o new outcome does = does x

  abbrev pub On : Option Object → Option Object → Outcome → (X → Type 0) → Type 0
  On None new outcome does = IsEmpty outcome new
  On (Some o) new outcome does = OnOne (kind o) o new outcome does

  -- the same of a call that leaves an object of the kind: what it does to it
  abbrev pub At : Option Object → Option Object → (X → X → Outcome → Type 0) → Outcome → Type 0
  At old new does outcome = On old new outcome (λ x. Has new (λ y. does x y outcome))

-- the table, or the window, of an object
abbrev pub table_in : Object → Option Routes
table_in (object.Routes t) = Some t.value
table_in (object.Reorder w) = None
table_in (object.Hand m) = None
table_in (object.Leftover r) = None
table_in (object.Pool p) = None
table_in (object.Forward f) = None
table_in (object.Fib r) = None

abbrev pub window_in : Object → Option (Waiting ℕ)
window_in (object.Reorder w) = Some w
window_in (object.Routes t) = None
window_in (object.Hand m) = None
window_in (object.Leftover r) = None
window_in (object.Pool p) = None
window_in (object.Forward f) = None
window_in (object.Fib r) = None

abbrev pub HasTable : Option Object → (Routes → Type 0) → Type 0
HasTable old holds = Has table_in old holds

abbrev pub HasWindow : Option Object → (Waiting ℕ → Type 0) → Type 0
HasWindow old holds = Has window_in old holds

abbrev pub AtRoutes : Option Object → Option Object → (Routes → Routes → Outcome → Type 0) → Outcome → Type 0
AtRoutes old new does outcome = At table_in old new does outcome

abbrev pub AtWindow : Option Object → Option Object → (Waiting ℕ → Waiting ℕ → Outcome → Type 0) → Outcome → Type 0
AtWindow old new does outcome = At window_in old new does outcome
