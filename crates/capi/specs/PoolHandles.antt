-- What calls on pools of numbers do to handles
use Rattle.std.specs.Prelude.{◌≡◌, ℕ, ◌⊎◌, Option, None, Some, Ok, Err}
use Rattle.capi.specs.Codes.{Outcome}
use Rattle.capi.specs.declared.rings.fault.Fault.{Fault}
use Rattle.capi.specs.declared.rings.fault.Fault.TheVariants as fault
use Rattle.capi.specs.PoolOpenings.{IsNewPool, IsSecond, RefusesPool}
use Rattle.capi.specs.Spare.{RefusesSpare}
use Rattle.capi.specs.declared.pools.member.PoolMember.{PoolMember}
use Rattle.capi.specs.Handles.{At, Has, HasNone}
use Rattle.capi.specs.declared.object.Object.{Object}
use Rattle.capi.specs.declared.object.Object.TheVariants as object

-- the pool of an object
abbrev pub pool_in : Object → Option PoolMember
pool_in (object.Pool p) = Some p
pool_in (object.Hand m) = None
pool_in (object.Leftover r) = None
pool_in (object.Routes t) = None
pool_in (object.Reorder w) = None
pool_in (object.Forward f) = None
pool_in (object.Fib r) = None

abbrev pub HasPool : Option Object → (PoolMember → Type 0) → Type 0
HasPool old holds = Has pool_in old holds

abbrev pub HasNoPool : Option Object → Fault → Type 0
HasNoPool old why = HasNone pool_in old why

abbrev pub AtPool : Option Object → Option Object → (PoolMember → PoolMember → Outcome → Type 0) → Outcome → Type 0
AtPool old new does outcome = At pool_in old new does outcome

-- a pool is in the handle, which was empty
abbrev pub OpensPool : Outcome → ℕ → ℕ → ℕ → Option Object → Option Object → Type 0
OpensPool (Ok count) n size rings old new = (count ≡ 0) × (old ≡ None) × HasPool new (IsNewPool n size rings)
OpensPool (Err why) n size rings old new =
    (new ≡ old) × ((why ≡ fault.Used) ⊎ ((old ≡ None) × RefusesPool n size rings why))

-- a pool's handle was split
abbrev pub SplitsPool : Outcome → Option Object → Option Object → Option Object → Type 0
SplitsPool (Ok count) old new second =
    (count ≡ 0) × (new ≡ old) × HasPool old (λ p. HasPool second (IsSecond p))
SplitsPool (Err why) old new second = (second ≡ None) × (new ≡ old)
    × (HasNoPool old why ⊎ HasPool old (λ p. RefusesSpare why))

abbrev pub SplitsPoolAt : Outcome → Option Object → Option Object → Option Object → Option Object → Type 0
SplitsPoolAt (Ok count) old new second_old second_new =
    (second_old ≡ None) × SplitsPool (Ok count) old new second_new
SplitsPoolAt (Err why) old new second_old second_new = (second_new ≡ second_old)
    × ((((why ≡ fault.Used) ⊎ (why ≡ fault.Memory)) × (new ≡ old)) ⊎ SplitsPool (Err why) old new None)
