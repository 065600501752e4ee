-- Rings as C asks for them
use Rattle.std.specs.Prelude.{◌≡◌, ℕ, ◌⊎◌, ◌-◌, ◌/◌, ◌^◌, false, List, map, Option, None, Some, Result, Ok, Err, zero, suc}
use Rattle.geom.specs.declared.plan.Mode.{Mode}
use Rattle.geom.specs.declared.plan.Mode.TheVariants.{Multi, Hts}
use Rattle.geom.specs.declared.plan.RingPlan.{RingPlan}
use Rattle.geom.specs.declared.geometry.GeomFault.{GeomFault}
use Rattle.geom.specs.declared.geometry.GeomFault.TheVariants.{TooSmall}
use Rattle.geom.specs.Extent.{Extent}
use Rattle.geom.specs.Sizes.{exact_gives, power_gives, with_positions}
use Rattle.capi.specs.declared.rings.fault.Fault.{Fault}
use Rattle.capi.specs.declared.rings.fault.Fault.TheVariants as fault
use Rattle.capi.specs.declared.rings.opening.Asked.{Asked}

-- a mode by its number
abbrev pub mode_asked : ℕ → Option Mode
mode_asked zero = Some Multi
mode_asked (suc zero) = Some Hts
mode_asked (suc (suc n)) = None

-- the size of a ring: by the words that it takes, or by its slots
abbrev pub extent_asked : ℕ → ℕ → Result Extent GeomFault
extent_asked zero size = power_gives size
extent_asked (suc zero) size = exact_gives size
extent_asked (suc (suc n)) size = Err TooSmall

-- how many bits of a word are for the count of reserved positions: a multi side has no count, and a head/tail-sync side
-- counts up to 4,095
abbrev pub count_bits : Mode → Mode → ℕ
count_bits Multi Multi = 1
count_bits Multi Hts = 12
count_bits Hts take = 12

-- the greatest position: 0 asks for the greatest that a word has room for
abbrev pub last_asked : ℕ → (bits : ℕ) → ℕ
last_asked zero bits = (2 ^ 64 - 1) / 2 ^ bits
last_asked (suc n) bits = suc n

-- the plan of a ring, which holds no free buffers
abbrev pub plan_on : Mode → Mode → Option Extent → Option RingPlan
plan_on put take (Some extent) = Some record { geometry = extent; put = put; take = take; free = false }
plan_on put take None = None

abbrev pub plan_with : Result Extent GeomFault → Option Mode → Option Mode → (last : ℕ) → Option RingPlan
plan_with (Ok extent) (Some put) (Some take) last =
    let bits = count_bits put take in
    plan_on put take (with_positions extent (last_asked last bits) bits)
plan_with (Ok extent) (Some put) None last = None
plan_with (Ok extent) None take last = None
plan_with (Err why) put take last = None

-- what the field for later versions has to be
abbrev pub if_none : ℕ → Option RingPlan → Option RingPlan
if_none zero plan = plan
if_none (suc n) plan = None

abbrev pub plan_asked : Asked → Option RingPlan
plan_asked a =
    if_none a.reserved (plan_with (extent_asked a.exact a.size) (mode_asked a.put) (mode_asked a.take) a.last)

-- these plans are what was asked for, ring by ring
abbrev pub AreAsked : List Asked → List RingPlan → Type 0
AreAsked asked plans = map plan_asked asked ≡ map Some plans

-- some ring can't be, or there was no memory
abbrev pub RefusesPlans : List Asked → Fault → Type 0
RefusesPlans asked why =
    ((why ≡ fault.Plan) × ((plans : List RingPlan) → AreAsked asked plans → ⊥)) ⊎ (why ≡ fault.Memory)
