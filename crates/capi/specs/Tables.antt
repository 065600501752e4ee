-- What calls on routes do
use Rattle.std.specs.Prelude.{◌≡◌, ℕ, ◌<◌, ◌≤◌, ◌≢◌, ◌^◌, ◌-◌, ◌⊎◌, List, length, map, Option, None, Some, Result, Ok, Err}
use Rattle.lpm.specs.declared.fault.RouteFault.{RouteFault}
use Rattle.lpm.specs.declared.fault.RouteFault.TheVariants.{BadDepth, BadHop, NoGroup, Memory, NoRoute}
use Rattle.lpm.specs.Match.{lookup_in}
use Rattle.lpm.specs.Prefixes.{IsDepth, Members}
use Rattle.std.specs.declared.sync.Arc.{Arc}
use Rattle.std.specs.declared.alloc.Global.{Global}
use Rattle.lpm.specs.Routes.{Accepts, HasMembers, HasRoute, IsNew, LacksRoute, NeedsTooMany, Routes, with_route, without_route}
use Rattle.capi.specs.Codes.{Outcome}
use Rattle.capi.specs.Handles.{HasNone, HasTable, table_in}
use Rattle.capi.specs.declared.object.Object.{Object}
use Rattle.capi.specs.declared.rings.fault.Fault.{Fault}
use Rattle.capi.specs.declared.rings.fault.Fault.TheVariants as fault

-- a table that can't be: its first level has neither 2^16 nor 2^24 entries, or there was no memory
abbrev pub RefusesTable : ℕ → Fault → Type 0
RefusesTable bits why = ((why ≡ fault.Plan) × (bits ≢ 16) × (bits ≢ 24)) ⊎ (why ≡ fault.Memory)

-- a new table, without routes, is in the handle, which was empty
abbrev pub OpensTable : Outcome → ℕ → ℕ → Option Object → Option Object → Type 0
OpensTable (Ok count) bits groups old new =
    (count ≡ 0) × (old ≡ None) × ((bits ≡ 16) ⊎ (bits ≡ 24)) × HasTable new (λ t. IsNew t bits groups)
OpensTable (Err why) bits groups old new = (new ≡ old) × ((why ≡ fault.Used) ⊎ (old ≡ None) × RefusesTable bits why)

-- why there is no table
abbrev pub HasNoTable : Option Object → Fault → Type 0
HasNoTable old why = HasNone table_in old why

-- the table of a handle, or why there is none for a second handle
abbrev pub FindsTable : Result (Arc Routes Global) Fault → Option Object → Type 0
FindsTable (Ok t) old = HasTable old (λ u. t.value ≡ u)
FindsTable (Err why) old = HasTable old (λ u. why ≡ fault.Memory) ⊎ HasNoTable old why

-- the table of the first handle is in the second, too, which was empty; otherwise both are as they were
abbrev pub Shares : Outcome → Option Object → Option Object → Option Object → Option Object → Type 0
Shares (Ok count) old new second_old second_new =
    (count ≡ 0) × (new ≡ old) × (second_old ≡ None) × HasTable old (λ t. HasTable second_new (λ u. u ≡ t))
Shares (Err why) old new second_old second_new =
    (new ≡ old) × (second_new ≡ second_old)
    × ((why ≡ fault.Used) ⊎ (HasTable old (λ t. why ≡ fault.Memory) ⊎ HasNoTable old why))

-- the fault for one of the table's own
abbrev pub fault_of : RouteFault → Fault
fault_of BadDepth = fault.Depth
fault_of BadHop = fault.Hop
fault_of NoGroup = fault.Groups
fault_of Memory = fault.Memory
fault_of NoRoute = fault.NoRoute

-- why a route isn't added, in the order of the tests
abbrev pub RefusesAdd : Routes → ℕ → ℕ → ℕ → RouteFault → Type 0
RefusesAdd t address depth hop BadDepth = IsDepth depth → ⊥
RefusesAdd t address depth hop BadHop = IsDepth depth × (2 ^ 24 ≤ hop)
RefusesAdd t address depth hop NoGroup = IsDepth depth × (hop < 2 ^ 24) × NeedsTooMany t address depth hop
RefusesAdd t address depth hop Memory = Accepts t address depth hop
RefusesAdd t address depth hop NoRoute = ⊥

-- a route was added, or its hop changed; or the table is as it was, since other handles share it or for the reason given
abbrev pub Adds : Outcome → ℕ → ℕ → ℕ → Routes → Routes → Type 0
Adds (Ok count) address depth hop t u =
    (count ≡ 0) × Accepts t address depth hop × HasMembers t u (with_route t address depth hop)
Adds (Err why) address depth hop t u =
    (u ≡ t) × ((why ≡ fault.Shared) ⊎ (reason : RouteFault) × (why ≡ fault_of reason) × RefusesAdd t address depth hop reason)

-- why a route isn't removed, in the order of the tests
abbrev pub RefusesRemoval : Routes → ℕ → ℕ → RouteFault → Type 0
RefusesRemoval t address depth BadDepth = IsDepth depth → ⊥
RefusesRemoval t address depth BadHop = ⊥
RefusesRemoval t address depth NoGroup = ⊥
RefusesRemoval t address depth Memory = ⊥
RefusesRemoval t address depth NoRoute = LacksRoute t address depth

abbrev pub Removes : Outcome → ℕ → ℕ → Routes → Routes → Type 0
Removes (Ok count) address depth t u =
    (count ≡ 0) × HasRoute t address depth × HasMembers t u (without_route t address depth)
Removes (Err why) address depth t u =
    (u ≡ t) × ((why ≡ fault.Shared) ⊎ (reason : RouteFault) × (why ≡ fault_of reason) × RefusesRemoval t address depth reason)

-- the hop of the longest route that covers an address, or that there is none
abbrev pub hop_found : Option ℕ → Outcome
hop_found None = Err fault.NoRoute
hop_found (Some hop) = Ok hop

-- the same as a number of 32 bits: none is the greatest
abbrev pub hop_word : Option ℕ → ℕ
hop_word None = 2 ^ 32 - 1
hop_word (Some hop) = hop

-- these numbers for a list of addresses
abbrev pub hop_words : Members → List ℕ → List ℕ
hop_words routes addresses = map (λ address. hop_word (lookup_in routes address)) addresses

-- each place of `hops` has what a lookup of the address at that place returns, or the counts differ and nothing changed
abbrev pub LooksUpAll : Outcome → List ℕ → List ℕ → List ℕ → Members → Type 0
LooksUpAll (Ok count) addresses hops words routes =
    (count ≡ 0) × (words ≡ hop_words routes addresses)
LooksUpAll (Err why) addresses hops words routes =
    (why ≡ fault.Count) × (length addresses ≢ length hops) × (words ≡ hops)
