-- What calls on a forwarding table do, by its one writer
use Rattle.std.specs.Prelude.{◌≡◌, ◌<◌, ◌≤◌, ◌≢◌, ◌^◌, ◌-◌, ◌⊎◌, ◌↔◌, ℕ, true, false, min, List, length, Option, None, Some, Result, Ok, Err, IfOk, IfErr, OnOk, OnErr}
use Rattle.std.specs.FinMap as map_of
use Rattle.ipv4.specs.declared.ports.Hop.{Hop}
use Rattle.lpm.specs.Listing.{IsFirstFrom, NoneFrom}
use Rattle.lpm.specs.Prefixes.{IsDepth, prefix_of}
use Rattle.lpm.specs.Routes.{LacksRoute, NeedsTooMany}
use Rattle.lpm.specs.declared.fault.RouteFault.{RouteFault}
use Rattle.lpm.specs.declared.fault.RouteFault.TheVariants as table
use Rattle.live_routes.specs.Forwarding.{Forwarding, opening, routes_of, with_hop, with_port, with_route, without_route, without_routes}
use Rattle.live_routes.specs.Routing.{Keeps, Prepares, Routing}
use Rattle.live_routes.specs.declared.fault.LiveFault.{LiveFault}
use Rattle.live_routes.specs.declared.fault.LiveFault.TheVariants as live
use Rattle.live_value.specs.Lanes.{Glance}
use Rattle.live_value.specs.Pasts.{followed, only}
use Rattle.live_routes.specs.Ports.{IsPossible}
use Rattle.live_routes.specs.declared.ports.Port.{Port}
use Rattle.capi.specs.Codes.{Outcome}
use Rattle.capi.specs.Forwards.{HasForward}
use Rattle.capi.specs.Handles.{IsEmpty, IsOther}
use Rattle.capi.specs.Tables.{fault_of}
use Rattle.capi.specs.declared.fibs.FibRoute.{FibRoute}
use Rattle.capi.specs.declared.object.Object.{Object}
use Rattle.capi.specs.declared.object.Object.TheVariants as object
use Rattle.capi.specs.declared.rings.fault.Fault.{Fault}
use Rattle.capi.specs.declared.rings.fault.Fault.TheVariants as fault

-- what the writer has published, what it will publish next, whether it can be changed, how many changes aren't seen
abbrev pub State : Type 0
State = Routing Hop Port

-- the fault for one of the writer's own
abbrev pub live_fault_of : LiveFault → Fault
live_fault_of live.BadDepth = fault.Depth
live_fault_of live.BadHop = fault.Hop
live_fault_of live.NoGroup = fault.Groups
live_fault_of live.Memory = fault.Memory
live_fault_of live.NoRoute = fault.NoRoute
live_fault_of live.BadPort = fault.Count
live_fault_of live.Pending = fault.Pending

abbrev pub done_of : Result (Unit {0}) LiveFault → Outcome
done_of (Ok done) = Ok 0
done_of (Err why) = Err (live_fault_of why)

-- a depth above 255 is as 255: no route has it
abbrev pub depth_of : ℕ → ℕ
depth_of depth = min depth 255

-- a count as 32 bits
abbrev pub count_of : ℕ → ℕ
count_of count = min count (2 ^ 32 - 1)

-- the handle has the writer, of which this holds
abbrev pub HasFib : Option Object → (State → Type 0) → Type 0
HasFib None holds = ⊥
HasFib (Some (object.Fib r)) holds = holds r
HasFib (Some (object.Forward f)) holds = ⊥
HasFib (Some (object.Hand m)) holds = ⊥
HasFib (Some (object.Leftover r)) holds = ⊥
HasFib (Some (object.Pool p)) holds = ⊥
HasFib (Some (object.Routes t)) holds = ⊥
HasFib (Some (object.Reorder w)) holds = ⊥

-- why there is no writer
abbrev pub HasNoFib : Option Object → Fault → Type 0
HasNoFib None why = why ≡ fault.Empty
HasNoFib (Some (object.Fib r)) why = ⊥
HasNoFib (Some (object.Forward f)) why = why ≡ fault.Kind
HasNoFib (Some (object.Hand m)) why = why ≡ fault.Kind
HasNoFib (Some (object.Leftover r)) why = why ≡ fault.Kind
HasNoFib (Some (object.Pool p)) why = why ≡ fault.Kind
HasNoFib (Some (object.Routes t)) why = why ≡ fault.Kind
HasNoFib (Some (object.Reorder w)) why = why ≡ fault.Kind

-- a call of the writer: what it does
abbrev pub AtFib : Option Object → Option Object → Outcome → (State → State → Type 0) → Type 0
AtFib None new outcome does = IsEmpty outcome new
AtFib (Some (object.Fib r)) new outcome does = HasFib new (does r)
AtFib (Some (object.Forward f)) new outcome does = IsOther outcome (object.Forward f) new
AtFib (Some (object.Hand m)) new outcome does = IsOther outcome (object.Hand m) new
AtFib (Some (object.Leftover r)) new outcome does = IsOther outcome (object.Leftover r) new
AtFib (Some (object.Pool p)) new outcome does = IsOther outcome (object.Pool p) new
AtFib (Some (object.Routes t)) new outcome does = IsOther outcome (object.Routes t) new
AtFib (Some (object.Reorder w)) new outcome does = IsOther outcome (object.Reorder w) new

-- no routes, and these next hops and ports, are published, and nothing else is prepared
pub record IsOpened (r : State) (bits groups : ℕ) (ports : List Port) (hops : List Hop) : Type 0 where
  pub seen : r.seen ≡ only (opening bits groups hops ports)
  pub prepared : r.prepared ≡ opening bits groups hops ports
  pub settled : r.settled ≡ true
  pub pending : r.pending ≡ 0

-- there is no such forwarding table
abbrev pub IsImpossible : ℕ → List Port → List Hop → Type 0
IsImpossible bits ports hops = ((bits ≢ 16) × (bits ≢ 24)) ⊎ (IsPossible ports hops → ⊥)

-- a new table is in the handle, which was empty; otherwise that is as it was
abbrev pub OpensFib : Outcome → ℕ → ℕ → List Port → List Hop → Option Object → Option Object → Type 0
OpensFib (Ok count) bits groups ports hops old new =
    (count ≡ 0) × (old ≡ None) × ((bits ≡ 16) ⊎ (bits ≡ 24)) × IsPossible ports hops
    × HasFib new (λ r. IsOpened r bits groups ports hops)
OpensFib (Err why) bits groups ports hops old new =
    (new ≡ old) × ((why ≡ fault.Used) ⊎ (((why ≡ fault.Plan) × IsImpossible bits ports hops) ⊎ (why ≡ fault.Memory)))

-- a reader that has seen all that was published, or why there is none for a second handle
abbrev pub FindsReader : Result (Glance (Forwarding Hop Port)) Fault → Option Object → Option Object → Type 0
FindsReader (Ok g) old new = (new ≡ old) × HasFib old (λ r. g.seen ≡ r.seen)
FindsReader (Err why) old new = (new ≡ old) × (HasFib old (λ r. why ≡ fault.Memory) ⊎ HasNoFib old why)

-- such a reader is in the second handle, which was empty; otherwise both are as they were
abbrev pub SharesAt : Outcome → Option Object → Option Object → Option Object → Option Object → Type 0
SharesAt (Ok count) old new second_old second_new =
    (count ≡ 0) × (new ≡ old) × (second_old ≡ None) × HasFib old (λ r. HasForward second_new (λ g. g.seen ≡ r.seen))
SharesAt (Err why) old new second_old second_new =
    (new ≡ old) × (second_new ≡ second_old)
    × ((why ≡ fault.Used) ⊎ (HasFib old (λ r. why ≡ fault.Memory) ⊎ HasNoFib old why))

-- what a call answers that adds a route, as the writer's `add` has it
pub record IsAdded (answer : Result (Unit {0}) LiveFault) (address depth hop : ℕ) (r s : State) : Type 0 where
  pub ok : OnOk answer (Prepares r s (with_route r.prepared address depth hop))
  pub pending : (answer ≡ Err live.Pending) ↔ (s.settled ≡ false)
  pub bad_depth : (answer ≡ Err live.BadDepth) ↔ ((s.settled ≡ true) × (IsDepth depth → ⊥))
  pub bad_hop : (answer ≡ Err live.BadHop) ↔ ((s.settled ≡ true) × IsDepth depth × (2 ^ 24 ≤ hop))
  pub no_group : (answer ≡ Err live.NoGroup)
      ↔ ((s.settled ≡ true) × IsDepth depth × (hop < 2 ^ 24) × NeedsTooMany (routes_of r.prepared) address depth hop)
  pub never : ((answer ≡ Err live.NoRoute) → ⊥) × ((answer ≡ Err live.BadPort) → ⊥)
  pub err : OnErr answer (Keeps r s)

abbrev pub Adds : Outcome → ℕ → ℕ → ℕ → State → State → Type 0
Adds outcome address depth hop r s =
    (answer : Result (Unit {0}) LiveFault) × (outcome ≡ done_of answer) × IsAdded answer address (depth_of depth) hop r s

-- the same for one that removes a route
pub record IsRemoved (answer : Result (Unit {0}) LiveFault) (address depth : ℕ) (r s : State) : Type 0 where
  pub ok : OnOk answer (Prepares r s (without_route r.prepared address depth))
  pub pending : (answer ≡ Err live.Pending) ↔ (s.settled ≡ false)
  pub bad_depth : (answer ≡ Err live.BadDepth) ↔ ((s.settled ≡ true) × (IsDepth depth → ⊥))
  pub no_route : (answer ≡ Err live.NoRoute) ↔ ((s.settled ≡ true) × LacksRoute (routes_of r.prepared) address depth)
  pub never : ((answer ≡ Err live.BadHop) → ⊥) × ((answer ≡ Err live.NoGroup) → ⊥) × ((answer ≡ Err live.BadPort) → ⊥)
  pub err : OnErr answer (Keeps r s)

abbrev pub Removes : Outcome → ℕ → ℕ → State → State → Type 0
Removes outcome address depth r s =
    (answer : Result (Unit {0}) LiveFault) × (outcome ≡ done_of answer) × IsRemoved answer address (depth_of depth) r s

-- for one that removes all
pub record IsCleared (answer : Result (Unit {0}) LiveFault) (r s : State) : Type 0 where
  pub ok : OnOk answer (Prepares r s (without_routes r.prepared))
  pub pending : (answer ≡ Err live.Pending) ↔ (s.settled ≡ false)
  pub others : IfErr answer (λ why. (why ≡ live.Pending) ⊎ (why ≡ live.Memory))
  pub err : OnErr answer (Keeps r s)

abbrev pub Clears : Outcome → State → State → Type 0
Clears outcome r s = (answer : Result (Unit {0}) LiveFault) × (outcome ≡ done_of answer) × IsCleared answer r s

-- for one that changes a next hop
pub record IsHopSet (answer : Result (Unit {0}) LiveFault) (number : ℕ) (hop : Hop) (r s : State) : Type 0 where
  pub ok : OnOk answer (Prepares r s (with_hop r.prepared number hop))
  pub pending : (answer ≡ Err live.Pending) ↔ (s.settled ≡ false)
  pub bad_hop : (answer ≡ Err live.BadHop) ↔ ((s.settled ≡ true) × (length r.prepared.hops ≤ number))
  pub others : IfErr answer (λ why. (why ≡ live.Pending) ⊎ ((why ≡ live.BadHop) ⊎ (why ≡ live.Memory)))
  pub err : OnErr answer (Keeps r s)

abbrev pub SetsHop : Outcome → ℕ → Hop → State → State → Type 0
SetsHop outcome number hop r s =
    (answer : Result (Unit {0}) LiveFault) × (outcome ≡ done_of answer) × IsHopSet answer number hop r s

-- for one that changes a port
pub record IsPortSet (answer : Result (Unit {0}) LiveFault) (number : ℕ) (port : Port) (r s : State) : Type 0 where
  pub ok : OnOk answer (Prepares r s (with_port r.prepared number port))
  pub pending : (answer ≡ Err live.Pending) ↔ (s.settled ≡ false)
  pub bad_port : (answer ≡ Err live.BadPort) ↔ ((s.settled ≡ true) × (length r.prepared.ports ≤ number))
  pub others : IfErr answer (λ why. (why ≡ live.Pending) ⊎ ((why ≡ live.BadPort) ⊎ (why ≡ live.Memory)))
  pub err : OnErr answer (Keeps r s)

-- or no port can have such a prefix, and nothing is changed
abbrev pub SetsPort : Outcome → ℕ → Port → State → State → Type 0
SetsPort outcome number port r s =
    ((port.depth ≤ 32) × ((answer : Result (Unit {0}) LiveFault) × (outcome ≡ done_of answer)
    × IsPortSet answer number port r s))
    ⊎ ((32 < port.depth) × (outcome ≡ Err fault.Plan) × (s ≡ r))

-- for one that publishes
pub record IsPublished (answer : Result (Unit {0}) LiveFault) (r s : State) : Type 0 where
  pub ok : OnOk answer ((s.seen ≡ followed r.seen r.prepared) × (s.prepared ≡ r.prepared) × (s.pending ≡ 0))
  pub pending : (answer ≡ Err live.Pending) → (s.settled ≡ false)
  pub err : OnErr answer ((s.seen ≡ r.seen) × (s.prepared ≡ r.prepared) × (s.pending ≡ r.pending))
  pub why : IfErr answer (λ why. (why ≡ live.Pending) ⊎ (why ≡ live.Memory))

abbrev pub Publishes : Outcome → State → State → Type 0
Publishes outcome r s = (answer : Result (Unit {0}) LiveFault) × (outcome ≡ done_of answer) × IsPublished answer r s

-- for one that goes on with the last publish
pub record IsSettled (answer : Result (Unit {0}) LiveFault) (r s : State) : Type 0 where
  pub ok : OnOk answer (s ≡ record r { settled = true })
  pub err : OnErr answer ((s ≡ r) × (r.settled ≡ false))
  pub why : IfErr answer (λ why. (why ≡ live.Pending) ⊎ (why ≡ live.Memory))

abbrev pub Settles : Outcome → State → State → Type 0
Settles outcome r s = (answer : Result (Unit {0}) LiveFault) × (outcome ≡ done_of answer) × IsSettled answer r s

-- the next hop's number of exactly this route among those that are prepared, or why there is none
abbrev pub got_of : Result ℕ RouteFault → Outcome
got_of (Ok hop) = Ok hop
got_of (Err why) = Err (fault_of why)

pub record IsGot (answer : Result ℕ RouteFault) (address depth : ℕ) (f : Forwarding Hop Port) : Type 0 where
  pub ok : IfOk answer (λ hop. IsDepth depth × (map_of.get f.members (prefix_of address depth) ≡ Some hop))
  pub bad_depth : (answer ≡ Err table.BadDepth) ↔ (IsDepth depth → ⊥)
  pub no_route : (answer ≡ Err table.NoRoute) ↔ LacksRoute (routes_of f) address depth
  pub others : IfErr answer (λ why. (why ≡ table.BadDepth) ⊎ (why ≡ table.NoRoute))

abbrev pub Gets : Outcome → ℕ → ℕ → State → State → Type 0
Gets outcome address depth r s =
    (s ≡ r) × ((answer : Result ℕ RouteFault) × (outcome ≡ got_of answer) × IsGot answer address (depth_of depth) r.prepared)

-- the first route that is prepared and isn't before this address and depth, or none is
abbrev pub Walks : Outcome → ℕ → ℕ → FibRoute → FibRoute → State → State → Type 0
Walks (Ok count) address depth before after r s =
    (s ≡ r) × (count ≡ 0)
    × IsFirstFrom r.prepared.members (record { address = address; depth = depth_of depth })
    (record { address = after.address; depth = after.depth }) after.hop
Walks (Err why) address depth before after r s =
    (s ≡ r) × (why ≡ fault.NoRoute) × (after ≡ before)
    × NoneFrom r.prepared.members (record { address = address; depth = depth_of depth })
