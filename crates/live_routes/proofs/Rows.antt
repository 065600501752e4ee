-- Worked cases, which the checker computes: what a list of changes makes of routes, next hops and ports.
use Rattle.std.proofs.Common.{◌≡◌, ℕ, [], ◌∷◌, fold, refl}
use Rattle.std.specs.FinMap as map
use Rattle.lpm.specs.Prefixes.{prefix_of}
use Rattle.live_routes.specs.Forwarding.{Forwarding, opening}
use Rattle.live_routes.specs.Changes.{applied}
use Rattle.live_routes.specs.declared.change.Change.TheVariants.{Add, Remove, Clear, SetHop, SetPort}

abbrev start : Forwarding ℕ ℕ
start = opening 16 4 (10 ∷ 11 ∷ []) (1 ∷ 2 ∷ [])

pub hops_changed : (fold applied start (SetHop 1 21 ∷ SetHop 0 20 ∷ SetHop 1 31 ∷ [])).hops ≡ 20 ∷ 31 ∷ []
hops_changed = refl

pub ports_changed : (fold applied start (SetPort 0 9 ∷ SetHop 0 20 ∷ [])).ports ≡ 9 ∷ 2 ∷ []
ports_changed = refl

-- a route takes nothing from the next hops, and 10.1.9.9 is 167840009
pub one_route : (fold applied start (Add 167840009 16 1 ∷ [])).members ≡ map.insert map.empty (prefix_of 167837696 16) 1
one_route = refl

pub hops_stay : (fold applied start (Add 167840009 16 1 ∷ Clear ∷ [])).hops ≡ 10 ∷ 11 ∷ []
hops_stay = refl

pub cleared : (fold applied start (Add 167840009 16 1 ∷ SetHop 0 5 ∷ Clear ∷ [])).members ≡ map.empty
cleared = refl

pub added_again : (fold applied start (Clear ∷ Add 167840009 32 7 ∷ [])).members ≡ map.insert map.empty
    (prefix_of 167840009 32) 7
added_again = refl

pub removed : (fold applied start (Add 167840009 32 7 ∷ Remove 167840009 32 ∷ [])).members
    ≡ map.remove (map.insert map.empty (prefix_of 167840009 32) 7) (prefix_of 167840009 32)
removed = refl
