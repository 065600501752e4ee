-- Frames whose destinations were looked up, and the ports of verdicts
use Rattle.std.proofs.Common.{◌≡◌, ◌<◌, ◌≤◌, ℕ, Bool, List, arith, length, map, refl, subst, sym, take}
use Rattle.std.proofs.lemmas.List.{length-map, length-take}
use Rattle.lpm.specs.Match.{lookup_in}
use Rattle.ipv4.specs.declared.ports.Hop.{Hop}
use Rattle.ipv4.specs.declared.verdicts.Verdict.{Verdict}
use Rattle.ipv4.specs.declared.verdicts.Verdict.TheVariants.{Send, Drop}
use Rattle.ipv4.specs.Forwarding.{forwarded_along, forwarded_by}
use Rattle.ipv4.specs.Ports.{way_in}
use Rattle.ipv4.specs.declared.ports.Way.{Way}
use Rattle.ipv4.proofs.Ways.{found_by_a_port}
use Rattle.live_routes.specs.Forwarding.{Forwarding}
use Rattle.std.specs.Prelude.{Option, option_and_then}
use Rattle.live_routes.specs.Frames.{HasSmallPort, address_of, all_left_by, found_number, found_numbers, left, left_by, verdict_by}
use Rattle.live_routes.specs.Ports.{sources_of}
use Rattle.live_routes.specs.declared.frame.Frame.{Frame}
use Rattle.live_routes.specs.declared.ports.Port.{Port}
use Rattle.live_routes.proofs.Places.{map-zip}

small : (v : Verdict) (n : ℕ) → ((port : ℕ) (tagged : Bool) → v ≡ Send port tagged → port < n) → n ≤ 256 → HasSmallPort v
small (Send port tagged) n is few = let below = is port tagged refl in omega (arith, below, few)
small (Drop reason) n is few = tt

few_sources : (ports : List Port) → length (sources_of ports) ≤ 256
few_sources ports = omega (arith, length-map (take 256 ports) (λ p. p.mac), length-take 256 ports)

small_found : (hops : List Hop) (ports : List Port) (found : Option ℕ) (frame : List ℕ) (wire : ℕ)
    → HasSmallPort (forwarded_by hops (sources_of ports) found frame wire).verdict
small_found hops ports found frame wire =
    small (forwarded_by hops (sources_of ports) found frame wire).verdict (length (sources_of ports))
    (found_by_a_port hops (sources_of ports) found frame wire) (few_sources ports)

-- where a way leads that a lookup found
pub small_way : (hops : List Hop) (ports : List Port) (found : Option ℕ) (frame : List ℕ) (wire : ℕ) (way : Option Way)
    → way ≡ option_and_then (way_in hops (sources_of ports)) found → HasSmallPort (forwarded_along way frame wire).verdict
small_way hops ports found frame wire way is =
    subst (λ w. HasSmallPort (forwarded_along w frame wire).verdict) (sym is) (small_found hops ports found frame wire)

module _ (r : Forwarding Hop Port) where
  pub numbers_found : (fs : List Frame) → found_numbers r.hops (sources_of r.ports) (map (λ f. lookup_in r.members (address_of f)) fs) fs
      ≡ map (verdict_by r) fs
  numbers_found fs = map-zip (found_number r.hops (sources_of r.ports)) (λ f. lookup_in r.members (address_of f)) fs

  pub all_left_found : (fs : List Frame) → all_left_by r.hops (sources_of r.ports) (map (λ f. lookup_in r.members (address_of f)) fs) fs
      ≡ map (left r) fs
  all_left_found fs = map-zip (left_by r.hops (sources_of r.ports)) (λ f. lookup_in r.members (address_of f)) fs
