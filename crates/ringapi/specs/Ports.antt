-- A hand with its rings in one value, and why its calls are refused
use Rattle.std.specs.Prelude.{◌≡◌, ℕ, ◌<◌, ◌≤◌, ⊤, List, length}
use Rattle.geom.specs.declared.plan.RingPlan.{RingPlan}
use Rattle.burst.specs.declared.tagged.Tagged.{Ghosts}
use Rattle.fabric_laws.specs.declared.view.View.{View}
use Rattle.fabric.specs.declared.hand.in_place.OpenSpan.{OpenSpan}
use Rattle.fabric.specs.declared.hand.in_place.OpenSpan.TheVariants as open_span
use Rattle.fabric.specs.declared.hand.in_place.WholeFault.{WholeFault}
use Rattle.fabric.specs.declared.hand.in_place.WholeFault.TheVariants as whole
use Rattle.fabric.specs.declared.stored.Stored.{Ghosts as StoredGhosts}
use Rattle.fabric.specs.Hands.{rings_of}
use Rattle.fabric.specs.InPlace.{placed_view}
use Rattle.ringapi.specs.declared.port.Port.{Port}
use Rattle.ringapi.specs.declared.port_fault.PortFault.{PortFault}
use Rattle.ringapi.specs.declared.port_fault.PortFault.TheVariants.{NoRing, Open, NotOpen, Start, Settle}

-- a span is open
abbrev pub IsOpen : OpenSpan → Type 0
IsOpen open_span.Idle = ⊥
IsOpen (open_span.Put r) = ⊤
IsOpen (open_span.Take r) = ⊤
IsOpen (open_span.Held r) = ⊤

module _ {T : Type 0} {S : Type 0} {G : Ghosts T} {H : StoredGhosts S T} {N : ℕ} where
  abbrev pub port_rings : Port T N S G H → List RingPlan
  port_rings p = rings_of p.fabric.value

  abbrev pub port_view : Port T N S G H → View T
  port_view p = placed_view p.hand

  abbrev pub port_span : Port T N S G H → OpenSpan
  port_span p = p.hand.span

  -- the port is as it was
  pub record SamePort (p q : Port T N S G H) : Type 0 where
    pub fabric : q.fabric ≡ p.fabric
    pub hand : q.hand ≡ p.hand

  -- there is a ring of this number, and no span is open
  pub record IsIdleOn (p : Port T N S G H) (ring : ℕ) : Type 0 where
    pub there : ring < length (port_rings p)
    pub idle : port_span p ≡ open_span.Idle

  -- why a call on a ring was refused: there is no such ring, or a span is open, and nothing was done; or what its start
  -- or its settle found
  abbrev pub RefusesOn : Port T N S G H → ℕ → Port T N S G H → Type 0 → (WholeFault → Type 0) → PortFault → Type 0
  RefusesOn p ring q same found NoRing = (length (port_rings p) ≤ ring) × SamePort p q × same
  RefusesOn p ring q same found Open = (ring < length (port_rings p)) × IsOpen (port_span p) × SamePort p q × same
  RefusesOn p ring q same found NotOpen = ⊥
  RefusesOn p ring q same found (Start e) = IsIdleOn p ring × found (whole.Start e)
  RefusesOn p ring q same found (Settle r e) = IsIdleOn p ring × found (whole.Settle r e)
