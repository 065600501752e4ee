-- Ends: one side of one ring with the port that uses it, and what their calls do to that port
use Rattle.std.specs.Prelude.{◌≡◌, ℕ, ◌≤◌, ◌<◌, ⊤, Result, List, [], ◌++◌, drop, length, take, Ok, Err}
use Rattle.geom.specs.declared.plan.Side.TheVariants.{Put, Take}
use Rattle.burst.specs.declared.tagged.Tagged.{Ghosts}
use Rattle.fabric_laws.specs.Changes.{settled}
use Rattle.fabric.specs.Hands.{OnRing}
use Rattle.fabric.specs.Held.{span_at}
use Rattle.fabric.specs.OneCalls.{MovesOne, RefusesPutOne, RefusesTakeOne}
use Rattle.fabric.specs.Places.{place_ring}
use Rattle.fabric.specs.Refused.{IsUnsettled}
use Rattle.fabric.specs.declared.hand.in_place.OpenSpan.TheVariants as open_span
use Rattle.fabric.specs.declared.hand.in_place.Reserved.{Reserved}
use Rattle.fabric.specs.declared.stored.Stored.{Ghosts as StoredGhosts}
use Rattle.ringapi.specs.Ports.{IsIdleOn, IsOpen, RefusesOn, SamePort, port_rings, port_span, port_view}
use Rattle.ringapi.specs.declared.ends.Consumer.{Consumer}
use Rattle.ringapi.specs.declared.ends.Producer.{Producer}
use Rattle.ringapi.specs.declared.port.Port.{Port}
use Rattle.ringapi.specs.declared.port_fault.PortFault.{PortFault}
use Rattle.ringapi.specs.declared.port_fault.PortFault.TheVariants.{NoRing, Open, NotOpen, Start, Settle}

module _ {T : Type 0} {S : Type 0} {G : Ghosts T} {H : StoredGhosts S T} {N : ℕ} where
  abbrev pub producer_port : Producer T N S G H → Port T N S G H
  producer_port p = p.port

  abbrev pub producer_ring : Producer T N S G H → ℕ
  producer_ring p = place_ring p.at

  abbrev pub consumer_port : Consumer T N S G H → Port T N S G H
  consumer_port c = c.port

  abbrev pub consumer_ring : Consumer T N S G H → ℕ
  consumer_ring c = place_ring c.at

  -- why a port can't become an end of a ring
  abbrev pub RefusesEnd : Port T N S G H → ℕ → PortFault → Type 0
  RefusesEnd p ring NoRing = length (port_rings p) ≤ ring
  RefusesEnd p ring Open = (ring < length (port_rings p)) × IsOpen (port_span p)
  RefusesEnd p ring NotOpen = ⊥
  RefusesEnd p ring (Start e) = ⊥
  RefusesEnd p ring (Settle r e) = ⊥

  module _ (tags : T → List ℕ) where
    -- a put of one item: its span was opened and settled with it; or none was, or one stays open
    abbrev pub PutsOne : ℕ → List T → Port T N S G H → Port T N S G H → Result ⊤ PortFault → Type 0
    PutsOne ring items p q (Ok done) = IsIdleOn p ring × (port_span q ≡ open_span.Idle) × (r : Reserved)
        × MovesOne tags p.fabric.value N ring (port_view p) Put r [] (take r.range.count items) (port_view q)
    PutsOne ring items p q (Err why) = RefusesOn p ring q ⊤
        (RefusesPutOne tags p.fabric.value N ring (port_view p) items (port_span q) (port_view q)) why

    -- a take of one word, to a slice of one place
    abbrev pub TakesOne : ℕ → List T → List T → Port T N S G H → Port T N S G H → Result ⊤ PortFault → Type 0
    TakesOne ring before after p q (Ok done) = IsIdleOn p ring × (port_span q ≡ open_span.Idle)
        × (r : Reserved) × (length (take r.range.count after) ≡ r.range.count)
        × (after ≡ take r.range.count after ++ drop r.range.count before) × MovesOne tags p.fabric.value N ring (port_view p) Take
        r (take r.range.count after) (take r.range.count after) (port_view q)
    TakesOne ring before after p q (Err why) = RefusesOn p ring q (after ≡ before)
        (RefusesTakeOne tags p.fabric.value N ring (port_view p) before after (port_span q) (port_view q)) why

    -- a settle of the open span with these items; where it is refused, the span stays open
    abbrev pub FinishesPut : List T → Port T N S G H → Port T N S G H → Result ⊤ PortFault → Type 0
    FinishesPut items p q (Ok done) = (r : Reserved) × (port_span p ≡ open_span.Put r) × (port_span q ≡ open_span.Idle)
        × (port_view q ≡ settled (span_at Put r) items (port_view p))
    FinishesPut items p q (Err NoRing) = ⊥
    FinishesPut items p q (Err Open) = ⊥
    FinishesPut items p q (Err NotOpen) = ((r : Reserved) → port_span p ≡ open_span.Put r → ⊥) × SamePort p q
    FinishesPut items p q (Err (Start e)) = ⊥
    FinishesPut items p q (Err (Settle r e)) = (port_span p ≡ open_span.Put r) × (port_span q ≡ open_span.Put r)
        × OnRing p.fabric.value r.ring
        (λ plan. IsUnsettled tags plan (span_at Put r) (length items) items (port_view p) (port_view q) e)

    -- the same of a take, with the words that it showed
    abbrev pub FinishesTake : List T → Port T N S G H → Port T N S G H → Result ⊤ PortFault → Type 0
    FinishesTake words p q (Ok done) = (r : Reserved) × (port_span p ≡ open_span.Take r) × (port_span q ≡ open_span.Idle)
        × (port_view q ≡ settled (span_at Take r) words (port_view p))
    FinishesTake words p q (Err NoRing) = ⊥
    FinishesTake words p q (Err Open) = ⊥
    FinishesTake words p q (Err NotOpen) = ((r : Reserved) → port_span p ≡ open_span.Take r → ⊥) × SamePort p q
    FinishesTake words p q (Err (Start e)) = ⊥
    FinishesTake words p q (Err (Settle r e)) = (port_span p ≡ open_span.Take r) × (port_span q ≡ open_span.Take r)
        × OnRing p.fabric.value r.ring
        (λ plan. IsUnsettled tags plan (span_at Take r) (length words) [] (port_view p) (port_view q) e)
