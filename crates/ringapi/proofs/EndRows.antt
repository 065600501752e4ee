-- What calls of ends are none, and why a port can't become an end
use Rattle.std.proofs.Common.{◌≡◌, ◌<◌, ℕ, List, Ok, Err, sym, ◌∙◌, arith, subst}
use Rattle.burst.specs.declared.tagged.Tagged.{Ghosts}
use Rattle.fabric.specs.declared.hand.SettleFault.{SettleFault}
use Rattle.fabric.specs.declared.hand.StartFault.{StartFault}
use Rattle.fabric.specs.declared.hand.in_place.OpenSpan.{OpenSpan}
use Rattle.fabric.specs.declared.hand.in_place.OpenSpan.TheVariants as open_span
use Rattle.fabric.specs.declared.hand.in_place.Reserved.{Reserved}
use Rattle.fabric.specs.declared.stored.Stored.{Ghosts as StoredGhosts}
use Rattle.ringapi.specs.Ends.{FinishesPut, FinishesTake, PutsOne, RefusesEnd, TakesOne}
use Rattle.ringapi.specs.Ports.{IsOpen, port_rings, port_span}
use Rattle.ringapi.specs.declared.port.Port.{Port}
use Rattle.ringapi.specs.declared.port_fault.PortFault.TheVariants.{NoRing, Open, NotOpen, Start, Settle}
use Rattle.std.specs.Prelude.{length}

module _ {T : Type 0} {S : Type 0} {G : Ghosts T} {H : StoredGhosts S T} {N : ℕ} (p q : Port T N S G H) (ring : ℕ) where
  -- a port without a span isn't refused as open, nor a ring that is there
  idle_and_open : port_span p ≡ open_span.Idle → RefusesEnd p ring Open → ⊥
  idle_and_open idle is = subst IsOpen idle is.1

  ring_that_is_there : ring < length (port_rings p) → RefusesEnd p ring NoRing → ⊥
  ring_that_is_there there past = absurd (omega (arith, there, past))

  -- no start and no settle refuses an open
  of_a_start : (e : StartFault) → RefusesEnd p ring (Start e) → ⊥
  of_a_start e is = is

  module _ (tags : T → List ℕ) (items after : List T) (r : Reserved) where
    -- a put that is done leaves no span, and none was open; one that is refused as open found one
    puts_with_a_span : port_span p ≡ open_span.Put r → PutsOne tags ring items p q (Ok tt) → ⊥
    puts_with_a_span some is = absurd (let z : ◌≡◌ {A = OpenSpan} open_span.Idle (open_span.Put r) = sym is.0.idle ∙ some in cc)

    puts_and_leaves_a_span : port_span q ≡ open_span.Put r → PutsOne tags ring items p q (Ok tt) → ⊥
    puts_and_leaves_a_span some is = absurd (let z : ◌≡◌ {A = OpenSpan} open_span.Idle (open_span.Put r) = sym is.1 ∙ some in cc)

    idle_and_refused : port_span p ≡ open_span.Idle → PutsOne tags ring items p q (Err Open) → ⊥
    idle_and_refused idle is = subst IsOpen idle is.1

    takes_and_leaves_a_span : port_span q ≡ open_span.Take r → TakesOne tags ring items after p q (Ok tt) → ⊥
    takes_and_leaves_a_span some is = absurd (let z : ◌≡◌ {A = OpenSpan} open_span.Idle (open_span.Take r) = sym is.1 ∙ some in cc)

    -- a finish is one of an open span of its side
    finishes_nothing : port_span p ≡ open_span.Idle → FinishesPut tags items p q (Ok tt) → ⊥
    finishes_nothing idle is = absurd (let z : ◌≡◌ {A = OpenSpan} open_span.Idle (open_span.Put is.0) = sym idle ∙ is.1 in cc)

    finishes_a_take_as_a_put : port_span p ≡ open_span.Take r → FinishesPut tags items p q (Ok tt) → ⊥
    finishes_a_take_as_a_put take is = absurd (let z : ◌≡◌ {A = OpenSpan} (open_span.Take r) (open_span.Put is.0) = sym take ∙ is.1 in cc)

    not_open_with_a_span : port_span p ≡ open_span.Put r → FinishesPut tags items p q (Err NotOpen) → ⊥
    not_open_with_a_span put is = is.0 r put

    gives_up_the_span : (e : SettleFault) → port_span q ≡ open_span.Idle → FinishesTake tags items p q (Err (Settle r e)) → ⊥
    gives_up_the_span e idle is = absurd (let z : ◌≡◌ {A = OpenSpan} open_span.Idle (open_span.Take r) = sym idle ∙ is.1 in cc)
