use Rattle.std.proofs.Common.{rules, ◌≡◌, ◌+◌, Some, refl, sym, ap, subst, arith}
use Rattle.ringcore_laws.specs.FreeRings.{AreSingle}
use Rattle.ringcore_laws.specs.Sound.{occurrences_in, holds}
use Rattle.fabric.specs.Hands.{rings_of, view}
use Rattle.fabric.proofs.Told.{ring_at}
use Rattle.ringapi.proofs.Singles.{single_drop}
use Rattle.ringapi.specs.Views.{by_burst}
use Rattle.stages.specs.declared.stage_fault.StageFault.TheVariants.{Worn}
use Rattle.stages.proofs.Custody.{holds_some, is_first, put_kept}
use Rattle.stages.proofs.Settled.{refused_party}
use Rattle.stages.proofs.threads.ring_access.RingAccess.send.Goals as goal

pub loop-init : goal.loop-init
loop-init g c = record { iterator = (tt, tt); yours = c.requires.yours; single = c.requires.single; kept = λ others had. had }

pub put_own_burst_from-requires : goal.put_own_burst_from-requires
put_own_burst_from-requires g c =
    let port = c.loop.self in
    let hand = c.take_hand-hand.result in (
      search rules,
      (
        search rules,
        (
          search rules,
          (
            port.of hand c.take_hand-hand.ensures,
            (
              omega (arith, c.requires.ring, port.rings.many),
              λ plan there. record {
                owned = c.loop.invariant.yours hand c.take_hand-hand.ensures;
                single = λ free. c.loop.invariant.single (is_first (rings_of port.fabric.now) port.rings c.args.ring plan c.requires.ring there free);
              },
            ),
          ),
        ),
      ),
    )

pub loop-preserved-in-Done : goal.loop-preserved-in-Done
loop-preserved-in-Done g c =
    let tags = g.T.Tagged.numbers in
    let port = c.loop.self in
    let hand = c.take_hand-hand.result in
    let is = c.take_hand-hand.ensures in
    let known = ring_at (rings_of port.fabric.now) c.args.ring (omega (arith, c.requires.ring, port.rings.many)) in
    let told = c.in-Done.ensures.exact known.0 known.1 in
    let kept = put_kept tags 256 by_burst c.args.ring known.0 (view hand) c.in-Done.hand c.in-Done.field-1 c.loop.list c.put_own_burst_from.new.list told in
    record {
      iterator = (tt, tt);
      yours = holds_some tags c.in-Done.hand (λ b. occurrences_in tags b c.put_own_burst_from.new.list)
          (λ b. omega (arith, kept (λ _. 0) (λ n. omega (arith, c.loop.invariant.yours hand is n)) b));
      single = λ first. subst (AreSingle tags) (sym told.2.1) (single_drop tags c.in-Done.field-1.count c.loop.list (c.loop.invariant.single first));
      kept = λ others had. holds_some tags c.in-Done.hand (λ b. occurrences_in tags b c.put_own_burst_from.new.list + others b)
          (kept others (c.loop.invariant.kept others had hand is));
    }

pub loop-preserved-in-Done-2 : goal.loop-preserved-in-Done-2
loop-preserved-in-Done-2 g c =
    let tags = g.T.Tagged.numbers in
    let port = c.loop.self in
    let hand = c.take_hand-hand.result in
    let is = c.take_hand-hand.ensures in
    let known = ring_at (rings_of port.fabric.now) c.args.ring (omega (arith, c.requires.ring, port.rings.many)) in
    let told = c.in-Done.ensures.exact known.0 known.1 in
    let kept = put_kept tags 256 by_burst c.args.ring known.0 (view hand) c.in-Done.hand c.in-Done.field-1 c.loop.list c.put_own_burst_from.new.list told in
    record {
      iterator = (tt, tt);
      yours = holds_some tags c.in-Done.hand (λ b. occurrences_in tags b c.put_own_burst_from.new.list)
          (λ b. omega (arith, kept (λ _. 0) (λ n. omega (arith, c.loop.invariant.yours hand is n)) b));
      single = λ first. subst (AreSingle tags) (sym told.2.1) (single_drop tags c.in-Done.field-1.count c.loop.list (c.loop.invariant.single first));
      kept = λ others had. holds_some tags c.in-Done.hand (λ b. occurrences_in tags b c.put_own_burst_from.new.list + others b)
          (kept others (c.loop.invariant.kept others had hand is));
    }

pub loop-preserved : goal.loop-preserved
loop-preserved g c =
    let tags = g.T.Tagged.numbers in
    let port = c.loop.self in
    let hand = c.take_hand-hand.result in
    let is = c.take_hand-hand.ensures in
    let rest = c.put_own_burst_from.new.list in
    let known = ring_at (rings_of port.fabric.now) c.args.ring (omega (arith, c.requires.ring, port.rings.many)) in
    let same = refused_party tags 256 by_burst c.args.ring known.0 (view hand) c.in-Refused.hand c.in-Refused.refusal c.loop.list rest
    (c.in-Refused.ensures.exact known.0 known.1) in
    record {
      iterator = (tt, tt);
      yours = holds_some tags c.in-Refused.hand (λ b. occurrences_in tags b rest)
          (λ b. omega (arith, c.loop.invariant.yours hand is b, ap (holds tags b) same.0, ap (occurrences_in tags b) same.1));
      single = λ first. subst (AreSingle tags) (sym same.1) (c.loop.invariant.single first);
      kept = λ others had. holds_some tags c.in-Refused.hand (λ b. occurrences_in tags b rest + others b)
          (λ b. omega (arith, c.loop.invariant.kept others had hand is b, ap (holds tags b) same.0, ap (occurrences_in tags b) same.1));
    }

pub returns-in-Some-fault_of-clause-exact : goal.returns-in-Some-fault_of-clause-exact
returns-in-Some-fault_of-clause-exact g c = (
  c.take_hand-hand.result,
  c.in-Refused.hand,
  refl,
  c.loop.list,
  c.in-Refused.refusal,
  (
    (λ is. let told : c.in-Some-fault_of.fault ≡ Worn = cc (c.in-Some-fault_of.ensures.worn.0 is) in told),
    (λ told. c.in-Some-fault_of.ensures.worn.1 (ap Some told)),
  ),
  λ plan there. c.in-Refused.ensures.exact plan there,
)

pub returns-in-Some-fault_of-clause-kept : goal.returns-in-Some-fault_of-clause-kept
returns-in-Some-fault_of-clause-kept g c others had =
    let tags = g.T.Tagged.numbers in
    let port = c.loop.self in
    let hand = c.take_hand-hand.result in
    let known = ring_at (rings_of port.fabric.now) c.args.ring (omega (arith, c.requires.ring, port.rings.many)) in
    let same = refused_party tags 256 by_burst c.args.ring known.0 (view hand) c.in-Refused.hand c.in-Refused.refusal c.loop.list
    c.put_own_burst_from.new.list (c.in-Refused.ensures.exact known.0 known.1) in
    holds_some tags c.in-Refused.hand (λ b. occurrences_in tags b c.put_own_burst_from.new.list + others b)
    (λ b. omega (arith, c.loop.invariant.kept others had hand c.take_hand-hand.ensures b, ap (holds tags b) same.0, ap (occurrences_in tags b) same.1))

pub returns-then-len-eq0-clause-kept : goal.returns-then-len-eq0-clause-kept
returns-then-len-eq0-clause-kept g c = c.loop.invariant.kept
