use Rattle.std.proofs.Common.{rules, ◌≡◌, ◌≤◌, ℕ, List, Some, None, Err, refl, sym, ap, ◌∙◌, subst, arith, length, Option, IfErr, ◌≢◌}
use Rattle.std.proofs.lemmas.List.{take_all}
use Rattle.stages_laws.specs.Output.{Fate}
use Rattle.run_one.specs.Ports.{AreOutputs, AreBeginnings}
use Rattle.run_one.specs.Tallies.{fates_of}
use Rattle.run_one.specs.Ending.{WhyFaulted}
use Rattle.run_one.specs.Faults.{lowest_of, number_of}
use Rattle.run_one.specs.declared.fault.RunFault.TheVariants.{Write}
use Rattle.run_one.proofs.Devices.{outputs, begun_texts, told_begun, begun_before}
use Rattle.run_one.specs.Failing.{FailedOnce, FailedAt, HidesNoPort}
use Rattle.run_one.proofs.Known.{on_ok, if_err}
use Rattle.run_one.proofs.Failures.{closed_once}
use Rattle.run_one.proofs.Reasons.{any_hidden, lowest_hides, none_hidden, none_lower, why_lowest, why_reason, why_window}
use Rattle.run_one.proofs.summary.end.Goals.{in-Some-Ok, in-Some-Err, in-None-Err, in-None-Ok}
use Rattle.run_one.proofs.summary.end.Goals as goal

pub returns-clause-outputs : goal.returns-clause-outputs
returns-clause-outputs g c =
    let sink = c.args.sink in
    elim c.match-failed.branch [
      | in-Some-Ok w ↦ rw w.told-is (search rules)
      | in-Some-Err w ↦ rw w.told-is (search rules)
      | in-None-Err w ↦ rw w.told-is (search rules)
      | in-None-Ok w ↦
          let well : c.close-devices.result.1 ≡ None = w.in-None-Ok.is-0 in
          let told = c.close-devices.ensures.exact well in
          let one : ((all : List Fate) → fates_of g.J.Run.forwarding g.J.Run.room g.J.Run.input ≡ Some all → c.next-next.result ≡ length all)
          → (all : List Fate) → fates_of g.J.Run.forwarding g.J.Run.room g.J.Run.input ≡ Some all
          → AreOutputs g.W.Write.contents g.J.Run.before g.J.Run.resolution all c.close-devices.result.0.items =
          λ many all known. outputs g.W.Write.contents g.J.Run.before g.J.Run.resolution all sink.window.next sink.outputs.writers.items
          c.close-devices.result.0.items
          (sink.texts all known told.0) told.1 (take_all sink.window.next all (omega (arith, many all known, c.next-next.ensures))) in
          rw w.told-is (on_ok w.summed-told.result one w.summed-told.ensures.all)
    ]

pub returns-clause-begun : goal.returns-clause-begun
returns-clause-begun g c all known =
    let sink = c.args.sink in
    let before = g.J.Run.before in
    at sink.outputs.failed refl c.close-devices.result.1 refl
  where
    at : (was : Option ℕ) → c.args.sink.outputs.failed ≡ was → (now : Option ℕ) → c.close-devices.result.1 ≡ now
        → AreBeginnings g.W.Write.contents g.J.Run.before g.J.Run.resolution all c.close-devices.result.0.items
    at (Some p) was now is =
        begun_before g.W.Write.contents g.J.Run.before g.J.Run.resolution all c.args.sink.outputs.writers.items c.close-devices.result.0.items
        (c.args.sink.begun all p known was) (c.close-devices.ensures.still p was).1
    at None was (Some p) is =
        begun_texts g.W.Write.contents g.J.Run.before g.J.Run.resolution all c.args.sink.window.next c.args.sink.outputs.writers.items
        c.close-devices.result.0.items
        (c.args.sink.texts all known was) (c.close-devices.ensures.cut was p is)
    at None was None is =
        told_begun g.W.Write.contents g.J.Run.before g.J.Run.resolution all c.args.sink.window.next c.args.sink.outputs.writers.items
        c.close-devices.result.0.items
        (c.args.sink.texts all known was) (c.close-devices.ensures.exact is).1

pub returns-clause-cause : goal.returns-clause-cause
returns-clause-cause g c =
    elim c.match-failed.branch [
      | in-Some-Ok w ↦ rw w.told-is (failed_at w.in-Some-Ok.port w.in-Some-Ok.is-0)
      | in-Some-Err w ↦
          rw w.told-is (subst (WhyFaulted g.J.Run.failures c.args.sink.window.next c.args.totals c.close-devices.result.0.items) (sym w.lowest.ensures)
          (subst (λ s. WhyFaulted g.J.Run.failures c.args.sink.window.next s c.close-devices.result.0.items
          (lowest_of w.in-Some-Err.port w.in-Some-Err.fault)) (sym w.in-Some-Err.is-1)
          (why_lowest g.J.Run g.J.Run.failures c.args.sink.window.next c.close-devices.result.0.items w.in-Some-Err.port w.in-Some-Err.fault
          (failed_at w.in-Some-Err.port w.in-Some-Err.is-0))))
      | in-None-Err w ↦
          rw w.told-is (subst (λ s. WhyFaulted g.J.Run.failures c.args.sink.window.next s c.close-devices.result.0.items w.in-None-Err.fault)
          (sym w.in-None-Err.is-1)
          (why_reason g.J.Run g.J.Run.failures c.args.sink.window.next c.close-devices.result.0.items w.in-None-Err.fault
          (λ p is. absurd (cc (sym w.in-None-Err.is-0 ∙ (c.close-devices.ensures.still p (c.requires.failed p (w.in-None-Err.is-1 ∙ ap Err is))).0)))))
      | in-None-Ok w ↦
          rw w.told-is (subst (λ s. IfErr w.summed-told.result (WhyFaulted g.J.Run.failures c.args.sink.window.next s c.close-devices.result.0.items))
          (sym w.in-None-Ok.is-1)
          (if_err w.summed-told.result (λ fault because. why_window g.J.Run g.J.Run.failures c.args.sink.window.next c.close-devices.result.0.items
          w.in-None-Ok.totals fault
          because.0 (subst (λ n. n ≢ w.in-None-Ok.totals.count) c.next-next.ensures because.1)) w.summed-told.ensures.cause))
    ]
  where
    failed_at : (p : ℕ) → c.close-devices.result.1 ≡ Some p → FailedAt g.J.Run.failures p c.close-devices.result.0.items
    failed_at p is = (
      omega (arith, c.close-devices.ensures.port p is, c.close-devices.ensures.length),
      subst (λ f. FailedOnce g.J.Run.failures f c.close-devices.result.0.items) is
          (closed_once g.J.Run.failures c.args.sink.outputs.failed c.close-devices.result.1 c.args.sink.outputs.writers.items c.close-devices.result.0.items
          c.args.sink.failures c.close-devices.ensures.still c.close-devices.ensures.failures),
    )

pub returns-clause-lowest : goal.returns-clause-lowest
returns-clause-lowest g c p reason is was =
    elim c.match-failed.branch [
      | in-Some-Ok w ↦ absurd (cc (sym w.in-Some-Ok.is-1 ∙ was))
      | in-Some-Err w ↦
          let told : Err (lowest_of w.in-Some-Err.port w.in-Some-Err.fault) ≡ Err (Write p) = ap Err (sym w.lowest.ensures) ∙ (sym w.told-is ∙ is) in
          let same : Err w.in-Some-Err.fault ≡ Err reason = sym w.in-Some-Err.is-1 ∙ was in
          subst (λ f. 4 ≤ number_of f) (cc same) (none_lower w.in-Some-Err.port p w.in-Some-Err.fault (cc told))
      | in-None-Err w ↦
          let told : Err w.in-None-Err.fault ≡ Err (Write p) = sym w.told-is ∙ is in
          let same : Err w.in-None-Err.fault ≡ Err reason = sym w.in-None-Err.is-1 ∙ was in
          let e : Write p ≡ reason = cc (told, same) in
          subst (λ f. 4 ≤ number_of f) e (omega arith)
      | in-None-Ok w ↦ absurd (cc (sym w.in-None-Ok.is-1 ∙ was))
    ]

pub returns-clause-ports : goal.returns-clause-ports
returns-clause-ports g c =
    elim c.match-failed.branch [
      | in-Some-Ok w ↦ rw w.told-is tt
      | in-Some-Err w ↦
          rw w.told-is (subst (HidesNoPort g.J.Run.failures c.close-devices.result.0.items) (sym w.lowest.ensures)
          (lowest_hides g.J.Run.failures c.close-devices.result.0.items w.in-Some-Err.port w.in-Some-Err.fault))
      | in-None-Err w ↦ rw w.told-is (none_hidden g.J.Run.failures c.close-devices.result.0.items (none w.in-None-Err.is-0) w.in-None-Err.fault)
      | in-None-Ok w ↦
          rw w.told-is (any_hidden g.J.Run.failures c.close-devices.result.0.items w.summed-told.result (none w.in-None-Ok.is-0))
    ]
  where
    none : c.close-devices.result.1 ≡ None → FailedOnce g.J.Run.failures None c.close-devices.result.0.items
    none is =
        subst (λ f. FailedOnce g.J.Run.failures f c.close-devices.result.0.items) is
        (closed_once g.J.Run.failures c.args.sink.outputs.failed c.close-devices.result.1 c.args.sink.outputs.writers.items c.close-devices.result.0.items
        c.args.sink.failures c.close-devices.ensures.still c.close-devices.ensures.failures)
