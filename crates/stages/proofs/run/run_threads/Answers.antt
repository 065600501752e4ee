use Rattle.std.proofs.Common.{rules, ◌≡◌, ◌∙◌, refl, ap, subst, sym, map, length, List, None, Some, IfErr, IfOk, OnOk}
use Rattle.std.proofs.lemmas.List.{length-map}
use Rattle.pcapio.specs.Counted.{told, failures_of, to_come}
use Rattle.pcapio.specs.Reader.{order_of, resolution_of, rest}
use Rattle.pcapio.specs.Writer.{sink_of}
use Rattle.stages_laws.specs.Output.{Fate}
use Rattle.run_one.specs.Ending.{Sums}
use Rattle.run_one.specs.Failing.{HidesNoPort}
use Rattle.run_one.specs.Ports.{AreFresh, AreOutputs, AreBeginnings, devices_of}
use Rattle.run_one.specs.Tallies.{fates_of}
use Rattle.run_one.specs.Whole.{forwarding_by}
use Rattle.run_one.proofs.Known.{if_err}
use Rattle.run_one.proofs.Failures.{fresh_failures}
use Rattle.run_one.proofs.Reasons.{none_hidden}
use Rattle.run_one.proofs.Opened.{input_of, untouched_begun, begun_whole, run_told}
use Rattle.run_one.specs.Whole.{WhyNoSummary}
use Rattle.stages.proofs.Ended.{of_threads, why_of_threads}
use Rattle.stages.proofs.run.run_threads.Goals as goal

pub returns-in-Err-clause-begun : goal.returns-in-Err-clause-begun
returns-in-Err-clause-begun g c =
    untouched_begun g.W.Write.contents c.args.settings.now (to_come g.R.Read.remaining c.args.reader) c.args.writers.items c.args.writers.items refl

pub returns-in-Err-open_all-clause-begun : goal.returns-in-Err-open_all-clause-begun
returns-in-Err-open_all-clause-begun g c =
    untouched_begun g.W.Write.contents c.args.settings.now (to_come g.R.Read.remaining c.args.reader) c.args.writers.items c.in-Err-open_all.writers.items
    c.in-Err-open_all.ensures.refused

pub run_started-requires-clause-outputs : goal.run_started-requires-clause-outputs
run_started-requires-clause-outputs g c _ _ =
    let outputs = c.in-Ok-open_all.outputs in
    let devices = devices_of outputs.writers.items in
    let opened = c.in-Ok-open_all.ensures in
    record {
      before = refl;
      failures = refl;
      fresh = subst (λ r. AreFresh g.W.Write.contents r outputs.writers.items) c.resolution.ensures opened.fresh;
      well = opened.no_failure;
      many = sym (length-map devices (told g.W.Write.contents) ∙ length-map outputs.writers.items sink_of ∙ sym outputs.writers.ok.0);
      empty = opened.spare.0;
      room = opened.spare.1;
    }

pub returns-in-Ok-open_all-clause-run : goal.returns-in-Ok-open_all-clause-run
returns-in-Ok-open_all-clause-run g c =
    let contents = g.W.Write.contents in
    let settings = c.args.settings.now in
    let r = c.run_started.result.2 in
    let input = input_of (order_of c.in-Ok.reader) (rest g.R.Read.remaining c.in-Ok.reader) in
    let same = c.in-Ok-open_all.ensures.devices in
    run_told contents settings (order_of c.in-Ok.reader) (resolution_of c.in-Ok.reader) (to_come g.R.Read.remaining c.args.reader)
    (rest g.R.Read.remaining c.in-Ok.reader) c.args.writers.items c.run_started.result.1.items r c.in-Ok.ensures.header c.in-Ok.ensures.rest
    (sym c.run_started.result.1.ok.0 ∙ (c.run_started.ensures.length
    ∙ (length-map (devices_of c.in-Ok-open_all.outputs.writers.items) (told contents) ∙ ap length same)))
    (subst (λ ds. OnOk r ((all : List Fate) → fates_of (forwarding_by settings) settings.room input ≡ Some all
    → AreOutputs contents (map (told contents) ds) (resolution_of c.in-Ok.reader) all c.run_started.result.1.items)) same c.run_started.ensures.outputs)
    (subst (λ n. IfOk r (Sums input n settings.room (forwarding_by settings)))
    (length-map (devices_of c.in-Ok-open_all.outputs.writers.items) (told contents) ∙ ap length same) c.run_started.ensures.counts)

pub returns-in-Ok-open_all-clause-begun : goal.returns-in-Ok-open_all-clause-begun
returns-in-Ok-open_all-clause-begun g c =
    let contents = g.W.Write.contents in
    let settings = c.args.settings.now in
    let input = input_of (order_of c.in-Ok.reader) (rest g.R.Read.remaining c.in-Ok.reader) in
    begun_whole contents settings (order_of c.in-Ok.reader) (resolution_of c.in-Ok.reader) (to_come g.R.Read.remaining c.args.reader)
    (rest g.R.Read.remaining c.in-Ok.reader) c.args.writers.items c.run_started.result.1.items c.in-Ok.ensures.header c.in-Ok.ensures.rest
    (subst (λ ds. (all : List Fate) → fates_of (forwarding_by settings) settings.room input ≡ Some all
    → AreBeginnings contents (map (told contents) ds) (resolution_of c.in-Ok.reader) all c.run_started.result.1.items)
    c.in-Ok-open_all.ensures.devices c.run_started.ensures.begun)

pub returns-in-Ok-open_all-clause-cause : goal.returns-in-Ok-open_all-clause-cause
returns-in-Ok-open_all-clause-cause g c =
    if_err c.run_started.result.2
    (λ fault why. why_of_threads (order_of c.in-Ok.reader) (resolution_of c.in-Ok.reader) g.R.Read.remaining (rest g.R.Read.remaining c.in-Ok.reader)
    (map failures_of (devices_of c.in-Ok-open_all.outputs.writers.items)) c.args.reader c.run_started.result.0 c.in-Ok.reader c.args.writers.items
    c.run_started.result.1.items fault c.in-Ok.ensures.header c.in-Ok.ensures.rest c.in-Ok.ensures.no_failure
    (ap (map failures_of) c.in-Ok-open_all.ensures.devices) why)
    c.run_started.ensures.cause

pub returns-in-Err-clause-cause : goal.returns-in-Err-clause-cause
returns-in-Err-clause-cause g c =
    let why : WhyNoSummary g.R.Read.remaining c.args.reader c.in-Err.device c.args.writers.items c.args.writers.items c.input_fault.result =
    search rules in
    of_threads g.R.Read.remaining c.args.reader c.in-Err.device c.args.writers.items c.args.writers.items c.input_fault.result why

pub returns-in-Err-clause-ports : goal.returns-in-Err-clause-ports
returns-in-Err-clause-ports g c =
    none_hidden (map failures_of c.args.writers.items) c.args.writers.items
    (fresh_failures (map failures_of c.args.writers.items) None c.args.writers.items refl refl) c.input_fault.result

pub returns-in-Ok-open_all-clause-ports : goal.returns-in-Ok-open_all-clause-ports
returns-in-Ok-open_all-clause-ports g c =
    subst (λ before. IfErr c.run_started.result.2 (HidesNoPort before c.run_started.result.1.items))
    (ap (map failures_of) c.in-Ok-open_all.ensures.devices) c.run_started.ensures.ports
