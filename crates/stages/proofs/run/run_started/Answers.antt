use Rattle.std.proofs.Common.{◌∙◌, ap, map, subst, sym}
use Rattle.std.specs.FinMap.{get-empty}
use Rattle.std.specs.Ordering.{nat_cmp}
use Rattle.pcapio.specs.Counted.{told}
use Rattle.run_one.specs.Ports.{devices_of}
use Rattle.run_one.specs.Turns.{IsVacant}
use Rattle.run_one.proofs.Known.{if_err}
use Rattle.stages.proofs.Ended.{why_ended}
use Rattle.run_one.proofs.Opened.{untold}
use Rattle.stages.proofs.run.run_started.Goals as goal

pub returns-in-Err-clause-begun : goal.returns-in-Err-clause-begun
returns-in-Err-clause-begun g c all known =
    untold g.W.Write.contents g.J.Run.before g.J.Run.resolution all c.into_devices-devices.result.items
    (ap (map (told g.W.Write.contents))
    (c.into_devices-devices.ensures ∙ ap (λ o. devices_of o.writers.items) c.in-Err.ensures.refused)
    ∙ c.requires.outputs.before)

pub returns-clause-cause : goal.returns-clause-cause
returns-clause-cause g c =
    let outcome = c.over_rings-sink.result.1 in
    let sink = c.over_rings-sink.result.0 in
    if_err c.end-devices.result.1
    (λ fault why. why_ended g.J.Run.input g.J.Run.failures g.J.Run.read_failures sink.window.next outcome.device outcome.answer c.end-devices.result.0.items fault
    outcome.failed outcome.here outcome.refused why)
    c.end-devices.ensures.cause

pub end-devices-requires-clause-failed : goal.end-devices-requires-clause-failed
end-devices-requires-clause-failed g c p is = absurd (c.over_rings-sink.result.1.unwritten p is)

pub over_rings-sink-requires-clause-vacant : goal.over_rings-sink-requires-clause-vacant
over_rings-sink-requires-clause-vacant g c lives within = subst IsVacant (sym c.in-Ok.ensures.window) (λ n high. get-empty nat_cmp n)
