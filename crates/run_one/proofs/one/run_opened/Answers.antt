use Rattle.std.proofs.Common.{◌∙◌, sym, ap, subst, map}
use Rattle.std.specs.FinMap.{get-empty}
use Rattle.std.specs.Ordering.{nat_cmp}
use Rattle.pcapio.specs.Counted.{told}
use Rattle.run_one.specs.Ports.{devices_of}
use Rattle.run_one.specs.Turns.{IsVacant}
use Rattle.run_one.proofs.Known.{if_err}
use Rattle.run_one.proofs.Opened.{untold}
use Rattle.run_one.proofs.Reasons.{why_stopped_at}
use Rattle.run_one.proofs.one.run_opened.Goals as goal

pub returns-in-Err-clause-begun : goal.returns-in-Err-clause-begun
returns-in-Err-clause-begun g c all known =
    untold g.W.Write.contents g.J.Run.before g.J.Run.resolution all c.into_devices-devices.result.items
    (ap (map (told g.W.Write.contents))
    (c.into_devices-devices.ensures ∙ ap (λ o. devices_of o.writers.items) c.in-Err.ensures.refused)
    ∙ c.requires.outputs.before)

pub forward_all-totals-requires-clause-vacant : goal.forward_all-totals-requires-clause-vacant
forward_all-totals-requires-clause-vacant g c =
    subst IsVacant (sym c.in-Ok.ensures.window) (λ n high. get-empty nat_cmp n)

pub returns-clause-cause : goal.returns-clause-cause
returns-clause-cause g c =
    let p = c.forward_all-totals in
    if_err c.end-devices.result.1
    (λ fault why. why_stopped_at g.J.Run g.J.Run.input g.J.Run.failures p.new.sink.window.next p.result c.args.reader p.new.reader p.new.sink.outputs.failed
    c.into_inner-2.result c.end-devices.result.0.items fault p.ensures.turn p.ensures.cause c.into_inner-2.ensures why)
    c.end-devices.ensures.cause
