use Rattle.std.proofs.Common.{◌∙◌, sym}
use Rattle.callers.proofs.Flushed.{flushed_empty}
use Rattle.callers.proofs.caches.get_and_put.Goals as goal

pub returns-then-is_ok-clause-flushed : goal.returns-then-is_ok-clause-flushed
returns-then-is_ok-clause-flushed g c ok =
    flushed_empty c.args.f.now c.put_from.new.self c.flush.new.self c.flush.result c.put_from.ensures.local c.flush.ensures.exact
    (sym c.is_ok-then-is_ok.ensures.value ∙ ok)
