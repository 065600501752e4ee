use Rattle.std.proofs.Common.{◌∙◌, ap}
use Rattle.std.specs.Prelude.{not}
use Rattle.callers.proofs.Flushed.{flushed_empty}
use Rattle.callers.proofs.caches.get_and_put_words.Goals as goal

pub returns-clause-flushed : goal.returns-clause-flushed
returns-clause-flushed g c =
    flushed_empty c.args.f.now c.put_from_slice.new.self c.flush.new.self c.flush.result c.put_from_slice.ensures.local c.flush.ensures.exact
    (c.is_err-else-is_err-2.ensures.negation ∙ ap not c.if-is_err-3.false)
