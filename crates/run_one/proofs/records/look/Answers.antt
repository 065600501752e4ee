use Rattle.std.proofs.Common.{◌<◌, ◌*◌, [], length, refl, sym, ap, subst, arith}
use Rattle.run_one.specs.SoFar.{IsAhead, Looks}
use Rattle.run_one.proofs.SoFar.{all_read, none_further, passed_over}
use Rattle.run_one.proofs.records.look.Goals as goal

pub returns-in-Err-clause-cause : goal.returns-in-Err-clause-cause
returns-in-Err-clause-cause g c =
    none_further g.R.Read.remaining g.J.Run.input g.J.Run.room (length g.J.Run.before) c.args.reader.now c.ahead.new.reader c.args.progress.now c.in-Err.fault
    c.requires.read c.in-Err.ensures.cause

pub returns-in-Oversize-clause-exact : goal.returns-in-Oversize-clause-exact
returns-in-Oversize-clause-exact g c =
    let found = subst (IsAhead g.R.Read.remaining c.args.room c.args.reader.now c.ahead.new.reader) c.in-Oversize.is c.in-Ok.ensures.found in
    let packet = found.0 in
    let large : 64 * g.J.Run.room < length packet.bytes = omega (arith, found.2, c.requires.room) in
    subst (Looks g.R.Read.remaining g.J.Run.input g.J.Run.room (length g.J.Run.before) c.ahead.new.reader c.args.progress.now
    (record { count = c.args.progress.now.count; oversize = c.add_oversize.new.self })) (sym c.in-Oversize.is) (
      passed_over g.R.Read.remaining g.J.Run.input g.J.Run.room (length g.J.Run.before) c.args.reader.now c.ahead.new.reader c.args.progress.now
          (record { count = c.args.progress.now.count; oversize = c.add_oversize.new.self }) packet
          c.requires.read c.ahead.ensures.file.0 found.1 large refl (λ n e. c.add_oversize.ensures.counted n [] e)
          (ap (λ t. length t.sent) c.add_oversize.ensures.plus) c.add_oversize.ensures.records,
      found.3,
      refl,
      c.add_oversize.ensures.records,
    )

pub returns-in-Ended-clause-exact : goal.returns-in-Ended-clause-exact
returns-in-Ended-clause-exact g c =
    let torn = c.in-Ended.field-0 in
    let ends = subst (IsAhead g.R.Read.remaining c.args.room c.args.reader.now c.ahead.new.reader) c.in-Ended.is c.in-Ok.ensures.found in
    subst (Looks g.R.Read.remaining g.J.Run.input g.J.Run.room (length g.J.Run.before) c.ahead.new.reader c.args.progress.now c.args.progress.now)
    (sym c.in-Ended.is)
    (all_read g.R.Read.remaining g.J.Run.input g.J.Run.room (length g.J.Run.before) c.args.reader.now c.args.progress.now torn c.requires.read ends, refl)
