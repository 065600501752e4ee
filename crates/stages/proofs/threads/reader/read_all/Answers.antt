use Rattle.std.proofs.Common.{rules, ◌≡◌, IfSome, [], length, refl, sym, ap, ◌∙◌, subst, arith}
use Rattle.counters.specs.Counted.{counts_of}
use Rattle.counters.specs.Tally.{records_of}
use Rattle.stages.specs.Feeding.{WhyUnfed}
use Rattle.run_one.specs.SoFar.{Looks}
use Rattle.run_one.proofs.Fresh.{counted_ports, no_records}
use Rattle.run_one.proofs.Known.{on_some}
use Rattle.run_one.proofs.SoFar.{none_read}
use Rattle.mbuf.specs.Chain.{HasSameSegments}
use Rattle.mbuf.proofs.Chains.{numbers_kept}
use Rattle.stages.specs.Custody.{in_items, in_numbers}
use Rattle.stages.proofs.Unfed.{unfed_since, unfed_late, unfed_by_stage}
use Rattle.stages.proofs.threads.reader.read_all.Goals as goal

pub loop-turn-init : goal.loop-turn-init
loop-turn-init g c =
    let ports : c.len.result ≡ length g.J.Run.before = omega (arith, c.len.ensures, c.requires.settings.ports) in
    let none = c.new-progress.ensures.oversize ∙ ap (λ n. counts_of n 0 []) ports in
    record {
      read = none_read g.R.Read.remaining g.J.Run.input g.J.Run.room (length g.J.Run.before) c.args.reader.now c.new-progress.result c.requires.input.input
          c.new-progress.ensures.count none (counted_ports (length g.J.Run.before)) (no_records (length g.J.Run.before));
      between = c.requires.input.between;
      no_read_failed = refl;
      yours = λ h same b. omega (arith, c.requires.yours h same b, ap (λ l. in_items l b) c.new-stock.ensures);
      turns = omega (arith, c.new-progress.ensures.count, ap records_of none, no_records (length g.J.Run.before));
    }

pub returns-in-Err-clause-cause : goal.returns-in-Err-clause-cause
returns-in-Err-clause-cause g c =
    unfed_since g.J.Run.input c.args.reader.now c.loop-turn.reader c.look.new.reader c.in-Err.fault c.loop-turn.invariant.no_read_failed
    c.in-Err.ensures.cause

pub returns-in-Err-clause-kept : goal.returns-in-Err-clause-kept
returns-in-Err-clause-kept g c h same b = omega (arith, c.loop-turn.invariant.yours h same b)

pub returns-in-Err-obtain-clause-cause : goal.returns-in-Err-obtain-clause-cause
returns-in-Err-obtain-clause-cause g c =
    subst (WhyUnfed g.J.Run.input c.args.reader.now c.look.new.reader) (sym c.to_run_fault.ensures)
    (unfed_by_stage g.J.Run.input c.args.reader.now c.look.new.reader c.in-Err-obtain.fault)

pub returns-in-Err-obtain-clause-kept : goal.returns-in-Err-obtain-clause-kept
returns-in-Err-obtain-clause-kept g c h same b = omega (arith, c.in-Err-obtain.ensures.still h same b)

pub returns-in-Err-read_record-clause-cause : goal.returns-in-Err-read_record-clause-cause
returns-in-Err-read_record-clause-cause g c =
    unfed_late g.J.Run.input c.args.reader.now c.look.new.reader c.read_record.new.reader c.in-Err-read_record.fault
    (c.in-Ok-Record.ensures.no_failure ∙ c.loop-turn.invariant.no_read_failed) c.in-Err-read_record.ensures.cause.0 c.in-Err-read_record.ensures.cause.1

pub returns-in-Err-read_record-clause-kept : goal.returns-in-Err-read_record-clause-kept
returns-in-Err-read_record-clause-kept g c h same b = omega (arith, c.in-Ok.ensures.still h same b)

pub loop-turn-preserved : goal.loop-turn-preserved
loop-turn-preserved g c =
    let i = c.loop-turn.invariant in
    let told = subst (Looks g.R.Read.remaining g.J.Run.input g.J.Run.room (length g.J.Run.before) c.look.new.reader c.loop-turn.progress c.look.new.progress)
    c.in-Ok-Record.field-0-is c.in-Ok-Record.ensures.exact in
    let at = c.in-Ok-Some in
    let count = on_some _ at.packet at.field-0-is at.ensures.count in
    record {
      read = on_some _ at.packet at.field-0-is at.ensures.read;
      between = on_some _ at.packet at.field-0-is at.ensures.between;
      no_read_failed = at.ensures.no_failure ∙ (c.in-Ok-Record.ensures.no_failure ∙ i.no_read_failed);
      yours = c.enqueue.ensures.kept (in_items c.obtain.new.stock)
          (λ h same b. omega (
            arith,
            c.in-Ok.ensures.kept h same b,
            ap (λ ns. in_numbers ns b) (numbers_kept c.in-Ok.chain at.packet.chain
                (subst (λ f. IfSome f (λ p. (p.seq ≡ c.look.new.progress.count) × HasSameSegments p.chain c.in-Ok.chain)) at.field-0-is at.ensures.packet).1),
          ));
      turns = omega (arith, count.0, ap records_of count.1, ap (λ p. p.count) told.1, ap (λ p. records_of p.oversize) told.1, i.turns);
    }

pub returns-in-Ok-Ended-clause-kept : goal.returns-in-Ok-Ended-clause-kept
returns-in-Ok-Ended-clause-kept g c h same b = omega (arith, c.loop-turn.invariant.yours h same b)

pub returns-in-Ok-None-clause-kept : goal.returns-in-Ok-None-clause-kept
returns-in-Ok-None-clause-kept g c h same b = omega (arith, c.in-Ok.ensures.still h same b)

pub enqueue-requires : goal.enqueue-requires
enqueue-requires g c = (search rules, (search rules, (λ h same b. omega (arith, c.in-Ok.ensures.still h same b))))

pub returns-in-Err-enqueue-clause-kept : goal.returns-in-Err-enqueue-clause-kept
returns-in-Err-enqueue-clause-kept g c =
    let at = c.in-Ok-Some in
    λ h same b. omega (
      arith,
      c.enqueue.ensures.kept (in_items c.obtain.new.stock)
          (λ k is n. omega (
            arith,
            c.in-Ok.ensures.kept k is n,
            ap (λ ns. in_numbers ns n) (numbers_kept c.in-Ok.chain at.packet.chain
                (subst (λ f. IfSome f (λ p. (p.seq ≡ c.look.new.progress.count) × HasSameSegments p.chain c.in-Ok.chain)) at.field-0-is at.ensures.packet).1),
          ))
          h same b,
    )

pub returns-clause-kept : goal.returns-clause-kept
returns-clause-kept g c h same b = omega (arith, c.loop-turn.invariant.yours h same b)
