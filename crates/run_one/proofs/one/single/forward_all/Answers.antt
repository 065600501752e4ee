use Rattle.std.proofs.Common.{rules, ◌≡◌, ◌+◌, [], None, length, refl, sym, ap, ◌∙◌, subst, arith}
use Rattle.counters.specs.Counted.{counts_of}
use Rattle.counters.specs.Tally.{records_of}
use Rattle.mbuf.specs.Chain.{space_of, HasSameSegments}
use Rattle.pcapio.proofs.Chains.{same_space}
use Rattle.pcapio.proofs.Runs.{some-so}
use Rattle.run_one.specs.SoFar.{Looks}
use Rattle.run_one.specs.Turns.{IsVacant}
use Rattle.run_one.proofs.Fresh.{counted_ports, no_records}
use Rattle.run_one.proofs.Known.{on_some}
use Rattle.run_one.proofs.SoFar.{none_read, stopped_since, too_many}
use Rattle.run_one.proofs.Turning.{same_long, vacant_after}
use Rattle.run_one.proofs.one.single.forward_all.Goals as goal

pub loop-turn-init : goal.loop-turn-init
loop-turn-init g c =
    let ports : c.len.result ≡ length g.J.Run.before = omega (arith, c.len.ensures, c.requires.settings.ports) in
    let none = c.new-progress.ensures.oversize ∙ ap (λ n. counts_of n 0 []) ports in
    record {
      read = none_read g.R.Read.remaining g.J.Run.input g.J.Run.room (length g.J.Run.before) c.args.reader.now c.new-progress.result c.requires.input.input
          c.new-progress.ensures.count none (counted_ports (length g.J.Run.before)) (no_records (length g.J.Run.before));
      between = c.requires.input.between;
      no_read_failed = refl;
      turns = omega (arith, c.new-progress.ensures.count, ap records_of none, no_records (length g.J.Run.before));
      next = c.requires.first ∙ sym c.new-progress.ensures.count;
      vacant = c.requires.vacant;
      space = search rules;
      writers = refl;
      well = c.requires.no_failure;
      looked_up = c.new-ahead.ensures;
    }

pub returns-in-Err-clause-cause : goal.returns-in-Err-clause-cause
returns-in-Err-clause-cause g c =
    let i = c.loop-turn.invariant in
    stopped_since g.J.Run.input c.args.reader.now c.loop-turn.reader c.look.new.reader None c.loop-turn.sink.outputs.failed c.in-Err.fault i.no_read_failed refl
    c.in-Err.ensures.cause

pub choose-chain-requires : goal.choose-chain-requires
choose-chain-requires g c =
    let i = c.loop-turn.invariant in
    let told = subst (Looks g.R.Read.remaining g.J.Run.input g.J.Run.room (length g.J.Run.before) c.look.new.reader c.loop-turn.progress c.look.new.progress)
    c.in-Ok-Record.field-0-is c.in-Ok-Record.ensures.exact in
    omega (arith, told.3, told.4, i.space, c.requires.settings.room)

pub loop-turn-preserved : goal.loop-turn-preserved
loop-turn-preserved g c =
    let i = c.loop-turn.invariant in
    let told = subst (Looks g.R.Read.remaining g.J.Run.input g.J.Run.room (length g.J.Run.before) c.look.new.reader c.loop-turn.progress c.look.new.progress)
    c.in-Ok-Record.field-0-is c.in-Ok-Record.ensures.exact in
    let at = c.in-Ok-Some in
    let found = some-so _ at.packet (λ packet. (packet.seq ≡ c.look.new.progress.count) × HasSameSegments packet.chain c.choose-chain.result.0) at.field-0-is
    at.ensures.packet in
    let count = on_some _ at.packet at.field-0-is at.ensures.count in
    let before = ap (λ p. p.count) told.1 in
    record {
      read = on_some _ at.packet at.field-0-is at.ensures.read;
      between = on_some _ at.packet at.field-0-is at.ensures.between;
      no_read_failed = at.ensures.no_failure ∙ (c.in-Ok-Record.ensures.no_failure ∙ i.no_read_failed);
      turns = omega (arith, count.0, ap records_of count.1, before, ap (λ p. records_of p.oversize) told.1, i.turns);
      next = ap (λ w. w.next) c.forward-back.ensures.window ∙ (ap (λ n. n + 1) (i.next ∙ sym before) ∙ sym count.0);
      vacant = subst IsVacant (sym c.forward-back.ensures.window)
          (vacant_after c.loop-turn.sink.window c.judge.result.seq c.judge.result (c.judge.ensures.seq ∙ (found.0 ∙ (before ∙ sym i.next))) i.vacant);
      space =
          let back = ap space_of c.forward-back.ensures.chain ∙ (same_space _ _ c.judge.ensures.kept ∙ same_space _ _ found.1) in
          let long = ap space_of c.rejoin-chains.ensures
          ∙ (same_long c.choose-chain.result.2 c.choose-chain.result.0 c.forward-back.result c.choose-chain.result.1 back ∙ ap space_of c.choose-chain.ensures.long) in
          omega (arith, long, i.space);
      writers = c.forward-back.ensures.length ∙ i.writers;
      well = c.in_default-failed.is;
      looked_up = i.looked_up;
    }

pub returns-clause-cause : goal.returns-clause-cause
returns-clause-cause g c =
    let i = c.loop-turn.invariant in
    too_many g.R.Read.remaining g.J.Run.input g.J.Run.room (length g.J.Run.before) c.loop-turn.reader c.loop-turn.progress i.read
    (omega (arith, i.turns, c.loop-turn-test.false))
