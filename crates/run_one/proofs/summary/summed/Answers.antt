use Rattle.std.proofs.Common.{◌≡◌, Some, ap, ◌∙◌, arith, length, take}
use Rattle.std.proofs.lemmas.List.{take_all, length-map}
use Rattle.std.specs.Option.{option_map}
use Rattle.counters.specs.Counted.{counts_of}
use Rattle.counters.specs.Tally.{plus}
use Rattle.stages_laws.specs.Output.{fate, fates, stamped, verdicts, oversize}
use Rattle.run_one.specs.Tallies.{fates_of}
use Rattle.run_one.proofs.Counting.{gathered_shares}
use Rattle.run_one.proofs.Known.{known_input}
use Rattle.run_one.proofs.summary.summed.Goals as goal

pub returns-clause-all : goal.returns-clause-all
returns-clause-all g c all known =
    let i = known_input g.J.Run.forwarding g.J.Run.room g.J.Run.input all known in
    omega (arith, c.if-next-totals.false, c.args.totals.all i.0 i.1, length-map (stamped g.J.Run.room i.0.packets) (fate g.J.Run.forwarding), ap length i.2)

pub returns-clause-counts : goal.returns-clause-counts
returns-clause-counts g c i known =
    let all = fates g.J.Run.forwarding g.J.Run.room i.packets in
    let outs : fates_of g.J.Run.forwarding g.J.Run.room g.J.Run.input ≡ Some all = ap
    (option_map (λ j. fates g.J.Run.forwarding g.J.Run.room j.packets)) known in
    let whole : take c.args.next all ≡ all = take_all c.args.next all
    (omega (arith, c.if-next-totals.false, c.args.totals.all i known, length-map (stamped g.J.Run.room i.packets) (fate g.J.Run.forwarding))) in
    let one = c.requires.counted all outs ∙ ap (λ l. counts_of (length g.J.Run.before) 0 (verdicts l)) whole in (
      c.gather.ensures ∙ ((λ k. plus (one k) (c.args.totals.over i known k)) ∙ gathered_shares (length g.J.Run.before) (verdicts all)
          (oversize g.J.Run.room i.packets)),
      c.args.totals.end i known,
    )
