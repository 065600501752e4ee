use Rattle.std.proofs.Common.{◌≡◌, [], Some, sym, ap, ◌∙◌, subst, arith, length, vec_len}
use Rattle.std.proofs.lemmas.List.{length-map}
use Rattle.std.specs.FinMap as map
use Rattle.counters.specs.Counted.{counts_of}
use Rattle.pcapio.specs.Counted.{told}
use Rattle.pcapio.specs.Writer.{sink_of}
use Rattle.run_one.specs.Ports.{devices_of, HasTexts}
use Rattle.run_one.specs.Tallies.{IsTally, fates_of}
use Rattle.run_one.proofs.Windows.{all_empty}
use Rattle.counters.specs.Tally.{records_of}
use Rattle.run_one.proofs.Failures.{fresh_failures}
use Rattle.run_one.proofs.Fresh.{fresh_texts, fresh_tally, counted_ports, no_records}
use Rattle.run_one.proofs.sink.Sink.new.Goals as goal

pub invariant_of-result : goal.invariant_of-result
invariant_of-result g c =
    let made = c.in-Ok.ensures in
    let window = c.in-Ok.window in
    let outs = fates_of g.J.Run.forwarding g.J.Run.room g.J.Run.input in
    let writers = c.args.outputs.writers in
    let next : 0 ≡ window.next = sym (ap (λ w. w.next) made) in
    let many : vec_len writers ≡ length g.J.Run.before =
    omega (
      arith,
      writers.ok.0,
      ap length c.requires.before,
      length-map (devices_of writers.items) (told g.W.Write.contents),
      length-map writers.items
          (sink_of {W = g.row.W.Denot}),
    ) in
    let ports : c.len.result ≡ length g.J.Run.before = omega (arith, many, c.len.ensures) in
    record {
      keyed = λ n x is. all_empty (λ k z. z.seq ≡ k) 0 n x (subst (λ w. map.get w.held n ≡ Some x) made is);
      counted = subst (λ n. IsTally outs (length g.J.Run.before) n c.new-counts.result) next
          (subst (λ t. IsTally outs (length g.J.Run.before) 0 t) (ap (λ n. counts_of n 0 []) (sym ports) ∙ sym c.new-counts.ensures)
          (fresh_tally outs (length g.J.Run.before)));
      bounded = omega (arith, ap records_of c.new-counts.ensures, no_records c.len.result, next);
      ports = ap (λ t. length t.sent) c.new-counts.ensures ∙ (counted_ports c.len.result ∙ ports);
      many = many;
      texts = subst (λ n. HasTexts g.W.Write.contents g.J.Run.before g.J.Run.resolution outs n c.args.outputs.failed writers.items) next
          (fresh_texts g.W.Write.contents g.J.Run.before g.J.Run.resolution outs c.args.outputs.failed writers.items c.requires.before c.requires.fresh);
      begun = λ all p known bad. absurd (cc (sym c.requires.no_failure ∙ bad));
      failures = fresh_failures g.J.Run.failures c.args.outputs.failed (devices_of writers.items) c.requires.failures c.requires.no_failure;
    }
