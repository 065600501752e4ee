use Rattle.std.proofs.Common.{◌≡◌, ◌≤◌, refl, sym, subst, length}
use Rattle.counters.specs.Tally.{records_of}
use Rattle.run_one.specs.Ports.{HasTexts}
use Rattle.run_one.specs.Tallies.{IsTally, fates_of}
use Rattle.run_one.proofs.Windows.{all_inserted}
use Rattle.run_one.proofs.sink.Sink.accept.Goals as goal

pub invariant_of-self : goal.invariant_of-self
invariant_of-self g c =
    let sink = c.args.self.now in
    let outs = fates_of g.J.Run.forwarding g.J.Run.room g.J.Run.input in
    let a = all_inserted (λ k z. z.seq ≡ k) sink.window c.insert.new.self _ c.args.packet c.insert.result
    c.insert.ensures.inserted c.insert.ensures.unchanged refl sink.keyed in
    record {
      keyed = a.0;
      counted = subst (λ n. IsTally outs (length g.J.Run.before) n sink.counts) (sym a.1) sink.counted;
      bounded = subst (λ n. records_of sink.counts ≤ n) (sym a.1) sink.bounded;
      ports = sink.ports;
      many = sink.many;
      texts = subst (λ n. HasTexts g.W.Write.contents g.J.Run.before g.J.Run.resolution outs n sink.outputs.failed sink.outputs.writers.items) (sym a.1)
          sink.texts;
      begun = sink.begun;
      failures = sink.failures;
    }
