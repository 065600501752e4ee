use Rattle.std.proofs.Common.{rules, ◌≡◌, ◌≤◌, ◌+◌, ℕ, true, false, List, [], ◌∷◌, ◌++◌, Some, sym, ap, ◌∙◌, subst, length, slice_get}
use Rattle.std.specs.FinMap as map
use Rattle.pcapio.specs.Record.{packet_in}
use Rattle.stages_laws.specs.Output.{Fate}
use Rattle.run_one.specs.Packets.{fate_with}
use Rattle.run_one.specs.Ports.{HasTexts}
use Rattle.run_one.specs.Tallies.{IsTally, fates_of}
use Rattle.run_one.proofs.Texts.{texts_turn, begun_turn}
use Rattle.run_one.proofs.Counting.{tally_turn}
use Rattle.counters.specs.Counted.{counts_of, IsWithin}
use Rattle.counters.specs.Tally.{records_of}
use Rattle.ipv4.specs.declared.verdicts.Verdict.{Verdict}
use Rattle.run_one.proofs.Failures.{failures_turn}
use Rattle.run_one.proofs.Counting.{within}
use Rattle.run_one.proofs.sink.Sink.pass.Goals as goal

pub add-requires-clause-port : goal.add-requires-clause-port
add-requires-clause-port g c =
    let x = c.args.packet in
    subst (λ n. IsWithin n x.verdict) (sym c.args.self.now.ports) (within (length g.J.Run.before) x.verdict x.port)

-- the packet comes back, and the window is what it was
pub invariant_of-self : goal.invariant_of-self
invariant_of-self g c =
    let sink = c.args.self.now in
    let outs = fates_of g.J.Run.forwarding g.J.Run.room g.J.Run.input in
    let refused : c.pass.result ≡ false = search rules in
    let same = c.pass.ensures.unchanged refused in
    let still = ap (λ w. w.next) same in
    record {
      keyed = λ n x is. sink.keyed n x (ap (λ w. map.get w.held n) (sym same) ∙ is);
      counted = subst (λ n. IsTally outs (length g.J.Run.before) n sink.counts) (sym still) sink.counted;
      bounded = subst (λ n. records_of sink.counts ≤ n) (sym still) sink.bounded;
      ports = sink.ports;
      many = sink.many;
      texts = subst (λ n. HasTexts g.W.Write.contents g.J.Run.before g.J.Run.resolution outs n sink.outputs.failed sink.outputs.writers.items) (sym still)
          sink.texts;
      begun = sink.begun;
      failures = sink.failures;
    }

pub invariant_of-self-2 : goal.invariant_of-self-2
invariant_of-self-2 g c =
    let sink = c.args.self.now in
    let x = c.args.packet in
    let outs = fates_of g.J.Run.forwarding g.J.Run.room g.J.Run.input in
    let o = fate_with x.verdict (packet_in x.seconds x.fraction x.wire x.chain) in
    let passed : c.pass.result ≡ true = search rules in
    let turn : x.seq ≡ sink.window.next = (c.pass.ensures.passed.0 passed).0 in
    let after : c.pass.new.self ≡ record sink.window { next = sink.window.next + 1 } = c.pass.ensures.turn passed in
    let further : c.pass.new.self.next ≡ sink.window.next + 1 = ap (λ w. w.next) after in
    let here : (all : List Fate) → outs ≡ Some all → slice_get all sink.window.next ≡ Some o =
    λ all known. subst (λ n. slice_get all n ≡ Some o) turn (x.is all known) in
    record {
      keyed = λ n y is. sink.keyed n y (ap (λ w. map.get w.held n) (sym after) ∙ is);
      counted = subst (λ n. IsTally outs (length g.J.Run.before) n c.add.new.self) (sym further)
          (tally_turn outs (length g.J.Run.before) sink.window.next o sink.counts c.add.new.self here sink.counted
          (subst (λ n. (oversize : ℕ) (vs : List Verdict) → sink.counts ≡ counts_of n oversize vs → c.add.new.self ≡ counts_of n oversize
          (vs ++ x.verdict ∷ [])) sink.ports c.add.ensures.counted));
      bounded = search rules;
      ports = search rules;
      many = c.put_unless_failed.ensures.length ∙ sink.many;
      texts = subst (λ n. HasTexts g.W.Write.contents g.J.Run.before g.J.Run.resolution outs n c.put_unless_failed.new.self.failed c.put_unless_failed.new.self.writers.items)
          (sym further)
          (texts_turn g.W.Write.contents g.J.Run.before g.J.Run.resolution outs sink.window.next o sink.outputs.failed c.put_unless_failed.new.self.failed
          sink.outputs.writers.items c.put_unless_failed.new.self.writers.items
          here sink.texts (λ p e. ap (λ u. u.failed) (c.put_unless_failed.ensures.still p e) ∙ e) c.put_unless_failed.ensures.longer);
      begun = begun_turn g.W.Write.contents g.J.Run.before g.J.Run.resolution outs sink.window.next o sink.outputs.failed c.put_unless_failed.new.self.failed
          sink.outputs.writers.items c.put_unless_failed.new.self.writers.items
          here sink.texts sink.begun (λ p e. ap (λ u. u.writers.items) (c.put_unless_failed.ensures.still p e)) c.put_unless_failed.ensures.cut;
      failures = failures_turn g.J.Run.failures sink.outputs.failed c.put_unless_failed.new.self.failed sink.outputs.writers.items c.put_unless_failed.new.self.writers.items
          sink.failures
          (λ p e. (ap (λ u. u.failed) (c.put_unless_failed.ensures.still p e) ∙ e, ap (λ u. u.writers.items) (c.put_unless_failed.ensures.still p e))) c.put_unless_failed.ensures.failures;
    }
