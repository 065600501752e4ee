use Rattle.std.proofs.Common.{rules, ◌≡◌, ◌+◌, ℕ, true, List, [], ◌∷◌, ◌++◌, Some, None, true≢false, sym, ap, ◌∙◌, subst, arith, length, slice_get}
use Rattle.std.specs.FinMap as map
use Rattle.pcapio.specs.Record.{packet_of}
use Rattle.reorder.specs.Waiting.{IsFree}
use Rattle.stages_laws.specs.Output.{Fate}
use Rattle.run_one.specs.Packets.{HasPort, fate_with}
use Rattle.run_one.specs.Ports.{HasTexts}
use Rattle.run_one.specs.Tallies.{IsTally, fates_of}
use Rattle.run_one.proofs.Texts.{texts_turn, begun_turn}
use Rattle.run_one.proofs.Counting.{tally_turn, within}
use Rattle.counters.specs.Counted.{counts_of, IsWithin}
use Rattle.ipv4.specs.declared.verdicts.Verdict.{Verdict}
use Rattle.run_one.proofs.Failures.{failures_turn}
use Rattle.run_one.proofs.sink.Sink.forward_frame.Goals as goal

pub unreachable-requires : goal.unreachable-requires
unreachable-requires g c =
    let window = c.args.self.now.window in
    let turn = c.requires.turn in
    let free : IsFree window c.args.seq = record {
      in_turn = omega (arith, turn);
      in_reach = omega (arith, turn, c.requires.below, c.next-turn.ensures.window.some);
      vacant = ap (map.get window.held) turn ∙ c.requires.vacant;
    } in
    absurd (true≢false (sym (c.pass.ensures.passed.1 (turn, free)) ∙ search rules))

pub add-requires-clause-port : goal.add-requires-clause-port
add-requires-clause-port g c =
    subst (λ n. IsWithin n c.args.verdict) (sym c.args.self.now.ports) (within (length g.J.Run.before) c.args.verdict c.requires.port)

pub put_frame-requires-clause-port : goal.put_frame-requires-clause-port
put_frame-requires-clause-port g c = subst (λ n. HasPort n c.args.verdict) (sym c.args.self.now.many) c.requires.port

pub invariant_of-self : goal.invariant_of-self
invariant_of-self g c =
    let sink = c.args.self.now in
    let outs = fates_of g.J.Run.forwarding g.J.Run.room g.J.Run.input in
    let o = fate_with c.args.verdict (packet_of c.args.head c.args.frame.now) in
    let passed : c.pass.result ≡ true = search rules in
    let after : c.pass.new.self ≡ record sink.window { next = sink.window.next + 1 } = c.pass.ensures.turn passed in
    let further : c.pass.new.self.next ≡ sink.window.next + 1 = ap (λ w. w.next) after in
    let here : (all : List Fate) → outs ≡ Some all → slice_get all sink.window.next ≡ Some o =
    λ all known. subst (λ n. slice_get all n ≡ Some o) c.requires.turn (c.requires.is all known) in
    let none : (p : ℕ) → sink.outputs.failed ≡ Some p → ⊥ = λ p bad. (let e : None ≡ Some p = sym c.requires.no_failure ∙ bad in absurd (cc e)) in
    record {
      keyed = λ n y is. sink.keyed n y (ap (λ w. map.get w.held n) (sym after) ∙ is);
      counted = subst (λ n. IsTally outs (length g.J.Run.before) n c.add.new.self) (sym further)
          (tally_turn outs (length g.J.Run.before) sink.window.next o sink.counts c.add.new.self here sink.counted
          (subst (λ n. (oversize : ℕ) (vs : List Verdict) → sink.counts ≡ counts_of n oversize vs → c.add.new.self ≡ counts_of n oversize
          (vs ++ c.args.verdict ∷ [])) sink.ports c.add.ensures.counted));
      bounded = search rules;
      ports = search rules;
      many = c.put_frame.ensures.length ∙ sink.many;
      texts = subst (λ n. HasTexts g.W.Write.contents g.J.Run.before g.J.Run.resolution outs n c.put_frame.new.self.failed c.put_frame.new.self.writers.items)
          (sym further)
          (texts_turn g.W.Write.contents g.J.Run.before g.J.Run.resolution outs sink.window.next o sink.outputs.failed c.put_frame.new.self.failed
          sink.outputs.writers.items c.put_frame.new.self.writers.items
          here sink.texts (λ p e. absurd (none p e)) (λ _. c.put_frame.ensures.longer));
      begun = begun_turn g.W.Write.contents g.J.Run.before g.J.Run.resolution outs sink.window.next o sink.outputs.failed c.put_frame.new.self.failed
          sink.outputs.writers.items c.put_frame.new.self.writers.items
          here sink.texts sink.begun (λ p e. absurd (none p e)) (λ _. c.put_frame.ensures.cut);
      failures = failures_turn g.J.Run.failures sink.outputs.failed c.put_frame.new.self.failed sink.outputs.writers.items c.put_frame.new.self.writers.items
          sink.failures (λ p e. absurd (none p e)) (λ _. c.put_frame.ensures.failures);
    }
