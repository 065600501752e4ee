use Rattle.std.proofs.Common.{◌≡◌, ◌∙◌, refl, sym, ap, subst, length, arith}
use Rattle.ipv4.specs.Forwarding.{forwarded}
use Rattle.mbuf.specs.Chain.{bytes_of}
use Rattle.pcapio.specs.Record.{packet_in}
use Rattle.mbuf.proofs.Chains.{numbers_kept}
use Rattle.run_one.specs.Packets.{HasPort, fate_with}
use Rattle.ipv4.proofs.Ways.{sent_by_a_port}
use Rattle.run_one.proofs.Judging.{judged_is}
use Rattle.run_one.proofs.packet.Unjudged.judge.Goals as goal

pub invariant_of-result : goal.invariant_of-result
invariant_of-result g c =
    let x = c.args.self in
    let bytes = bytes_of x.chain in
    let frame = c.forward_prefetched-verdict.ensures.frame ∙ ap (λ f. (f bytes x.wire).frame) c.requires.rules in
    let many : length c.args.ports.now.sources.items ≡ length g.J.Run.before = omega (arith, c.args.ports.now.sources.ok.0, c.requires.ports) in
    record {
      is = judged_is g.J.Run.forwarding g.J.Run.room g.J.Run.input x.seq (packet_in x.seconds x.fraction x.wire x.chain)
          (packet_in x.seconds x.fraction x.wire c.forward_prefetched-verdict.new.chain) c.forward_prefetched-verdict.result x.is
          (c.forward_prefetched-verdict.ensures.verdict ∙ ap (λ f. (f bytes x.wire).verdict) c.requires.rules)
          (λ k. record { seconds = x.seconds; fraction = x.fraction; wire = x.wire; bytes = frame k });
      port = subst (HasPort (length g.J.Run.before)) (sym c.forward_prefetched-verdict.ensures.verdict)
          (subst (λ n. HasPort n (forwarded c.args.table.now.members c.args.ports.now bytes x.wire).verdict) many
          (sent_by_a_port c.args.table.now.members c.args.ports.now bytes x.wire));
    }

pub returns-clause-judged : goal.returns-clause-judged
returns-clause-judged g c =
    let x = c.args.self in
    let bytes = bytes_of x.chain in
    let frame = c.forward_prefetched-verdict.ensures.frame ∙ ap (λ f. (f bytes x.wire).frame) c.requires.rules in
    let verdict = c.forward_prefetched-verdict.ensures.verdict ∙ ap (λ f. (f bytes x.wire).verdict) c.requires.rules in
    record {
      seq = refl;
      fate = λ k. fate_with (verdict k) (record { seconds = x.seconds; fraction = x.fraction; wire = x.wire; bytes = frame k });
      numbers = numbers_kept _ _ c.forward_prefetched-verdict.ensures.kept;
    }
