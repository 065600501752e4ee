use Rattle.std.proofs.Common.{refl, ◌∙◌, inl, inr}
use Rattle.mbuf.specs.Chain.{bytes_of}
use Rattle.ipv4.proofs.Heads.{IsEnough, verdict_of_front}
use Rattle.ipv4.proofs.chains.verdict.Goals as goal

pub returns-then-is_enough : goal.returns-then-is_enough
returns-then-is_enough c =
    let frame = bytes_of c.args.chain.now in
    let enough : IsEnough c.part-first.result.now frame = record {
      front = c.part-first.ensures.packet;
      enough = elim (c.if-is_enough.ensures.0 refl) [ inl whole ↦ inl (whole ∙ c.len.ensures.value) | inr holds ↦ inr holds ];
    } in
    c.verdict_of_frame.ensures ∙ verdict_of_front c.args.table.now.members c.args.ports.now c.part-first.result.now frame c.args.wire enough
