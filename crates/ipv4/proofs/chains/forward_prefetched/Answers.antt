use Rattle.std.proofs.Common.{◌≡◌, ℕ, List, ◌++◌, length, drop, refl, ◌∙◌, sym, subst, inl, inr, arith}
use Rattle.mbuf.specs.Chain.{bytes_of}
use Rattle.ipv4.proofs.Heads.{IsEnough, verdict_of_front, frame_of_front}
use Rattle.ipv4.proofs.Fronts.{shape_rewritten}
use Rattle.ipv4.proofs.chains.forward_prefetched.Goals as goal

pub returns-then-is_enough-clause-verdict : goal.returns-then-is_enough-clause-verdict
returns-then-is_enough-clause-verdict c =
    let frame = bytes_of c.args.chain.now in
    let seen : IsEnough c.part.result.now frame = record {
      front = c.part.ensures.packet;
      enough = elim (c.if-is_enough.ensures.0 refl) [ inl whole ↦ inl (whole ∙ c.len.ensures.value) | inr holds ↦ inr holds ];
    } in
    let enough = subst (λ (head : List ℕ). IsEnough head frame) (c.part.ensures.segment ∙ sym c.part_mut.ensures.value) seen in
    c.forward_frame.ensures.verdict ∙ verdict_of_front c.args.table.now.members c.args.ports.now c.part_mut.result.now frame c.args.wire enough

pub returns-then-is_enough-clause-frame : goal.returns-then-is_enough-clause-frame
returns-then-is_enough-clause-frame c =
    let frame = bytes_of c.args.chain.now in
    let seen : IsEnough c.part.result.now frame = record {
      front = c.part.ensures.packet;
      enough = elim (c.if-is_enough.ensures.0 refl) [ inl whole ↦ inl (whole ∙ c.len.ensures.value) | inr holds ↦ inr holds ];
    } in
    let enough = subst (λ (head : List ℕ). IsEnough head frame) (c.part.ensures.segment ∙ sym c.part_mut.ensures.value) seen in
    let size : length c.forward_frame.new.frame ≡ length c.part_mut.result.now = omega arith in
    let written = c.forward_frame.ensures.frame in
    c.part_mut.ensures.written c.forward_frame.new.frame size ∙ (λ k. written k ++ drop (size k) frame)
    ∙ frame_of_front c.args.table.now.members c.args.ports.now c.part_mut.result.now frame c.args.wire enough

pub returns-then-is_enough-clause-shape : goal.returns-then-is_enough-clause-shape
returns-then-is_enough-clause-shape c = shape_rewritten c.forward_frame.new.frame c.args.chain.now
