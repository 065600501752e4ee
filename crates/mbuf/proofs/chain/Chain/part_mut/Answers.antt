use Rattle.std.proofs.Common.{arith, ◌∙◌, ap, refl, sym, List, ℕ, length, take, drop}
use Rattle.mbuf.specs.Buffer.{Buffer, rewritten}
use Rattle.mbuf.specs.Chain.{bytes_of, fresh_of, part_of, place_of_part, at_segment}
use Rattle.mbuf.specs.Lends.{at_link}
use Rattle.mbuf.specs.Links.{row}
use Rattle.mbuf.proofs.Chains.{chain_kept, length_kept, fresh_rewritten, bytes_rewritten, part_is, part_within, packet_rewritten}
use Rattle.mbuf.proofs.Rows.{row_at_link}
use Rattle.mbuf.proofs.chain.Chain.part_mut.Goals as goal

pub invariant_of-self-lent : goal.invariant_of-self-lent
invariant_of-self-lent c = λ w.
    let i = c.args.i in
    let old = row c.self.inside.first.value in
    let new = row (at_link i (rewritten w) c.deref_mut.result.now) in
    let there =
    row_at_link i (rewritten w) c.deref_mut.result.now ∙ ap (λ (v : Buffer × List Buffer). at_segment i (rewritten w) (row v)) c.deref_mut.ensures.value in
    let kept = ap fresh_of there ∙ fresh_rewritten i w old in
    let long = ap (λ (l : List Buffer). length (bytes_of l)) there ∙ bytes_rewritten i w old in
    (chain_kept old new kept c.self.invariant.0, c.self.invariant.1 ∙ sym long, c.self.invariant.2 ∙ sym (length_kept old new kept))

pub returns : goal.returns
returns c =
    let i = c.args.i in
    let chain = c.args.self.now in
    let lent = c.deref_mut.ensures.value in
    let value = c.part_mut.ensures.value ∙ ap (λ (v : Buffer × List Buffer). part_of (row v) i) lent ∙ ap (λ (l : List Buffer). part_of l i) c.self.view_is in (
      (
        refl,
        λ w. row_at_link i (rewritten w) c.deref_mut.result.now ∙ ap (λ (v : Buffer × List Buffer). at_segment i (rewritten w) (row v)) lent
            ∙ ap (at_segment i (rewritten w)) c.self.view_is,
      ),
      record {
        writes_back = tt;
        value = value;
        packet = value ∙ part_is i chain ∙ ap (λ (l : List ℕ). take (length l) (drop (place_of_part chain i) (bytes_of chain))) (sym value);
        within = omega (arith, ap length value, part_within i chain c.requires);
        written = λ w e. packet_rewritten i w chain c.requires (e ∙ ap length value);
        kept = λ w. fresh_rewritten i w chain;
      },
    )
