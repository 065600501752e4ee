use Rattle.std.proofs.Common.{ap, ◌∙◌, List, length, sym}
use Rattle.mbuf.specs.Buffer.{Buffer}
use Rattle.mbuf.specs.Chain.{fresh_of, bytes_of}
use Rattle.mbuf.specs.Links.{row}
use Rattle.mbuf.proofs.Chains.{chain_kept, length_kept, fresh_again, bytes_of-fresh}
use Rattle.mbuf.proofs.chain.Chain.reset.Goals as goal

pub invariant_of-self : goal.invariant_of-self
invariant_of-self c =
    let old = row c.self.inside.first.value in
    let new = row c.reset.new.self in
    let done = c.reset.ensures ∙ ap (λ (v : Buffer × List Buffer). fresh_of (row v)) c.deref_mut.ensures.value in
    let kept = ap fresh_of done ∙ fresh_again old in (
      chain_kept old new kept c.self.invariant.0,
      sym (ap (λ (l : List Buffer). length (bytes_of l)) done ∙ ap length (bytes_of-fresh old)),
      c.self.invariant.2 ∙ sym (length_kept old new kept),
    )

pub returns-clause-packet : goal.returns-clause-packet
returns-clause-packet c = ap bytes_of c.reset.ensures ∙ bytes_of-fresh (row c.deref_mut.result.now)

pub returns-clause-kept : goal.returns-clause-kept
returns-clause-kept c =
    ap fresh_of c.reset.ensures ∙ fresh_again (row c.deref_mut.result.now) ∙ ap (λ (v : Buffer × List Buffer). fresh_of (row v)) c.deref_mut.ensures.value
    ∙ ap fresh_of c.self.view_is
