use Rattle.std.proofs.Common.{arith, ap, ◌∙◌, sym, List, length, length-append, subst}
use Rattle.mbuf.specs.Buffer.{Buffer}
use Rattle.mbuf.specs.Chain.{IsChain, fresh_of, bytes_of, first_bytes}
use Rattle.mbuf.specs.Links.{row}
use Rattle.mbuf.proofs.Chains.{chain_front, chain_back, first_alone, length-bytes_of-append}
use Rattle.mbuf.proofs.chain.Chain.take_first.Goals as goal

pub invariant_of-alone : goal.invariant_of-alone
invariant_of-alone c =
    let one = row c.take_next.new.self in
    let others = row c.in-Some.next.value in
    let parts = sym (ap row c.deref_mut.ensures.value) ∙ c.in-Some.ensures.rest in
    let is = subst (λ (l : List Buffer). IsChain (fresh_of l)) parts c.self.invariant.0 in
    let long = ap (λ (l : List Buffer). length (first_bytes l)) parts in
    let first = ap (λ (v : Buffer × List Buffer). length (first_bytes (row v))) c.deref.ensures in (
      chain_front one others is (omega arith),
      omega (arith, long, first, first_alone one others c.in-Some.ensures.first),
      omega (arith, c.in-Some.ensures.first),
    )

pub invariant_of-rest : goal.invariant_of-rest
invariant_of-rest c =
    let one = row c.take_next.new.self in
    let others = row c.in-Some.next.value in
    let parts = sym (ap row c.deref_mut.ensures.value) ∙ c.in-Some.ensures.rest in
    let alone = c.in-Some.ensures.first in
    let is = subst (λ (l : List Buffer). IsChain (fresh_of l)) parts c.self.invariant.0 in
    let long = ap (λ (l : List Buffer). length (first_bytes l)) parts in
    let first = ap (λ (v : Buffer × List Buffer). length (first_bytes (row v))) c.deref.ensures in
    let whole = ap (λ (l : List Buffer). length (bytes_of l)) parts in
    let many = ap (λ (l : List Buffer). length l) parts in (
      chain_back one others is (omega arith),
      omega (arith, long, first, whole, first_alone one others alone, length-bytes_of-append one others),
      omega (arith, many, alone, length-append one others),
    )
