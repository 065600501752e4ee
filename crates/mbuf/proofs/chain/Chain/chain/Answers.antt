use Rattle.std.proofs.Common.{arith, ap, ◌∙◌, ◌++◌, List, length, length-append}
use Rattle.mbuf.specs.Buffer.{Buffer}
use Rattle.mbuf.specs.Chain.{bytes_of}
use Rattle.mbuf.specs.Links.{row}
use Rattle.mbuf.proofs.Chains.{bytes_few, chain_joined, length-bytes_of-append}
use Rattle.mbuf.proofs.chain.Chain.chain.Goals as goal

pub overflow_add-self : goal.overflow_add-self
overflow_add-self c =
    omega (arith, bytes_few (row c.self.inside.first.value) c.self.invariant.0, bytes_few (row c.other.inside.first.value) c.other.invariant.0)

pub invariant_of-self : goal.invariant_of-self
invariant_of-self c =
    let one = row c.self.inside.first.value in
    let other = row c.other.inside.first.value in
    let new = row c.join.new.self in
    let joined = c.join.ensures ∙ ap (λ (v : Buffer × List Buffer). row v ++ other) c.deref_mut.ensures.value in
    let long = ap (λ (l : List Buffer). length (bytes_of l)) joined in
    let many = ap (λ (l : List Buffer). length l) joined in (
      chain_joined one other new _ _ c.self.view_is c.other.view_is joined c.self.invariant.0 c.other.invariant.0 c.requires.apart (omega arith),
      omega (arith, long, length-bytes_of-append one other),
      omega (arith, many, length-append one other),
    )
