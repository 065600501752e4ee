use Rattle.std.proofs.Common.{arith, ap, ◌∙◌, List, length, length-append}
use Rattle.mbuf.specs.Buffer.{Buffer}
use Rattle.mbuf.specs.Chain.{bytes_of, fresh_of}
use Rattle.mbuf.specs.Links.{row}
use Rattle.mbuf.proofs.Chains.{chain_kept, bytes_few}
use Rattle.mbuf.proofs.chain.Chain.prepend.Goals as goal

pub overflow_add-self : goal.overflow_add-self
overflow_add-self c =
    let same = ap row c.deref_mut.ensures.value in
    let kept = c.prepend.ensures.kept ∙ ap fresh_of same in
    let long = ap (λ (l : List Buffer). length (bytes_of l)) same in
    let few = bytes_few (row c.prepend.new.self) (chain_kept (row c.self.inside.first.value) (row c.prepend.new.self) kept c.self.invariant.0) in
    omega (arith, few, long, ap length c.prepend.ensures.packet, length-append c.args.bytes.now (bytes_of (row c.deref_mut.result.now)))
