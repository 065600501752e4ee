use Rattle.std.proofs.Common.{arith, ap, ◌∙◌, List, length, length-append}
use Rattle.mbuf.specs.Buffer.{Buffer}
use Rattle.mbuf.specs.Chain.{bytes_of, fresh_of}
use Rattle.mbuf.specs.Links.{row}
use Rattle.mbuf.proofs.Chains.{chain_kept, bytes_few}
use Rattle.mbuf.proofs.chain.Chain.append.Goals as goal

pub overflow_cast-self : goal.overflow_cast-self
overflow_cast-self c =
    let same = ap row c.deref_mut.ensures.value in
    let kept = c.in_ok-append.ensures.kept ∙ ap fresh_of same in
    let few = bytes_few (row c.append.new.self) (chain_kept (row c.self.inside.first.value) (row c.append.new.self) kept c.self.invariant.0) in
    omega (arith, few, ap length c.in_ok-append.ensures.packet, length-append (bytes_of (row c.deref_mut.result.now)) c.args.bytes.now)

pub overflow_add-self : goal.overflow_add-self
overflow_add-self c =
    let same = ap row c.deref_mut.ensures.value in
    let kept = c.in_ok-append.ensures.kept ∙ ap fresh_of same in
    let long = ap (λ (l : List Buffer). length (bytes_of l)) same in
    let few = bytes_few (row c.append.new.self) (chain_kept (row c.self.inside.first.value) (row c.append.new.self) kept c.self.invariant.0) in
    omega (arith, few, long, ap length c.in_ok-append.ensures.packet, length-append (bytes_of (row c.deref_mut.result.now)) c.args.bytes.now)
