use Rattle.std.proofs.Common.{arith, ◌≡◌, ◌+◌, ◌≤◌, ◌∙◌, ap, sym, List, ℕ, length, take, drop}
use Rattle.mbuf.specs.Buffer.{Buffer}
use Rattle.std.proofs.lemmas.List.{length-take-le, length-drop}
use Rattle.mbuf.specs.Chain.{bytes_of, fresh_of, space_of, filled}
use Rattle.mbuf.specs.Links.{row}
use Rattle.mbuf.proofs.Chains.{bytes_few, space_few, chain_kept, length_kept}
use Rattle.mbuf.proofs.Copies.{bytes_of-filled}
use Rattle.mbuf.proofs.chain.Chain.fill_from.Goals as goal

pub fill_from-requires-clause-fits : goal.fill_from-requires-clause-fits
fill_from-requires-clause-fits c =
    let long = ap (λ (v : Buffer × List Buffer). length (bytes_of (row v))) c.deref.ensures in
    omega (arith, bytes_few (row c.source.inside.first.value) c.source.invariant.0, long)

pub overflow_cast-self : goal.overflow_cast-self
overflow_cast-self c = omega (arith, space_few (row c.self.inside.first.value) c.self.invariant.0, ap space_of c.self.view_is)

-- a chain that was filled holds these bytes
holds : (at n : ℕ) (source old new : List Buffer) → new ≡ filled (take n (drop at (bytes_of source))) old → at + n ≤ length (bytes_of source) → n ≤ space_of old
    → bytes_of new ≡ take n (drop at (bytes_of source))
holds at n source old new done there room =
    let long = length-take-le n (drop at (bytes_of source)) (omega (arith, length-drop at (bytes_of source))) in
    ap bytes_of done ∙ bytes_of-filled (take n (drop at (bytes_of source))) old (omega (arith, long))

pub invariant_of-self : goal.invariant_of-self
invariant_of-self c =
    let old = row c.self.inside.first.value in
    let new = row c.fill_from.new.self in
    let lent = c.deref_mut.ensures.value in
    let source = row c.deref.result.now in
    let long = ap (λ (v : Buffer × List Buffer). length (bytes_of (row v))) c.deref.ensures ∙ ap (λ (l : List Buffer). length (bytes_of l)) c.source.view_is in
    let space = ap (λ (v : Buffer × List Buffer). space_of (row v)) lent ∙ ap space_of c.self.view_is in
    let there : c.args.at + c.args.n ≤ length (bytes_of source) = omega (arith, long) in
    let whole = holds c.args.at c.args.n source (row c.deref_mut.result.now) new c.fill_from.ensures.done there (omega (arith, space)) in
    let count = length-take-le c.args.n (drop c.args.at (bytes_of source)) (omega (arith, length-drop c.args.at (bytes_of source))) in
    let kept = c.fill_from.ensures.kept ∙ ap (λ (v : Buffer × List Buffer). fresh_of (row v)) lent in
    (chain_kept old new kept c.self.invariant.0, sym (ap length whole ∙ count), c.self.invariant.2 ∙ sym (length_kept old new kept))

pub returns-clause-packet : goal.returns-clause-packet
returns-clause-packet c =
    let new = row c.fill_from.new.self in
    let source = row c.deref.result.now in
    let same = ap (λ (v : Buffer × List Buffer). bytes_of (row v)) c.deref.ensures ∙ ap bytes_of c.source.view_is in
    let space = ap (λ (v : Buffer × List Buffer). space_of (row v)) c.deref_mut.ensures.value ∙ ap space_of c.self.view_is in
    let there : c.args.at + c.args.n ≤ length (bytes_of source) = omega (arith, ap length same) in
    holds c.args.at c.args.n source (row c.deref_mut.result.now) new c.fill_from.ensures.done there (omega (arith, space))
    ∙ ap (λ (l : List ℕ). take c.args.n (drop c.args.at l)) same
