use Rattle.std.proofs.Common.{arith, ◌∙◌, ap, sym, List, ℕ, length, take, drop}
use Rattle.mbuf.specs.Buffer.{Buffer}
use Rattle.mbuf.specs.Chain.{bytes_of, part_of, place_of_part}
use Rattle.mbuf.specs.Links.{row}
use Rattle.mbuf.proofs.Chains.{part_is, part_within}
use Rattle.mbuf.proofs.chain.Chain.part.Goals as goal

pub returns-clause-packet : goal.returns-clause-packet
returns-clause-packet c =
    let value =
    c.part.ensures ∙ ap (λ (v : Buffer × List Buffer). part_of (row v) c.args.i) c.deref.ensures
    ∙ ap (λ (l : List Buffer). part_of l c.args.i) c.self.view_is in
    value ∙ part_is c.args.i c.args.self.now ∙ ap (λ (l : List ℕ). take (length l) (drop (place_of_part c.args.self.now c.args.i) (bytes_of c.args.self.now)))
    (sym value)

pub returns-clause-within : goal.returns-clause-within
returns-clause-within c =
    let value =
    c.part.ensures ∙ ap (λ (v : Buffer × List Buffer). part_of (row v) c.args.i) c.deref.ensures
    ∙ ap (λ (l : List Buffer). part_of l c.args.i) c.self.view_is in
    omega (arith, ap length value, part_within c.args.i c.args.self.now c.requires)
