use Rattle.std.proofs.Common.{arith, ap, ◌∙◌, List, length, ◌-◌, min}
use Rattle.std.proofs.lemmas.Grind.{common_steps}
use Rattle.mbuf.specs.Buffer.{Buffer, overwritten}
use Rattle.mbuf.specs.Chain.{bytes_of}
use Rattle.mbuf.proofs.Copies.{written_as}
use Rattle.mbuf.proofs.link.Link.+write.Goals as goal

pub returns-clause-packet : goal.returns-clause-packet
returns-clause-packet t c =
    let start = c.min-start.result in
    let front = c.split_at.result.0.now in
    let here = c.len-here.ensures ∙ ap (λ (v : Buffer × List Buffer). length v.0.bytes) c.self.view_is in
    let first = ap (λ (b : Buffer). b.bytes) c.write.ensures.done ∙ ap (λ (v : Buffer × List Buffer). overwritten start front v.0.bytes) c.self.view_is in
    written_as c.args.self.now.0.bytes (bytes_of c.args.self.now.1) c.args.bytes.now front c.split_at.result.1.now _ _ c.args.at start c.min-n.result
    (c.min-start.ensures ∙ ap (min c.args.at) here) (c.min-n.ensures ∙ ap (λ k. min (length c.args.bytes.now) (k - start)) here)
    c.split_at.ensures.front c.split_at.ensures.back first (grind (arith, common_steps))
