use Rattle.std.proofs.Common.{arith, ap, ◌∙◌, List, length, ◌-◌, min}
use Rattle.std.proofs.lemmas.Grind.{common_steps}
use Rattle.mbuf.specs.Buffer.{Buffer}
use Rattle.mbuf.specs.Chain.{bytes_of}
use Rattle.mbuf.proofs.Copies.{copied_as}
use Rattle.mbuf.proofs.link.Link.+copy_out.Goals as goal

pub returns-in-Some : goal.returns-in-Some
returns-in-Some t c =
    let here = c.bytes-here.ensures ∙ ap (λ (v : Buffer × List Buffer). v.0.bytes) c.self.view_is in
    copied_as c.args.self.now.0.bytes (bytes_of c.args.self.now.1) c.copy_from_slice.new.self c.copy_out.new.out c.args.at (length c.args.out.now)
    c.min-start.result c.min-n.result
    (c.min-start.ensures ∙ ap (λ (l : List _). min c.args.at (length l)) here)
    (c.min-n.ensures ∙ ap (λ (l : List _). min (length c.args.out.now) (length l - c.min-start.result)) here) (grind (arith, common_steps))
    (grind (arith, common_steps))
