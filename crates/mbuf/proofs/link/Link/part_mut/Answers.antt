use Rattle.std.proofs.Common.{arith, refl, ap, ◌∙◌, ◌<◌, ◌-◌, ◌∷◌, ◌++◌, take}
use Rattle.mbuf.specs.Buffer.{Buffer, rewritten}
use Rattle.mbuf.specs.Links.{row}
use Rattle.mbuf.proofs.Rows.{IsReached, at_link_is, part_of_is}
use Rattle.mbuf.proofs.link.Link.part_mut.Goals as goal

pub returns : goal.returns
returns c =
    let i = c.args.i in
    let from = c.args.self.now in
    let reached : IsReached i (row from) c.as_mut.result.now = record { stands = ap row c.as_mut.ensures.value ∙ c.within_64.ensures.value } in
    let some : 0 < i = omega arith in (
      (
        refl,
        λ w. ap (λ (b : Buffer). (from.0, take (i - 1) from.1 ++ (rewritten w b ∷ c.as_mut.result.now.1))) c.segment_mut.ensures.value
            ∙ at_link_is i from c.as_mut.result.now (rewritten w) some reached,
      ),
      record { writes_back = tt; value = c.bytes_mut-2.ensures.value ∙ ap (λ (b : Buffer). b.bytes) c.segment_mut.ensures.value ∙ part_of_is _ _ _ reached },
    )
