use Rattle.std.proofs.Common.{refl, ap, ◌∙◌, ◌<◌, ◌/◌, arith}
use Rattle.mbuf.specs.Links.{row}
use Rattle.mbuf.proofs.Rows.{IsReached, further, behind_both, reached_both}
use Rattle.mbuf.proofs.link.Link.within_32.Goals as goal

pub within_16-requires-2-clause-there : goal.within_16-requires-2-clause-there
within_16-requires-2-clause-there c =
    further _ c.args.i _ _ (record { stands = ap row c.as_mut.ensures.value ∙ c.within_16.ensures.value }) (omega arith) c.requires.there

pub returns : goal.returns
returns c =
    let reached : IsReached (c.args.i / 2) (row c.args.self.now) c.as_mut.result.now =
    record { stands = ap row c.as_mut.ensures.value ∙ c.within_16.ensures.value } in
    let some : 0 < c.args.i / 2 = omega arith in
    let below : c.args.i / 2 < c.args.i = omega arith in (
      (refl, λ w. ap (λ rest. (c.args.self.now.0, rest)) (behind_both _ _ c.args.self.now.0 _ _ (row w.value) reached some below)),
      record { writes_back = tt; value = reached_both _ _ _ _ _ reached (omega arith) c.within_16-2.ensures.value },
    )
