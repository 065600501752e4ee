use Rattle.std.proofs.Common.{◌≡◌, inr, refl, rules}
use Rattle.capi.specs.Ends.{end_on}
use Rattle.capi.specs.declared.rings.end.End.{End}
use Rattle.capi.specs.declared.rings.end.EndState.TheVariants.{Closed, Open}
use Rattle.capi.proofs.rings.ends.open_end.Goals as goal

pub returns : goal.returns
returns c =
    let m = c.args.member.now in
    let e : End = record { at = c.place-at.result; state = Open } in
    let shut : (end_on m.ends c.args.side).state ≡ Closed = search rules in
    inr (inr (shut, refl, (e, c.place-at.ensures.ring, refl, record { fabric = refl; hand = refl; shown = refl; left = refl; ends = c.set.ensures })))
