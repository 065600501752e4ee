use Rattle.std.proofs.Common.{eq-eqb, sym, ◌∙◌, ◌%◌, ◌+◌, ap}
use Rattle.std.proofs.Math.Nat.{add-mod_right}
use Rattle.geom.proofs.example.laps.Goals as goal

-- a whole lap changes no remainder
pub returns : goal.returns
returns c =
    let first = c.slot.ensures.value in
    let second = c.slot-2.ensures.value in
    let lap = ap (λ n. (c.args.position + n) % c.args.geometry.size) c.size.ensures.value in
    eq-eqb c.slot.result c.slot-2.result
    (first ∙ sym (add-mod_right c.args.position c.args.geometry.size) ∙ sym lap ∙ sym second)
