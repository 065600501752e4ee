use Rattle.std.proofs.Common.{◌-◌, bit_and, ap, ◌∙◌, arith}
use Rattle.std.proofs.lemmas.Nat.{one_shl, and_mask}
use Rattle.lpm.proofs.places.low_of.Goals as goal

pub returns-clause-value : goal.returns-clause-value
returns-clause-value c =
    ap (λ n. bit_and c.args.address (n - 1)) (one_shl (32 - c.args.bits) 32 (omega (arith, c.requires.nonzero)))
    ∙ and_mask c.args.address (32 - c.args.bits)
