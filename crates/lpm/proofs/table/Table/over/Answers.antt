use Rattle.std.proofs.Common.{inl, inr, arith}
use Rattle.lpm.proofs.Lookups.{right_nothing}
use Rattle.lpm.proofs.table.Table.over.Goals as goal

pub invariant_of-result : goal.invariant_of-result
invariant_of-result c = rw (c.requires.none, c.new.ensures) (right_nothing c.args.levels.bits c.args.levels.limit
    (elim c.requires.form [ inl small ↦ omega arith | inr large ↦ omega arith ])
    (elim c.requires.form [ inl small ↦ omega arith | inr large ↦ omega arith ]))
