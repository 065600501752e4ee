use Rattle.stages.specs.Custody.{HoldsFor}
use Rattle.stages.proofs.threads.reader.obtain_many.Given as goal

abbrev pub invariant-loop : goal.invariant-loop
invariant-loop g l = record {
  iterator : (goal.iterator-loop g).can_next l.iterator' × (goal.iterator-loop g).is_finite l.iterator';
  yours : HoldsFor l.access.hand l.batch l.stock;
}
