use Rattle.ringapi.specs.Spares.{AreSpare, IsSpareOf}
use Rattle.ringapi.proofs.spares.thin.Given as goal

abbrev pub invariant-loop-i : goal.invariant-loop-i
invariant-loop-i g l = record {
  hand : IsSpareOf l.f l.hand;
  others : AreSpare l.f l.hands.items;
}
