use Rattle.std.proofs.Common.{◌≡◌, length, take}
use Rattle.pool.specs.Places.{ArePlaced}
use Rattle.pool.proofs.places.place_all.Given as goal

abbrev pub invariant-loop-i : goal.invariant-loop-i
invariant-loop-i g l = record {
  long : length l.at ≡ length l.fn.at;
  placed : ArePlaced g.T.Tagged.numbers l.at (take l.i l.words);
}
