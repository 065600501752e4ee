use Rattle.std.proofs.Common.{◌≡◌, ◌+◌, ◌++◌, length, take}
use Rattle.pool.specs.Places.{ArePlaced}
use Rattle.pool.proofs.places.push_all_apart.Given as goal

abbrev pub invariant-loop-i : goal.invariant-loop-i
invariant-loop-i g l = record {
  long : length l.words ≡ length l.fn.words;
  places : length l.at ≡ length l.fn.at;
  row : take (l.n + l.i) l.words ≡ take l.n l.fn.words ++ take l.i l.items;
  placed : ArePlaced g.T.Tagged.numbers l.at (take l.n l.fn.words ++ take l.i l.items);
}
