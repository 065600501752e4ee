use Rattle.std.proofs.Common.{◌≡◌, ◌≤◌, length, map, take}
use Rattle.live_routes.specs.Frames.{address_of}
use Rattle.live_routes.proofs.bursts.write_addresses.Given as goal

abbrev pub invariant-loop-i : goal.invariant-loop-i
invariant-loop-i l = record {
  inside : l.i ≤ length l.frames;
  long : length l.addresses ≡ length l.frames;
  done : take l.i l.addresses ≡ take l.i (map address_of l.frames);
}
