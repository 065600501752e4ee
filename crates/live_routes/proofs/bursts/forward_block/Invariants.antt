use Rattle.std.proofs.Common.{◌≡◌, ◌≤◌, drop, length, take}
use Rattle.live_routes.specs.Frames.{all_left_by, found_numbers}
use Rattle.live_routes.specs.Ports.{sources_of}
use Rattle.live_routes.proofs.bursts.forward_block.Given as goal

abbrev pub invariant-loop-i : goal.invariant-loop-i
invariant-loop-i l = record {
  inside : l.i ≤ length l.initial.frames;
  long : length l.frames ≡ length l.initial.frames;
  places : length l.verdicts ≡ length l.initial.frames;
  left : take l.i l.frames ≡ take l.i (all_left_by l.fn.hops (sources_of l.fn.ports) l.fn.found l.initial.frames);
  rest : drop l.i l.frames ≡ drop l.i l.initial.frames;
  told : take l.i l.verdicts ≡ take l.i (found_numbers l.fn.hops (sources_of l.fn.ports) l.fn.found l.initial.frames);
}
