use Rattle.std.proofs.Common.{◌≡◌, ◌≤◌, Some, length, map, take}
use Rattle.capi.specs.Plans.{plan_asked}
use Rattle.capi.proofs.rings.opening.plans.Given as goal

abbrev pub invariant-loop-i : goal.invariant-loop-i
invariant-loop-i l = record {
  inside : l.i ≤ length l.fn.asked;
  made : map plan_asked (take l.i l.fn.asked) ≡ map Some l.made.items;
}
