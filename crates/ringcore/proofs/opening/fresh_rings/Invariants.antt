use Rattle.std.proofs.Common.{◌≡◌, length, take}
use Rattle.ringcore.specs.Opening.{AreFresh}
use Rattle.ringcore.specs.Planned.{plans_in, rings_in}
use Rattle.ringcore.proofs.opening.fresh_rings.Given as goal

abbrev pub invariant-loop-k : goal.invariant-loop-k
invariant-loop-k l = (length (rings_in l.rings.items) ≡ l.k) × (plans_in l.rings.items ≡ take l.k l.plans) × AreFresh l.plans (rings_in l.rings.items)
