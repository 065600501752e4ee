use Rattle.std.proofs.Common.{◌≡◌, ◌+◌, ◌++◌, ℕ, length}
use Rattle.std.specs.List.{flat_map}
use Rattle.burst.specs.Numbers.{AreDistinct}
use Rattle.mbuf.specs.Chain.{numbers_of}
use Rattle.stages.specs.Custody.{in_chain, in_items}
use Rattle.stages.specs.Numbers.{item_numbers}
use Rattle.stages.proofs.threads.segments.link.Given as goal

abbrev pub decreases-loop-item : goal.decreases-loop-item
decreases-loop-item g l = length l.got

abbrev pub invariant-loop-item : goal.invariant-loop-item
invariant-loop-item g l = record {
  apart : AreDistinct (flat_map item_numbers l.got ++ numbers_of l.whole);
  same : (b : ℕ) → in_items l.fn.got b ≡ in_items l.got b + in_chain l.whole b;
}
