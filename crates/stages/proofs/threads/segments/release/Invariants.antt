use Rattle.std.proofs.Common.{◌+◌, ℕ, length}
use Rattle.mbuf.specs.Links.{rest_of}
use Rattle.ringcore_laws.specs.FreeRings.{AreSingle}
use Rattle.stages.specs.Custody.{HoldsAll, in_chain, in_items}
use Rattle.stages.specs.Numbers.{item_numbers}
use Rattle.stages.proofs.threads.segments.release.Given as goal

abbrev pub decreases-loop-rest : goal.decreases-loop-rest
decreases-loop-rest g l = length (rest_of l.rest)

abbrev pub invariant-loop-rest : goal.invariant-loop-rest
invariant-loop-rest g l = record {
  yours : HoldsAll item_numbers l.access.hand (λ b. in_items l.free b + in_chain (rest_of l.rest) b);
  single : AreSingle item_numbers l.free;
  kept : (others : ℕ → ℕ) → HoldsAll item_numbers l.fn.access.hand (λ b. in_items l.fn.free b + (in_chain l.fn.chain b + others b))
      → HoldsAll item_numbers l.access.hand (λ b. in_items l.free b + (in_chain (rest_of l.rest) b + others b));
}
