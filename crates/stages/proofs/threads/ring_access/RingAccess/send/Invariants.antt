use Rattle.std.proofs.Common.{◌≡◌, ◌+◌, ℕ}
use Rattle.ringcore_laws.specs.FreeRings.{AreSingle}
use Rattle.ringcore_laws.specs.Sound.{occurrences_in}
use Rattle.stages.specs.Custody.{HoldsAll}
use Rattle.stages.proofs.threads.ring_access.RingAccess.send.Given as goal

abbrev pub invariant-loop : goal.invariant-loop
invariant-loop g l = record {
  iterator : (goal.iterator-loop g).can_next l.iterator' × (goal.iterator-loop g).is_finite l.iterator';
  yours : HoldsAll g.T.Tagged.numbers l.self.hand (λ b. occurrences_in g.T.Tagged.numbers b l.list);
  single : l.ring ≡ 0 → AreSingle g.T.Tagged.numbers l.list;
  kept : (others : ℕ → ℕ) → HoldsAll g.T.Tagged.numbers l.fn.self.hand (λ b. occurrences_in g.T.Tagged.numbers b l.fn.list + others b)
      → HoldsAll g.T.Tagged.numbers l.self.hand (λ b. occurrences_in g.T.Tagged.numbers b l.list + others b);
}
