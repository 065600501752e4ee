use Rattle.std.proofs.Common.{◌≡◌, [], ◌∷◌, map}
use Rattle.std.specs.List.{range_with_len}
use Rattle.mbuf.specs.Buffer.{made}
use Rattle.mbuf.proofs.buffers.make.Given as goal

abbrev pub invariant-loop-number : goal.invariant-loop-number
invariant-loop-number l = l.chains.items ≡ map (λ number. made l.headroom l.room number ∷ []) (range_with_len 0 l.number)
