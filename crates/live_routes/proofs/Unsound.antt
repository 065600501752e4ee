-- States of a writer that are none: each breaks one field of `IsRouting` alone.
use Rattle.std.proofs.Common.{ℕ, true, false, List, [], ◌∷◌, Option, Some, None, refl, ap, arith}
use Rattle.std.proofs.lemmas.Bool.{false≢true}
use Rattle.live_value.specs.Pasts.{only, followed}
use Rattle.live_value.specs.Publishing.{Publishing}
use Rattle.live_routes.specs.Forwarding.{Forwarding, opening}
use Rattle.live_routes.specs.Routing.{IsRouting}

-- one next hop, and no routes
abbrev with : ℕ → Forwarding ℕ ℕ
with hop = opening 16 4 (hop ∷ []) []

abbrev first : List ℕ → ℕ
first [] = 0
first (x ∷ xs) = x

abbrev alone : Publishing (Forwarding ℕ ℕ)
alone = record { seen = only (with 1); behind = None }

abbrev late : Publishing (Forwarding ℕ ℕ)
late = record { seen = followed (only (with 1)) (with 2); behind = Some (with 1) }

-- the writer's copy has a change that the list lacks
pub ahead : IsRouting alone (Some (with 2)) true [] → ⊥
ahead h = let e = ap (λ f. first f.hops) (h.ahead refl (with 2) refl) in absurd (omega (arith, e))

-- the writer is ready without a copy
pub here : IsRouting alone None true [] → ⊥
here h = absurd (false≢true (h.here refl))

-- the second copy lacks a change that the list lacks, too
pub behind : IsRouting late None false [] → ⊥
behind h = let e = ap (λ f. first f.hops) (h.behind refl (with 1) refl) in absurd (omega (arith, e))

-- the second copy is in two places
pub apart : IsRouting late (Some (with 2)) true [] → ⊥
apart h = let e = ap count (h.apart refl) in absurd (omega (arith, e))
  where
    count : Option (Forwarding ℕ ℕ) → ℕ
    count None = 0
    count (Some f) = 1
