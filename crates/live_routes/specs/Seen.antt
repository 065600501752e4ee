-- A reader as its callers see it, as a value that proofs tell apart.
use Rattle.std.specs.Prelude.{Bool, refl}
use Rattle.std.specs.Coded.{Coded, code_by, coded×, coded_bool}
use Rattle.live_value.specs.declared.past.Past.{Past}
use Rattle.live_value.specs.Lanes.{Glance}
use Rattle.live_value.specs.Pasts.{past_code}
use Rattle.live_routes.specs.Forwarding.{Forwarding, forwarding_code}

abbrev pub seen_code : {H P : Type 0} → Coded H → Coded P → Coded (Past (Forwarding H P))
seen_code h p = past_code (forwarding_code h p)

-- what it has seen published, and whether it has the last of it in hand
abbrev pub glance_code : {H P : Type 0} → Coded H → Coded P → Coded (Glance (Forwarding H P))
glance_code {H} {P} h p =
    code_by (Past (Forwarding H P) × Bool) (coded× (seen_code h p) coded_bool)
    (λ g. (g.seen, g.inside))
    (λ c. record { seen = c.0; inside = c.1 })
    (λ _. refl)
