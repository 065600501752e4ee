-- A writer as its callers see it.
use Rattle.std.specs.Prelude.{◌≡◌, ℕ, ◌+◌, Bool, true, false, Option, Some, None, IsSome, List, fold, if◌then◌else◌}
use Rattle.std.specs.Prelude.{refl}
use Rattle.std.specs.Coded.{Coded, code_by, coded×, coded_ℕ, coded_bool}
use Rattle.live_value.specs.declared.past.Past.{Past}
use Rattle.live_value.specs.Publishing.{Publishing}
use Rattle.live_routes.specs.Forwarding.{Forwarding, forwarding_code}
use Rattle.live_routes.specs.Seen.{seen_code}
use Rattle.live_routes.specs.Changes.{applied}
use Rattle.live_routes.specs.declared.change.Change.{Change}

pub record Routing (H P : Type 0) : Type 0 where
  -- what was published, oldest first
  pub seen : Past (Forwarding H P)
  -- what the next publish will publish
  pub prepared : Forwarding H P
  -- whether it can be changed: both copies are the writer's, but for what readers have
  pub settled : Bool
  -- how many changes readers don't see yet
  pub pending : ℕ

abbrev pub routing_code : {H P : Type 0} → Coded H → Coded P → Coded (Routing H P)
routing_code {H} {P} h p =
    code_by (Past (Forwarding H P)
    × (Forwarding H P × (Bool
    × ℕ))) (coded× (seen_code h p) (coded× (forwarding_code h p) (coded× coded_bool coded_ℕ)))
    (λ r. (r.seen, (r.prepared, (r.settled, r.pending))))
    (λ c. record { seen = c.0; prepared = c.1.0; settled = c.1.1.0; pending = c.1.1.1 })
    (λ _. refl)

abbrev pub or_else : {X : Type 0} → X → Option X → X
or_else d None = d
or_else d (Some x) = x

module _ {H P : Type 0} where
  -- what is prepared: the copy that the writer has, if it has all changes
  abbrev pub prepared_of : Past (Forwarding H P) → Option (Forwarding H P) → Bool → Forwarding H P
  prepared_of seen spare ready = if ready then or_else seen.latest spare else seen.latest

  -- the second copy, which is the writer's, or is still behind readers
  abbrev pub second : Option (Forwarding H P) → Option (Forwarding H P) → Option (Forwarding H P)
  second None behind = behind
  second (Some f) behind = Some f

  pub record IsRouting (p : Publishing (Forwarding H P)) (spare : Option (Forwarding H P)) (ready : Bool)
      (log : List (Change H P)) : Type 0 where
    -- the list makes of what readers have what the writer has
    pub ahead : ready ≡ true → (f : Forwarding H P) → spare ≡ Some f → f ≡ fold applied p.seen.latest log
    pub here : ready ≡ true → IsSome spare
    -- or it makes of the second copy what readers have
    pub behind : ready ≡ false → (f : Forwarding H P) → second spare p.behind ≡ Some f
        → p.seen.latest ≡ fold applied f log
    -- the second copy is in one place
    pub apart : IsSome spare → p.behind ≡ None

  -- one change more is prepared
  abbrev pub with_prepared : Routing H P → Forwarding H P → Routing H P
  with_prepared r f = record r { prepared = f; pending = r.pending + 1 }

  -- a call prepared one change
  pub record Prepares (old new : Routing H P) (f : Forwarding H P) : Type 0 where
    pub prepared : new.prepared ≡ f
    pub seen : new.seen ≡ old.seen
    pub settled : new.settled ≡ true
    pub pending : new.pending ≡ old.pending + 1

  -- a call changed nothing that is published or prepared
  pub record Keeps (old new : Routing H P) : Type 0 where
    pub prepared : new.prepared ≡ old.prepared
    pub seen : new.seen ≡ old.seen
    pub pending : new.pending ≡ old.pending
