-- A call that is refused leaves the array that it would have filled
use Rattle.std.proofs.Common.{◌≡◌, ℕ, IfErr, List, Ok, Err, inl, inr}
use Rattle.geom.specs.declared.plan.How.{How}
use Rattle.capi.specs.Codes.{Outcome}
use Rattle.capi.specs.Same.{GetsNumbers, ReceivesNumbers}
use Rattle.capi.specs.declared.pools.member.Number.{Number}
use Rattle.capi.specs.declared.pools.member.PoolMember.{PoolMember}

pub got_none : (before after : List Number) (p q : PoolMember) (outcome : Outcome) → GetsNumbers before after p q outcome
    → IfErr outcome (λ _. after ≡ before)
got_none before after p q (Ok count) done = tt
got_none before after p q (Err why) done = done.1.0

pub received_none : (ring : ℕ) (how : How) (before after : List Number) (p q : PoolMember) (outcome : Outcome)
    → ReceivesNumbers ring how before after p q outcome → IfErr outcome (λ _. after ≡ before)
received_none ring how before after p q (Ok count) done = tt
received_none ring how before after p q (Err why) (inl none) = none.3
received_none ring how before after p q (Err why) (inr done) = done.2.0
