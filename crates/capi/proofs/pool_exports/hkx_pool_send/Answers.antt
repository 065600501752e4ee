use Rattle.std.proofs.Common.{◌∙◌, rules, subst, sym}
use Rattle.geom.specs.declared.plan.How.{How}
use Rattle.capi.specs.Calls.{how_of}
use Rattle.capi.specs.Codes.{Outcome}
use Rattle.capi.specs.PoolHandles.{AtPool, pool_in}
use Rattle.capi.specs.Same.{SendsNumbers}
use Rattle.capi.specs.declared.pools.member.PoolMember.{PoolMember}
use Rattle.capi.specs.declared.object.Object.TheVariants as object
use Rattle.capi.proofs.Slots.{at_none, at_one, at_other}
use Rattle.capi.proofs.pool_exports.hkx_pool_send.Goals as goal
use Rattle.capi.proofs.pool_exports.hkx_pool_send.Goals.{in-Some, in-Some-Pool, in-Some-deref_mut, in-None-deref_mut, in-None}

pub returns : goal.returns
returns c =
    let h = c.args.h.now.value in
    let g = c.match-borrow.h.value in
    let outcome = c.match-borrow.outcome in
    let does : PoolMember → PoolMember → Outcome → Type 0 = SendsNumbers c.args.ring (how_of c.args.bulk) c.args.items.now in
    let done : AtPool h g does outcome =
    elim c.match-borrow.branch [
      | in-Some w ↦ elim w.match-deref_mut.branch [
        | in-Some-Pool w' ↦
            let p = w'.in-Some-Pool.pool in
            let q = w'.send_numbers-outcome.new.pool in
            let moved : does p q outcome = subst (λ (z : How × Outcome). SendsNumbers c.args.ring z.0 c.args.items.now p q z.1)
            (λ i. (w'.how.ensures i, sym (w.outcome-is ∙ w'.outcome-is) i)) w'.send_numbers-outcome.ensures in
            at_one pool_in does h g outcome (object.Pool p) (object.Pool q) p q (search rules) (search rules) (search rules) (search rules) moved
        | in-Some-deref_mut w' ↦
            at_other pool_in does h g outcome w'.in-Some-deref_mut.field-0 (search rules) (search rules) (search rules) (search rules)
        | in-None-deref_mut w' ↦ at_none pool_in does h g outcome (search rules) (search rules) (search rules)
      ]
      | in-None w ↦ at_none pool_in does h g outcome (search rules) (search rules) (search rules)
    ] in
    (outcome, search rules, done)
