use Rattle.std.proofs.Common.{IfErr, List, ◌∙◌, ◌≡◌, rules, subst, sym}
use Rattle.capi.specs.Codes.{Outcome}
use Rattle.capi.specs.PoolHandles.{AtPool, pool_in}
use Rattle.capi.specs.Same.{GetsNumbers}
use Rattle.capi.specs.declared.pools.member.Number.{Number}
use Rattle.capi.specs.declared.pools.member.PoolMember.{PoolMember}
use Rattle.capi.specs.declared.object.Object.TheVariants as object
use Rattle.capi.proofs.Slots.{at_none, at_one, at_other}
use Rattle.capi.proofs.Filling.{got_none}
use Rattle.capi.proofs.pool_exports.get_any.Goals as goal
use Rattle.capi.proofs.pool_exports.get_any.Goals.{in-Some, in-Some-Pool, in-Some-deref_mut, in-None-deref_mut, in-None}

pub returns : goal.returns
returns c =
    let h = c.args.h.now.value in
    let g = c.match-borrow.h.value in
    let outcome = c.match-borrow.outcome in
    let before = c.args.into.now in
    let after = c.match-borrow.into in
    let does : PoolMember → PoolMember → Outcome → Type 0 = GetsNumbers before after in
    let done : AtPool h g does outcome × IfErr outcome (λ _. after ≡ before) =
    elim c.match-borrow.branch [
      | in-Some w ↦ elim w.match-deref_mut.branch [
        | in-Some-Pool w' ↦
            let p = w'.in-Some-Pool.pool in
            let q = w'.get_into-outcome.new.pool in
            let moved : does p q outcome = subst (λ (z : List Number × Outcome). GetsNumbers before z.0 p q z.1)
            (λ i. (sym (w.into-is ∙ w'.into-is) i, sym (w.outcome-is ∙ w'.outcome-is) i)) w'.get_into-outcome.ensures in (
              at_one pool_in does h g outcome (object.Pool p) (object.Pool q) p q (search rules) (search rules) (search rules) (search rules) moved,
              got_none before after p q outcome moved,
            )
        | in-Some-deref_mut w' ↦ (
          at_other pool_in does h g outcome w'.in-Some-deref_mut.field-0 (search rules) (search rules) (search rules) (search rules),
          search rules,
        )
        | in-None-deref_mut w' ↦ (at_none pool_in does h g outcome (search rules) (search rules) (search rules), search rules)
      ]
      | in-None w ↦ (at_none pool_in does h g outcome (search rules) (search rules) (search rules), search rules)
    ] in
    (outcome, search rules, done)
