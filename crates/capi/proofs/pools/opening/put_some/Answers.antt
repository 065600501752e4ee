use Rattle.std.proofs.Common.{[], ◌∷◌, ◌∙◌, ap, length, take}
use Rattle.geom.specs.declared.plan.Side.TheVariants.{Put}
use Rattle.fabric.specs.Hands.{rings_of, view}
use Rattle.fabric.proofs.Pours.{all_first}
use Rattle.fabric.proofs.Told.{ring_at}
use Rattle.ringapi.specs.Views.{settlement}
use Rattle.pool_laws.proofs.Requests.{bulk_all}
use Rattle.capi.specs.PoolMembers.{numbers_of}
use Rattle.capi.proofs.pools.opening.put_some.Goals as goal

pub returns-in-Done-clause-put : goal.returns-in-Done-clause-put
returns-in-Done-clause-put c =
    let known = ring_at (rings_of c.args.f.now) 0 c.requires.there in
    let xs = c.args.items.now in
    let m = c.in-Done.field-1 in
    let v = view c.args.hand in
    let reply = c.in-Done.ensures in
    let tells = reply.exact known.0 known.1 in
    let all = bulk_all numbers_of 4096 (length xs) 0 Put known.0 v (view c.in-Done.hand) [] m.count m.left [] (take m.count xs) [] tells.2 in (
      reply.settled.0,
      reply.settled.1 ∙ ap (λ l. settlement 0 Put reply.settled.0 l ∷ v.party.settled) (all_first m.count xs all),
    )
