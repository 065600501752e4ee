use Rattle.std.proofs.Common.{◌≡◌, replicate, None, ap, ◌∙◌, arith}
use Rattle.ringcore.proofs.Slots.{emptied, queued-emptied}
use Rattle.ringcore.specs.Fifo.{Fifo}
use Rattle.ringcore.proofs.one_ring.OneRing.new.Goals as goal

pub invariant_of-result : goal.invariant_of-result
invariant_of-result g c =
    let all : c.loop.counter ≡ c.args.geometry.size = let e = c.size-size.ensures.value in omega arith in
    emptied c.args.geometry c.loop.slots.items c.size-size.ensures.extent (c.loop.invariant ∙ ap (λ n. replicate n None) all)

pub returns : goal.returns
returns g c =
    let none = queued-emptied c.loop.counter c.loop.slots.items c.loop.invariant in
    ap (λ items. let made : Fifo g.row.T.Denot = record { capacity = c.args.geometry.capacity; items = items } in made) none
