use Rattle.std.proofs.Common.{◌≡◌, [], ◌∷◌, ◌++◌, length, sym, ap, ◌∙◌, arith}
use Rattle.ringcore.proofs.Slots.{pushed, queued-pushed}
use Rattle.ringcore.specs.Fifo.{Fifo}
use Rattle.ringcore.proofs.one_ring.OneRing.push.Goals as goal

pub invariant_of-self : goal.invariant_of-self
invariant_of-self g c =
    let s = c.self.inside in
    let length_is = c.self.invariant.counted ∙ sym c.self.invariant.counted in
    let view : length c.args.self.now.items ≡ s.count = ap (λ (q : Fifo g.row.T.Denot). length q.items) (sym c.self.view_is) ∙ c.self.invariant.counted in
    let capacity : s.geometry.capacity ≡ c.args.self.now.capacity = ap (λ (q : Fifo g.row.T.Denot). q.capacity) c.self.view_is in
    pushed s.geometry s.slots.items s.front s.count c.slot-slot.result c.args.item c.self.invariant (omega arith) c.slot-slot.ensures.value

pub returns : goal.returns
returns g c =
    let s = c.self.inside in
    let view : length c.args.self.now.items ≡ s.count = ap (λ (q : Fifo g.row.T.Denot). length q.items) (sym c.self.view_is) ∙ c.self.invariant.counted in
    let capacity : s.geometry.capacity ≡ c.args.self.now.capacity = ap (λ (q : Fifo g.row.T.Denot). q.capacity) c.self.view_is in
    let more = queued-pushed s.geometry s.slots.items s.front s.count c.slot-slot.result c.args.item c.self.invariant (omega arith) c.slot-slot.ensures.value in
    ap (λ items. let made : Fifo g.row.T.Denot = record { capacity = s.geometry.capacity; items = items } in made) more
    ∙ ap (λ (q : Fifo g.row.T.Denot). let made : Fifo g.row.T.Denot = record { capacity = q.capacity; items = q.items ++ c.args.item ∷ [] } in made)
    c.self.view_is
