use Rattle.std.proofs.Common.{◌≡◌, length, sym, ap, ◌∙◌, arith}
use Rattle.ringcore.proofs.Slots.{popped}
use Rattle.ringcore.specs.Fifo.{Fifo}
use Rattle.ringcore.proofs.one_ring.OneRing.pop.Goals as goal
use Rattle.ringcore.proofs.one_ring.OneRing.pop.Goals.{After-self-3-1}

pub invariant_of-self : goal.invariant_of-self
invariant_of-self g c =
    let s = c.self.inside in
    let view : length c.args.self.now.items ≡ s.count = ap (λ (q : Fifo g.row.T.Denot). length q.items) (sym c.self.view_is) ∙ c.self.invariant.counted in
    let item = c.take-item.ensures.value in
    rw c.take-item.ensures.after
    (popped s.geometry s.slots.items s.front s.count c.slot-self-inside.result c.take-item.result c.self.invariant (omega arith)
    c.slot-self-inside.ensures.within c.slot-self-inside.ensures.value (rw item c.index_mut.ensures.value)).laid

pub returns : goal.returns
returns g c =
    let s = c.self.inside in
    let view : length c.args.self.now.items ≡ s.count = ap (λ (q : Fifo g.row.T.Denot). length q.items) (sym c.self.view_is) ∙ c.self.invariant.counted in
    let item = c.take-item.ensures.value in
    let after = popped s.geometry s.slots.items s.front s.count c.slot-self-inside.result c.take-item.result c.self.invariant (omega arith)
    c.slot-self-inside.ensures.within c.slot-self-inside.ensures.value (rw item c.index_mut.ensures.value) in
    record {
      item = ap (λ (q : Fifo g.row.T.Denot). q.items) (sym c.self.view_is) ∙ rw c.take-item.ensures.after after.items;
      present = after.some;
      capacity = ap (λ (q : Fifo g.row.T.Denot). q.capacity) c.self.view_is;
    }
