use Rattle.std.proofs.Common.{◌≡◌, ◌+◌, ◌<◌, [], ◌∷◌, ◌++◌, length, take, drop, sym, ap, ◌∙◌, arith, append_assoc, ap₂}
use Rattle.std.proofs.lemmas.Bool.{false≢true}
use Rattle.ringcore.proofs.Slots.{taken_one}
use Rattle.ringcore.specs.Fifo.{Fifo}
use Rattle.ringcore.proofs.one_ring.OneRing.take_first.Goals as goal
use Rattle.ringcore.proofs.one_ring.OneRing.take_first.Goals.{in-Some, in_default}

pub loop-preserved : goal.loop-preserved
loop-preserved g c =
    elim c.match-pop.branch [
      | in-Some w ↦
          let all = c.args.self.now.items in
          let there : c.loop.counter < length all = let t = c.requires.there in omega arith in
          let before = ap (λ (q : Fifo g.row.T.Denot). q.items) c.loop.invariant.0 in
          let one = taken_one all c.pop.new.self.items w.in-Some.item c.loop.counter there (sym before ∙ w.in-Some.ensures.item) in
          let capacity = c.pop.ensures.capacity ∙ ap (λ (q : Fifo g.row.T.Denot). q.capacity) c.loop.invariant.0 in
          let queue : c.pop.new.self ≡ record { capacity = c.args.self.now.capacity; items = drop (c.loop.counter + 1) all } =
          ap₂ (λ n xs. let made : Fifo g.row.T.Denot = record { capacity = n; items = xs } in made) capacity one.0 in (
            queue,
            rw w.out-is
                (w.push_reserved.ensures.items
                ∙ ap (λ xs. xs ++ w.in-Some.item ∷ []) c.loop.invariant.1
                ∙ append_assoc c.args.out.now.items (take c.loop.counter all) (w.in-Some.item ∷ [])
                ∙ ap (λ xs. c.args.out.now.items ++ xs) one.1),
            rw w.out-is (let grown = w.push_reserved.ensures.len in let so_far = c.loop.invariant.2 in omega arith),
            rw w.out-is (w.push_reserved.ensures.capacity ∙ c.loop.invariant.3),
          )
      | in_default w ↦ absurd (false≢true w.in_default.ensures.present)
    ]
