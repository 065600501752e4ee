use Rattle.std.proofs.Common.{◌≡◌, ◌<◌, None, false, sym, ap, ◌∙◌, subst, arith, slice_get, length}
use Rattle.std.specs.Option.{option_copied}
use Rattle.stages.specs.Judging.{has_mark}
use Rattle.fabric.proofs.Told.{ring_at}
use Rattle.stages.proofs.Marks.{until_here, none_more, none_at_all, take_all}
use Rattle.stages.proofs.threads.worker.first_part.Goals.{in-Some+else-is_end, in-None}
use Rattle.stages.proofs.threads.worker.first_part.Goals as goal

pub returns-then-is_end-clause-part : goal.returns-then-is_end-clause-part
returns-then-is_end-clause-part g c =
    until_here c.args.items.now c.loop-i.i c.in-Some.item.now c.loop-i.invariant
    (sym c.get.ensures ∙ ap option_copied c.in-Some.is) (sym c.is_end.ensures ∙ c.if-is_end.true)

pub loop-i-preserved : goal.loop-i-preserved
loop-i-preserved g c =
    let items = c.args.items.now in
    let i = c.loop-i.i in
    elim c.match-get.branch [
      | in-Some+else-is_end w ↦ none_more items i w.in-Some.item.now c.loop-i.invariant
          (sym c.get.ensures ∙ ap option_copied w.in-Some.is) (sym w.is_end.ensures ∙ w.if-is_end.false)
      | in-None w ↦
          let low : i < length items = omega (arith, c.loop-i-test.true, c.len-i-end.ensures.value) in
          let there = ring_at items i low in
          let none : slice_get items i ≡ None = sym c.get.ensures ∙ ap option_copied w.in-None.is in
          absurd (cc (sym there.1 ∙ none))
    ]

pub returns-clause-part : goal.returns-clause-part
returns-clause-part g c =
    let items = c.args.items.now in
    let i = c.loop-i.i in
    let past = take_all items i (omega (arith, c.loop-i-test.false, c.len-i-end.ensures.value)) in
    take_all items c.len.result (omega (arith, c.len.ensures.value))
    ∙ sym (none_at_all items (subst (λ xs. has_mark xs ≡ false) past c.loop-i.invariant))
