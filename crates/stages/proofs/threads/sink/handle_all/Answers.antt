use Rattle.std.proofs.Common.{rules, ◌≤◌, ◌+◌, refl, ap, ◌∙◌, arith}
use Rattle.ringapi.proofs.Counts.{count_turned}
use Rattle.stages.specs.Custody.{in_items}
use Rattle.stages.specs.Numbers.{item_numbers}
use Rattle.stages.proofs.Keeping.{in_last}
use Rattle.stages.proofs.threads.sink.handle_all.Goals as goal
use Rattle.stages.proofs.threads.sink.handle_all.Goals.{in-Ok+then-mark, in-Ok+else-mark, in-Err+then-is_ok, in-Err+else-is_ok}

pub loop-i-init : goal.loop-i-init
loop-i-init g c = record {
  marks = omega arith;
  many = refl;
  yours = λ count h same b. omega (
    arith,
    c.requires.yours count h same b,
    ap (λ l. in_items l b) c.reverse.ensures,
    count_turned item_numbers b c.args.items.now,
  );
  single = c.requires.single;
}

pub returns-in_default-clause-kept : goal.returns-in_default-clause-kept
returns-in_default-clause-kept g c count h same b = omega (arith, c.loop-i.invariant.yours count h same b)

pub handle-requires : goal.handle-requires
handle-requires g c = (
  search rules,
  (
    (λ count h same b. omega (
      arith,
      c.loop-i.invariant.yours count h same b,
      ap (λ l. in_items l b) c.in-Some.ensures.items,
      in_last c.pop.new.self c.in-Some.item b,
    )),
    c.loop-i.invariant.single,
  ),
)

pub loop-i-preserved : goal.loop-i-preserved
loop-i-preserved g c =
    let i = c.loop-i.invariant in
    let marks : c.match-handle.marks ≤ c.loop-i._i + 1 = elim c.match-handle.branch [
      | in-Ok+then-mark w ↦ omega (arith, w.marks-is, i.marks)
      | in-Ok+else-mark w ↦ omega (arith, w.marks-is, i.marks)
      | in-Err+then-is_ok w ↦ omega (arith, w.marks-is, i.marks)
      | in-Err+else-is_ok w ↦ omega (arith, w.marks-is, i.marks)
    ] in
    record {
      marks = marks;
      many = c.handle.ensures.length ∙ i.many;
      yours = λ count h same b. omega (
        arith,
        c.handle.ensures.kept (in_items c.pop.new.self)
            (λ n k is o. omega (
              arith,
              i.yours n k is o,
              ap (λ l. in_items l o) c.in-Some.ensures.items,
              in_last c.pop.new.self c.in-Some.item o,
            ))
            count h same b,
      );
      single = c.handle.ensures.single;
    }

pub returns-clause-kept : goal.returns-clause-kept
returns-clause-kept g c count h same b = omega (arith, c.loop-i.invariant.yours count h same b)
