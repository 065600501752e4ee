use Rattle.std.proofs.Common.{rules, ◌≤◌, ap, arith}
use Rattle.stages.specs.Custody.{in_items, in_numbers}
use Rattle.stages.proofs.Keeping.{each_ok, in_last}
use Rattle.stages.proofs.threads.reader.obtain_one.Goals as goal
use Rattle.stages.proofs.threads.reader.obtain_one.Goals.{then-short, else-short}

pub returns-in-Some-pop-clause-kept : goal.returns-in-Some-pop-clause-kept
returns-in-Some-pop-clause-kept g c =
    each_ok c.free_chain.result
    (λ chain is h same b. omega (
      arith,
      c.loop.invariant.yours h same b,
      ap (λ l. in_items l b) c.in-Some-pop.ensures.items,
      in_last c.pop.new.self c.in-Some-pop.item b,
      ap (λ ns. in_numbers ns b) is,
    ))
    c.free_chain.ensures.same

pub returns-in-Some-pop-clause-still : goal.returns-in-Some-pop-clause-still
returns-in-Some-pop-clause-still g c h same b =
    omega (
      arith,
      c.loop.invariant.yours h same b,
      ap (λ l. in_items l b) c.in-Some-pop.ensures.items,
      in_last c.pop.new.self c.in-Some-pop.item b,
    )

pub returns-in_err-receive-clause-still : goal.returns-in_err-receive-clause-still
returns-in_err-receive-clause-still g c h same b =
    omega (
      arith,
      c.receive.ensures.kept (in_items c.loop.batch) (λ k is n. omega (arith, c.loop.invariant.yours k is n)) h same b,
    )

pub loop-preserved-then-not-is_empty : goal.loop-preserved-then-not-is_empty
loop-preserved-then-not-is_empty g c = record {
  iterator = (tt, tt);
  yours = λ h same b. omega (
    arith,
    c.receive.ensures.kept (in_items c.loop.batch) (λ k is n. omega (arith, c.loop.invariant.yours k is n)) h same b,
  );
}

pub put_unused-requires : goal.put_unused-requires
put_unused-requires g c =
    let few : c.if-short.n ≤ 256 = elim c.if-short.branch [
      | then-short w ↦ omega (arith, w.n-is)
      | else-short w ↦ omega (arith, w.n-is, c.requires.at_most)
    ] in (
      search rules,
      (
        few,
        (
          omega arith,
          λ h same b. omega (
            arith,
            c.receive.ensures.kept (in_items c.loop.batch) (λ k is n. omega (arith, c.loop.invariant.yours k is n)) h same b,
          ),
        ),
      ),
    )

pub make_way-requires : goal.make_way-requires
make_way-requires g c = (search rules, λ h same b. omega (arith, c.put_unused.ensures.kept h same b))
