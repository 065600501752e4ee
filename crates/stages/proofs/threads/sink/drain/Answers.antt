use Rattle.std.proofs.Common.{rules, refl, sym, ap, ◌∙◌, subst, arith}
use Rattle.ringcore_laws.specs.FreeRings.{AreSingle}
use Rattle.stages.specs.Custody.{in_items, in_waiting}
use Rattle.stages.specs.Numbers.{item_numbers}
use Rattle.stages.proofs.Keeping.{waiting_none}
use Rattle.stages.proofs.threads.sink.drain.Goals as goal

pub loop-init : goal.loop-init
loop-init g c = record {
  iterator = (tt, tt);
  many = refl;
  none = c.new-free.ensures;
  yours = λ count h same b. omega (
    arith,
    ap (λ l. in_items l b) c.new-free.ensures,
    waiting_none c.args.sink.now.window.held c.args.sink.now.window.next count b c.requires.vacant,
  );
}

pub loop-preserved-then-is_empty : goal.loop-preserved-then-is_empty
loop-preserved-then-is_empty g c =
    let w = c.loop.sink.window in
    let i = c.loop.invariant in
    record {
      iterator = (tt, tt);
      many = i.many;
      none = i.none;
      yours = λ count h same b. omega (
        arith,
        c.receive.ensures.kept (in_waiting w.held w.next count) (λ k is n. omega (arith, i.yours count k is n)) h same b,
        ap (λ l. in_items l b) i.none,
      );
    }

pub handle_all-marks-requires : goal.handle_all-marks-requires
handle_all-marks-requires g c =
    let w = c.loop.sink.window in
    let i = c.loop.invariant in (
      search rules,
      (
        (λ count h same b. omega (
          arith,
          c.receive.ensures.kept (in_waiting w.held w.next count) (λ k is n. omega (arith, i.yours count k is n)) h same b,
          ap (λ l. in_items l b) i.none,
        )),
        subst (AreSingle item_numbers) (sym i.none) refl,
      ),
    )

pub give_back-given-requires : goal.give_back-given-requires
give_back-given-requires g c =
    let handled = c.handle_all-marks in
    (search rules, ((λ h same b. omega (arith, handled.ensures.kept 0 h same b)), handled.ensures.single))

pub loop-preserved-then-is_ok-2 : goal.loop-preserved-then-is_ok-2
loop-preserved-then-is_ok-2 g c =
    let handled = c.handle_all-marks in
    let w = handled.new.sink.window in
    record {
      iterator = (tt, tt);
      many = handled.ensures.length ∙ c.loop.invariant.many;
      none = c.give_back-given.ensures.none;
      yours = λ count h same b. omega (
        arith,
        c.give_back-given.ensures.kept (in_waiting w.held w.next count) (λ k is n. omega (arith, handled.ensures.kept count k is n)) h same b,
        ap (λ l. in_items l b) c.give_back-given.ensures.none,
      );
    }

pub loop-preserved-else-is_ok-2 : goal.loop-preserved-else-is_ok-2
loop-preserved-else-is_ok-2 g c =
    let handled = c.handle_all-marks in
    let w = handled.new.sink.window in
    record {
      iterator = (tt, tt);
      many = handled.ensures.length ∙ c.loop.invariant.many;
      none = c.give_back-given.ensures.none;
      yours = λ count h same b. omega (
        arith,
        c.give_back-given.ensures.kept (in_waiting w.held w.next count) (λ k is n. omega (arith, handled.ensures.kept count k is n)) h same b,
        ap (λ l. in_items l b) c.give_back-given.ensures.none,
      );
    }

pub loop-preserved : goal.loop-preserved
loop-preserved g c =
    let handled = c.handle_all-marks in
    let w = handled.new.sink.window in
    record {
      iterator = (tt, tt);
      many = handled.ensures.length ∙ c.loop.invariant.many;
      none = c.give_back-given.ensures.none;
      yours = λ count h same b. omega (
        arith,
        c.give_back-given.ensures.kept (in_waiting w.held w.next count) (λ k is n. omega (arith, handled.ensures.kept count k is n)) h same b,
        ap (λ l. in_items l b) c.give_back-given.ensures.none,
      );
    }
