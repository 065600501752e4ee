use Rattle.std.proofs.Common.{◌≡◌, Some, rules, arith, sym, subst}
use Rattle.std.specs.Ordering.{nat_cmp}
use Rattle.std.specs.FinMap.{gets, get-empty}
use Rattle.reorder.specs.Waiting.{IsFree, empty_window, after_next}
use Rattle.callers.proofs.windows.in_turn.Goals as goal

pub unwrap-requires : goal.unwrap-requires
unwrap-requires c =
    let free : IsFree (empty_window 2) 1 = record {
      in_turn = omega arith;
      in_reach = omega arith;
      vacant =
          get-empty nat_cmp 1;
    } in
    c.insert.ensures.accepted.1 (subst (λ window. IsFree window 1) (sym c.in_ok-window.ensures) free)

pub unwrap-requires-2 : goal.unwrap-requires-2
unwrap-requires-2 c = grind (gets, rules)

pub returns : goal.returns
returns c =
    let first : c.pop-first.result ≡ Some c.args.zero = grind (gets, rules) in
    let gone : c.pop-first.new.self ≡ after_next c.insert-2.new.self = grind rules in
    let second : c.pop-second.result ≡ Some c.args.one = grind (gets, rules) in
    λ i. (first i, second i)
