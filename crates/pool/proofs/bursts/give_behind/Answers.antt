use Rattle.std.proofs.Common.{◌≡◌, ◌++◌, drop, reverse, ap, ◌∙◌}
use Rattle.pool_laws.proofs.Kept.{are_kept, less_kept}
use Rattle.pool.proofs.bursts.give_behind.Goals as goal

pub restore-requires : goal.restore-requires
restore-requires g c =
    let cache = c.args.cache.now in
    let given : c.move_tail_reversed.new.to ≡ reverse (drop c.args.k cache) = c.move_tail_reversed.ensures.moved ∙ ap (λ x. x ++ reverse (drop c.args.k cache)) c.requires.empty in
    record {
      kept = are_kept g.T.Tagged.numbers c.args.cache_hand.now c.args.k cache c.move_tail_reversed.new.to c.requires.kept given;
    }

pub returns-clause-kept : goal.returns-clause-kept
returns-clause-kept g c =
    let cache = c.args.cache.now in
    let given : c.move_tail_reversed.new.to ≡ reverse (drop c.args.k cache) = c.move_tail_reversed.ensures.moved ∙ ap (λ x. x ++ reverse (drop c.args.k cache)) c.requires.empty in
    less_kept g.T.Tagged.numbers c.args.cache_hand.now c.restore.new.self c.args.k cache c.move_tail_reversed.new.to c.move_tail_reversed.new.self c.restore.ensures.same c.requires.kept
    given c.move_tail_reversed.ensures.left c.restore.ensures.back
