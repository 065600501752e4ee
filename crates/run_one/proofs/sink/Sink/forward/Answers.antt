use Rattle.std.proofs.Common.{true≢false, arith, ap, sym, ◌∙◌}
use Rattle.std.specs.FinMap as map
use Rattle.reorder.specs.Waiting.{IsFree}
use Rattle.run_one.proofs.sink.Sink.forward.Goals as goal

pub unreachable-requires : goal.unreachable-requires
unreachable-requires g c =
    let window = c.args.self.now.window in
    let turn = c.requires.turn in
    let free : IsFree window c.args.packet.seq = record {
      in_turn = omega (arith, turn);
      in_reach = omega (arith, turn, c.requires.below, c.next-turn.ensures.window.some);
      vacant = ap (map.get window.held) turn ∙ c.requires.vacant;
    } in
    absurd (true≢false (sym (c.in-Err.ensures.passed.1 (turn, free))))
