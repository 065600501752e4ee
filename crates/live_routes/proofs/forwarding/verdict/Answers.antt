use Rattle.std.proofs.Common.{subst, sym}
use Rattle.live_routes.specs.Frames.{HasSmallPort}
use Rattle.live_routes.proofs.Founds.{small_way}
use Rattle.live_routes.proofs.forwarding.verdict.Goals as goal

pub verdict_number-requires : goal.verdict_number-requires
verdict_number-requires c =
    subst HasSmallPort (sym c.verdict_along.ensures)
    (small_way c.args.fib.now.hops c.args.fib.now.ports _ c.args.frame.now c.args.wire _ c.way_for-way.ensures)
