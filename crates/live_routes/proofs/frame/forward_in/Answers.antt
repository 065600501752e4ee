use Rattle.std.proofs.Common.{subst, sym}
use Rattle.live_routes.specs.Frames.{HasSmallPort}
use Rattle.live_routes.proofs.Founds.{small_way}
use Rattle.live_routes.proofs.frame.forward_in.Goals as goal

pub verdict_number-requires : goal.verdict_number-requires
verdict_number-requires c =
    subst HasSmallPort (sym c.forward_along.ensures.verdict)
    (small_way c.args.hops.now c.args.ports.now c.hop.result c.args.frame.now.bytes.now c.args.frame.now.wire _ c.way_of.ensures)
