use Rattle.std.proofs.Common.{rules}
use Rattle.std.specs.Arc.{arc_value}
use Rattle.live_value.proofs.Ends.{opened}
use Rattle.live_value.proofs.showing.laid.Goals as goal

pub new-requires : goal.new-requires
new-requires g c = opened arc_value _ _ c.args.shown _ (search rules) c.requires
