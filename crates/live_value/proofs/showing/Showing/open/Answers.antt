use Rattle.std.proofs.Common.{rules, ap}
use Rattle.std.specs.Arc.{arc_value}
use Rattle.live_value.proofs.Ends.{may_take, may_part}
use Rattle.live_value.proofs.showing.Showing.open.Goals as goal

pub load-requires : goal.load-requires
load-requires g c = (
  search rules,
  search rules,
  may_take arc_value _ _ c.in_ok-table.end.me c.args.history.now
      (search rules),
)

pub split_seat-reads-requires : goal.split_seat-reads-requires
split_seat-reads-requires g c = (search rules, search rules, may_part arc_value _ _ _ (ap (λ m. m.0) c.load.ensures.2))
