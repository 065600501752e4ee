use Rattle.std.proofs.Common.{rules, ap, ◌∙◌}
use Rattle.std.specs.Arc.{arc_value}
use Rattle.live_value.proofs.Ends.{may_leave_with}
use Rattle.live_value.proofs.reader.Reader.leave.Goals as goal

pub fetch_add-requires : goal.fetch_add-requires
fetch_add-requires g c = let was = c.self.invariant in (
  search rules,
  search rules,
  may_leave_with arc_value _ _ _ _ _ _ _ _ was.small (ap (λ v. v.inside) c.self.view_is
      ∙ c.requires) c.take-held.ensures.value was.at was.last c.exchange.ensures.3,
)
