use Rattle.std.proofs.Common.{rules, ap, ◌∙◌}
use Rattle.live_value.proofs.Ends.{may_enter, outside, front}
use Rattle.live_value.proofs.reader.Reader.enter.Goals as goal

pub fetch_add-side-requires : goal.fetch_add-side-requires
fetch_add-side-requires g c = (
  search rules,
  search rules,
  may_enter _ _ _ _ _ (c.self.invariant.at ∙ outside _ _ _ (ap (λ v. v.inside) c.self.view_is ∙ c.requires)),
)

pub exchange-requires : goal.exchange-requires
exchange-requires g c = let took = c.fetch_add-side.ensures.2 in
    (search rules, (_, front _ _ _ _ (ap (λ m. m.1) took.4)))
