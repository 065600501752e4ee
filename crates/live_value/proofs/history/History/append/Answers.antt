use Rattle.std.proofs.Common.{rules, refl, ap, ◌∙◌}
use Rattle.live_value.specs.Pasts.{followed}
use Rattle.live_value.proofs.Kept.{any_past}
use Rattle.live_value.proofs.history.History.append.Goals as goal

pub compare_exchange_with-requires : goal.compare_exchange_with-requires
compare_exchange_with-requires g c = (search rules, search rules, any_past _ _ _ _)

pub returns : goal.returns
returns g c = ap (λ m. m.0) (c.compare_exchange_with.ensures.2 _ refl)
    ∙ ap (λ p. followed p c.args.value.now) c.self.view_is
