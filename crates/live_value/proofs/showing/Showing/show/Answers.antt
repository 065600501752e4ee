use Rattle.std.proofs.Common.{rules, [], ◌∷◌, Some, ap, ◌∙◌}
use Rattle.std.specs.Arc.{arc_value}
use Rattle.live_value.specs.Lanes.{side_of}
use Rattle.live_value.proofs.Ends.{may_show, filled, front, owed_nothing}
use Rattle.live_value.proofs.showing.Showing.show.Goals as goal

pub fetch_add-found-requires : goal.fetch_add-found-requires
fetch_add-found-requires g c =
    let was = c.self.invariant.at ∙ owed_nothing _ _ _ (ap (λ v. v.owed) c.self.view_is ∙ c.requires) in (
      search rules,
      search rules,
      may_show arc_value _ _ _ _ _ _ c.args.value (filled _ _ _ _ _ _ _ was c.exchange.ensures.3)
          c.self.invariant.small c.turn_of-turn.ensures,
    )

pub exchange-requires-then-found-lt2 : goal.exchange-requires-then-found-lt2
exchange-requires-then-found-lt2 g c =
    let had = filled _ _ _ _ _ _ _ (c.self.invariant.at
    ∙ owed_nothing _ _ _ (ap (λ v. v.owed) c.self.view_is ∙ c.requires)) c.exchange.ensures.3 in
    let did = c.fetch_add-found.ensures.2.0 c.if-found-lt2.true in
    (search rules, (_, front _ _ _ _ (ap (λ m. m.1) did.1 ∙ ap (λ k. (k, Some did.0) ∷ []) (ap (λ m. side_of m.0.role) had))))
