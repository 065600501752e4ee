use Rattle.std.proofs.Common.{rules, ◌-◌, [], ◌∷◌, Some, ap, ◌∙◌}
use Rattle.std.specs.Arc.{arc_value}
use Rattle.live_value.specs.Lanes.{awaited_of, side_of}
use Rattle.live_value.proofs.Ends.{awaiting, may_collect, front}
use Rattle.live_value.proofs.showing.Showing.collect.Goals as goal

pub load-found-requires : goal.load-found-requires
load-found-requires g c = (
  search rules,
  search rules,
  may_collect arc_value _ _ _ _ _ _ (awaiting _ _ _ _ _ c.self.invariant.at c.in-Some.is) c.self.invariant.small,
)

pub exchange-requires : goal.exchange-requires
exchange-requires g c =
    let had = awaiting _ _ _ _ _ c.self.invariant.at c.in-Some.is in
    let did = c.load-found.ensures.2.0 (λ e. c.if-found-word.false (e ∙ ap (λ m. awaited_of m.0.role) had)) in (
      search rules,
      (
        _,
        front _ _ _ _ (ap (λ m. m.1) did.1 ∙ ap (λ k. (1 - k, Some did.0) ∷ [])
            (ap (λ m. side_of m.0.role) had)),
      ),
    )
