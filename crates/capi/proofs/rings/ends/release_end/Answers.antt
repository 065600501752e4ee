use Rattle.std.proofs.Common.{◌≢◌, inr, refl, rules, ◌∙◌}
use Rattle.capi.specs.Ends.{end_on, with_end}
use Rattle.capi.proofs.rings.ends.release_end.Goals as goal
use Rattle.capi.specs.declared.rings.end.EndState.TheVariants.{Closed}

pub returns : goal.returns
returns c =
    let mid = c.give_up.new.member in
    let not_shut : (end_on c.args.member.now.ends c.args.side).state ≢ Closed = search rules in
    inr (
      not_shut,
      inr (
        mid,
        c.in-Ok.field-0,
        refl,
        c.in-Ok.ensures,
        record {
          fabric = refl;
          hand = refl;
          shown = refl;
          left = refl;
          ends = c.set.ensures ∙ (λ i. with_end mid.ends c.args.side record { at = (c.on-end.ensures i).at; state = c.state_after-state.ensures i });
        },
      ),
    )
