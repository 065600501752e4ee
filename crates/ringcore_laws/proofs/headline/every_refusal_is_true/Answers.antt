use Rattle.std.proofs.Common.{length}
use Rattle.std.specs.Prelude.{None}
use Rattle.ringcore_laws.specs.History.{after_all, opening}
use Rattle.ringcore_laws.specs.Refusals.{at_last_room}
use Rattle.ringcore_laws.specs.Runs.{history_of}
use Rattle.ringcore_laws.proofs.RefusalLaws.{early_put, early_take, had_no_room, has_moved, is_taken, standing_after}
use Rattle.ringcore_laws.proofs.headline.every_refusal_is_true.Goals as goal

pub returns-clause-no_room : goal.returns-clause-no_room
returns-clause-no_room c = λ plans actors gifts steps plan.
    let start = opening actors gifts in
    let events = history_of plans (length gifts) start steps in
    λ i ring side how count room p there answered.
    had_no_room plans (length gifts) (after_all start events) (λ j. at_last_room start None j events) (standing_after plans actors gifts steps plan)
    i ring side how count p there room answered

pub returns-clause-contended : goal.returns-clause-contended
returns-clause-contended c = λ plans actors gifts steps plan.
    let start = opening actors gifts in
    let events = history_of plans (length gifts) start steps in
    λ i ring side how count word p there answered.
    has_moved plans (length gifts) (after_all start events) (λ j. at_last_room start None j events) (standing_after plans actors gifts steps plan)
    i ring side how count p there word answered

pub returns-clause-busy : goal.returns-clause-busy
returns-clause-busy c = λ plans actors gifts steps plan.
    let start = opening actors gifts in
    let events = history_of plans (length gifts) start steps in
    is_taken plans (length gifts) (after_all start events) (λ j. at_last_room start None j events) (standing_after plans actors gifts steps plan)

pub returns-clause-early_put : goal.returns-clause-early_put
returns-clause-early_put c = λ plans actors gifts steps plan.
    let start = opening actors gifts in
    let events = history_of plans (length gifts) start steps in
    early_put plans (length gifts) (after_all start events) (λ j. at_last_room start None j events) (standing_after plans actors gifts steps plan)

pub returns-clause-early_take : goal.returns-clause-early_take
returns-clause-early_take c = λ plans actors gifts steps plan.
    let start = opening actors gifts in
    let events = history_of plans (length gifts) start steps in
    early_take plans (length gifts) (after_all start events) (λ j. at_last_room start None j events) (standing_after plans actors gifts steps plan)
