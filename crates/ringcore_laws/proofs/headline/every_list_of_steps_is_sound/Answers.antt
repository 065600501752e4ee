use Rattle.std.proofs.Common.{length}
use Rattle.ringcore_laws.specs.History.{opening}
use Rattle.ringcore_laws.specs.Runs.{history_of}
use Rattle.ringcore_laws.proofs.RunLaws.{every_list_of_steps, replies_of, one_span_each}
use Rattle.ringcore_laws.proofs.headline.every_list_of_steps_is_sound.Goals as goal

pub returns-clause-sound : goal.returns-clause-sound
returns-clause-sound c = every_list_of_steps

pub returns-clause-replies : goal.returns-clause-replies
returns-clause-replies c = λ plans actors gifts steps. replies_of plans (length gifts) (opening actors gifts) steps

pub returns-clause-one_span : goal.returns-clause-one_span
returns-clause-one_span c = λ plans actors gifts steps.
    let start = opening actors gifts in
    one_span_each plans (length gifts) start (history_of plans (length gifts) start steps) (replies_of plans (length gifts) start steps)
