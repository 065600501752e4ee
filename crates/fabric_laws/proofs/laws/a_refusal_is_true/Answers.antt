use Rattle.fabric_laws.proofs.Refused.{at_most, earlier, taken, too_little}
use Rattle.fabric_laws.proofs.Steps.{word_is}
use Rattle.fabric_laws.proofs.laws.a_refusal_is_true.Goals as goal

pub returns-clause-busy : goal.returns-clause-busy
returns-clause-busy g c tags plans pool s held id v here = taken tags plans pool s held id v here

pub returns-clause-contended : goal.returns-clause-contended
returns-clause-contended g c tags plans pool s held r side plan at = word_is tags plans pool s held r plan at side

pub returns-clause-early : goal.returns-clause-early
returns-clause-early g c tags plans pool s held id v here alive = earlier tags plans pool s held id v here alive

pub returns-clause-no_room : goal.returns-clause-no_room
returns-clause-no_room g c tags plans pool s held id v here alive = at_most tags plans pool s held id v here alive

pub returns-clause-little : goal.returns-clause-little
returns-clause-little g c how n room left = too_little how n room left
