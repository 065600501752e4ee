use Rattle.fabric_laws.proofs.Closing.{leaves, lies, whole}
use Rattle.fabric_laws.proofs.laws.what_is_left_lies_in_the_slots.Goals as goal

pub returns-clause-lies : goal.returns-clause-lies
returns-clause-lies g c tags plans pool s held r plan at = lies tags plans pool s held r plan at

pub returns-clause-whole : goal.returns-clause-whole
returns-clause-whole g c tags plans pool s held id v here =
    (whole tags plans pool s held id v here, λ idle r plan at. leaves tags plans pool s held id v here idle r plan at)
