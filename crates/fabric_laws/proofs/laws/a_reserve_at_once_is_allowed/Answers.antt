use Rattle.fabric_laws.proofs.AtOnce.{reserves_at_once}
use Rattle.fabric_laws.proofs.laws.a_reserve_at_once_is_allowed.Goals as goal

pub returns : goal.returns
returns g c = λ tags plans pool slots id me r side plan o t word n at alive idle seen on_ring on_side saw positive whole room low small few.
    reserves_at_once tags plans pool slots id me r side plan n at alive idle positive small few o t word seen on_ring on_side saw whole room low
