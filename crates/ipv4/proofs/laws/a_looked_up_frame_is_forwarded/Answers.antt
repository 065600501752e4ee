use Rattle.std.proofs.Common.{ap}
use Rattle.ipv4.specs.Forwarding.{outcome_of}
use Rattle.ipv4.proofs.Drops.{judged_found}
use Rattle.ipv4.proofs.laws.a_looked_up_frame_is_forwarded.Goals as goal

pub returns : goal.returns
returns c = λ routes ports frame wire. ap (outcome_of frame) (judged_found routes ports frame wire)
