use Rattle.ipv4.proofs.SentAgain.{again_law}
use Rattle.ipv4.proofs.laws.a_sent_frame_is_sent_again.Goals as goal

pub returns : goal.returns
returns c = again_law
