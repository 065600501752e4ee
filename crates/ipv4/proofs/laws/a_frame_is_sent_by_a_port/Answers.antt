use Rattle.ipv4.proofs.Ways.{sent_by_a_port}
use Rattle.ipv4.proofs.laws.a_frame_is_sent_by_a_port.Goals as goal

pub returns : goal.returns
returns c = sent_by_a_port
