use Rattle.ipv4.proofs.SentAgain.{right_law, size_law}
use Rattle.ipv4.proofs.laws.a_sent_frame_is_right.Goals as goal

pub returns-clause-checksum : goal.returns-clause-checksum
returns-clause-checksum c = right_law

pub returns-clause-length : goal.returns-clause-length
returns-clause-length c = size_law
