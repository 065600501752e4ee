use Rattle.std.proofs.Common.{sym}
use Rattle.ipv4.proofs.Drops.{judged_sent}
use Rattle.ipv4.proofs.frame.verdict_of_frame.Goals as goal

pub is_tagged-requires : goal.is_tagged-requires
is_tagged-requires c = let sent = judged_sent c.args.table.now.members c.args.ports.now c.args.frame.now c.args.wire _ (sym c.in-Ok.ensures) in sent.long
