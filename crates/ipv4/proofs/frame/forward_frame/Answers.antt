use Rattle.std.proofs.Common.{sym}
use Rattle.ipv4.proofs.Drops.{judged_sent}
use Rattle.ipv4.proofs.frame.forward_frame.Goals as goal

pub is_tagged-tagged-requires : goal.is_tagged-tagged-requires
is_tagged-tagged-requires c = let sent = judged_sent c.args.table.now.members c.args.ports.now c.args.frame.now c.args.wire _ (sym c.in-Ok.ensures) in sent.long

pub rewrite-requires-clause-long : goal.rewrite-requires-clause-long
rewrite-requires-clause-long c = let sent =
    judged_sent c.args.table.now.members c.args.ports.now c.args.frame.now c.args.wire _ (sym c.in-Ok.ensures) in sent.long

pub rewrite-requires-clause-right : goal.rewrite-requires-clause-right
rewrite-requires-clause-right c = let sent =
    judged_sent c.args.table.now.members c.args.ports.now c.args.frame.now c.args.wire _ (sym c.in-Ok.ensures) in sent.right
