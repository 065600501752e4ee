use Rattle.std.proofs.Common.{sym}
use Rattle.ipv4.proofs.Drops.{sent_passed}
use Rattle.ipv4.proofs.found.verdict_along.Goals as goal

pub is_tagged-tagged-requires : goal.is_tagged-tagged-requires
is_tagged-tagged-requires c = (sent_passed c.args.way c.args.frame.now c.args.wire _ (sym c.in-Ok.ensures)).long
