use Rattle.ipv4.proofs.Rewriting.{rewritten-parts}
use Rattle.ipv4.proofs.rewrite.rewrite.Goals as goal

pub returns : goal.returns
returns c =
    let parts = c.split_at_mut-front.ensures in
    rewritten-parts c.args.way.now c.args.frame.now _ _ _ _ _ c.offset_of-at.ensures.value parts.front parts.back c.address.ensures c.renew.ensures
