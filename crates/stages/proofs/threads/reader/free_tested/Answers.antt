use Rattle.std.proofs.Common.{rules, ◌+◌, refl, arith}
use Rattle.stages.specs.Custody.{in_items}
use Rattle.stages.proofs.threads.reader.free_tested.Goals as goal

pub returns-then-not-may_send-clause-kept : goal.returns-then-not-may_send-clause-kept
returns-then-not-may_send-clause-kept g c others had h same b =
    omega (arith, c.if-not-may_send.ensures.kept (λ n. in_items c.args.list.now n + others n) had h same b)

pub send-requires : goal.send-requires
send-requires g c = (search rules, (omega arith, (c.if-not-may_send.ensures.yours refl, λ is. c.if-not-may_send.ensures.single refl is)))

pub returns-clause-kept : goal.returns-clause-kept
returns-clause-kept g c others had h same b =
    omega (arith, c.send.ensures.kept others (c.if-not-may_send.ensures.kept (λ n. in_items c.args.list.now n + others n) had) h same b)
