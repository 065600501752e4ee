use Rattle.std.proofs.Common.{◌∙◌, sym}
use Rattle.ringcore.proofs.Replies.{reply_seen}
use Rattle.ringcore.proofs.reserving.reserve_seen.Goals as goal

pub returns-clause-reply : goal.returns-clause-reply
returns-clause-reply c = λ l ruled agrees fits.
    c.try_reserve.ensures.reply l ruled agrees (fits c.in-Some.observed c.in-Some-tail_seen.tail c.in-Some.is c.in-Some-tail_seen.is)
    ∙ sym (reply_seen c.args.plan.now c.args.number c.args.side c.args.how c.args.count l c.args.had c.args.observed c.in-Some.observed c.in-Some-tail_seen.tail
    c.in-Some.is (sym c.is_on.ensures ∙ c.if-not-is_on.false) c.in-Some-tail_seen.is)
