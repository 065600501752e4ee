use Rattle.std.proofs.Common.{◌<◌, [], ◌∷◌, sym, ap, ◌∙◌, length, subst}
use Rattle.counters.specs.Tally.{plus}
use Rattle.counters.specs.Counted.{counts_of, IsWithin}
use Rattle.counters.proofs.Counting.{plus_sent, plus_dropped, one_more}
use Rattle.counters.proofs.counts.Counts.add.Goals as goal

pub returns-in-Send-clause-plus : goal.returns-in-Send-clause-plus
returns-in-Send-clause-plus c =
    let t = c.args.self.now in
    let within : c.in-Send.port < length t.sent = subst (IsWithin (length t.sent)) c.in-Send.is c.requires.port in
    c.add_sent.ensures ∙ sym (plus_sent t c.in-Send.port c.in-Send.tagged within)
    ∙ ap (λ v. plus t (counts_of (length t.sent) 0 (v ∷ []))) (sym c.in-Send.is)

pub returns-in-Send-clause-counted : goal.returns-in-Send-clause-counted
returns-in-Send-clause-counted c =
    one_more c.args.self.now _ (length c.args.self.now.sent) c.args.verdict.now (returns-in-Send-clause-plus c)

pub returns-in-Drop-clause-plus : goal.returns-in-Drop-clause-plus
returns-in-Drop-clause-plus c =
    let t = c.args.self.now in
    c.add_dropped.ensures.value ∙ sym (plus_dropped t c.in-Drop.reason)
    ∙ ap (λ v. plus t (counts_of (length t.sent) 0 (v ∷ []))) (sym c.in-Drop.is)

pub returns-in-Drop-clause-counted : goal.returns-in-Drop-clause-counted
returns-in-Drop-clause-counted c =
    one_more c.args.self.now _ (length c.args.self.now.sent) c.args.verdict.now (returns-in-Drop-clause-plus c)
