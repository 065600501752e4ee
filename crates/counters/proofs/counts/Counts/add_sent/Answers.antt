use Rattle.std.proofs.Common.{◌≡◌, ◌<◌, ◌+◌, ◌^◌, cond, length, sym, ap, ◌∙◌, subst, arith, rules}
use Rattle.counters.specs.Tally.{IsTally, with_sent, records_of}
use Rattle.counters.specs.Kept.{tally_in}
use Rattle.counters.proofs.Adding.{length-take-le}
use Rattle.counters.proofs.Kept.{sent_kept, sent_shown}
use Rattle.counters.proofs.counts.Counts.add_sent.Goals as goal

pub invariant_of-self : goal.invariant_of-self
invariant_of-self c =
    let t = tally_in c.self.inside in
    let there : c.args.port < length t.sent = subst (λ u. c.args.port < length u.sent) (sym c.self.view_is) c.requires.port in
    let room : records_of t + 1 < 2 ^ 64 = subst (λ u. records_of u + 1 < 2 ^ 64) (sym c.self.view_is) c.requires.room in
    let below : c.args.port < c.self.inside.ports =
    omega (arith, length-take-le c.self.inside.ports c.self.inside.sent (omega (arith, c.self.invariant.ports))) in
    let one : c.from.result ≡ cond c.args.tagged 1 0 = search (rules, c.from.ensures) in
    record {
      ports = c.self.invariant.ports;
      tally = subst IsTally (sym (sent_shown c.self.inside.oversize c.self.inside.ports c.self.inside.sent c.raise.new.row c.self.inside.dropped
          c.self.inside.tagged c.from.result c.args.port c.args.tagged below c.raise.ensures one))
          (sent_kept t c.args.port c.args.tagged c.self.invariant.tally there room);
    }

pub returns : goal.returns
returns c =
    let t = tally_in c.self.inside in
    let there : c.args.port < length t.sent = subst (λ u. c.args.port < length u.sent) (sym c.self.view_is) c.requires.port in
    let below : c.args.port < c.self.inside.ports =
    omega (arith, length-take-le c.self.inside.ports c.self.inside.sent (omega (arith, c.self.invariant.ports))) in
    let one : c.from.result ≡ cond c.args.tagged 1 0 = search (rules, c.from.ensures) in
    sent_shown c.self.inside.oversize c.self.inside.ports c.self.inside.sent c.raise.new.row c.self.inside.dropped
    c.self.inside.tagged c.from.result c.args.port c.args.tagged below c.raise.ensures one
    ∙ ap (λ u. with_sent u c.args.port c.args.tagged) c.self.view_is
