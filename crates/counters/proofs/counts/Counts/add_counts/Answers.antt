use Rattle.std.proofs.Common.{◌≡◌, ◌<◌, ◌+◌, ◌^◌, length, sym, ap, ap₂, ◌∙◌, subst, arith}
use Rattle.counters.specs.Tally.{IsTally, records_of}
use Rattle.counters.specs.Kept.{tally_in}
use Rattle.counters.proofs.Kept.{plus_kept, plus_shown, records_of-plus}
use Rattle.counters.proofs.counts.Counts.add_counts.Goals as goal

pub invariant_of-self : goal.invariant_of-self
invariant_of-self c =
    let t = tally_in c.self.inside in
    let u = tally_in c.other.inside in
    let same : length u.sent ≡ length t.sent = ap (λ v. length v.sent) c.other.view_is ∙ c.requires.same ∙ sym (ap (λ v. length v.sent) c.self.view_is) in
    let room : records_of t + records_of u < 2 ^ 64 =
    omega (arith, c.requires.fits, ap records_of c.self.view_is, ap records_of c.other.view_is) in
    record {
      ports = c.self.invariant.ports;
      tally = subst IsTally (sym (plus_shown c.self.inside.oversize c.other.inside.oversize c.self.inside.ports c.other.inside.ports
          c.self.inside.sent c.other.inside.sent c.add_row.new.row c.self.inside.dropped c.other.inside.dropped c.add_row-2.new.row
          c.self.inside.tagged c.other.inside.tagged c.self.told.0 c.other.told.0 c.self.told.1 c.other.told.1 (c.add_row-2.auto.row ∙ c.self.told.1)
          c.self.invariant.ports c.other.invariant.ports same c.add_row.ensures c.add_row-2.ensures))
          (plus_kept t u c.self.invariant.tally c.other.invariant.tally same room);
    }

pub returns-clause-records : goal.returns-clause-records
returns-clause-records c =
    let t = tally_in c.self.inside in
    let u = tally_in c.other.inside in
    let same : length u.sent ≡ length t.sent = ap (λ v. length v.sent) c.other.view_is ∙ c.requires.same ∙ sym (ap (λ v. length v.sent) c.self.view_is) in
    ap records_of (plus_shown c.self.inside.oversize c.other.inside.oversize c.self.inside.ports c.other.inside.ports
    c.self.inside.sent c.other.inside.sent c.add_row.new.row c.self.inside.dropped c.other.inside.dropped c.add_row-2.new.row
    c.self.inside.tagged c.other.inside.tagged c.self.told.0 c.other.told.0 c.self.told.1 c.other.told.1 (c.add_row-2.auto.row ∙ c.self.told.1)
    c.self.invariant.ports c.other.invariant.ports same c.add_row.ensures c.add_row-2.ensures)
    ∙ records_of-plus t u same (c.other.told.1 ∙ sym c.self.told.1)
    ∙ ap₂ (λ a b. records_of a + records_of b) c.self.view_is c.other.view_is
