use Rattle.std.proofs.Common.{◌≡◌, ◌+◌, ◌/◌, ◌%◌, ◌<◌, ap, arith, subst, sym, ◌∙◌}
use Rattle.geom.specs.Extent.{range_of}
use Rattle.geom.specs.declared.plan.Mode.{Mode}
use Rattle.geom.proofs.Words.{last_small, next_fits, next_position}
use Rattle.fabric_laws.specs.Closing.{reach_of}
use Rattle.fabric.proofs.close.further.Goals as goal

pub overflow_add-result : goal.overflow_add-result
overflow_add-result c =
    let e = c.args.plan.now.geometry in
    let low = subst (λ (m : Mode). reach_of e m c.args.word < e.last) c.in-Multi.is c.requires in
    record { fits = omega (arith, low, last_small e c.range-range.ensures.extent) }

pub overflow_add-result-in-Hts : goal.overflow_add-result-in-Hts
overflow_add-result-in-Hts c =
    let e = c.args.plan.now.geometry in
    let low = subst (λ (m : Mode). reach_of e m c.args.word < e.last) c.in-Hts.is c.requires in
    let said = c.range-range.ensures in
    let fits = next_fits e c.args.word said.extent.words (omega (arith, low)) in
    record { fits = omega (arith, fits, said.value) }

pub returns-in-Hts : goal.returns-in-Hts
returns-in-Hts c =
    let e = c.args.plan.now.geometry in
    let word = c.args.word in
    let next = next_position e word in
    subst (λ (m : Mode). reach_of e m (word + c.range-range.result) ≡ reach_of e m word + 1) (sym c.in-Hts.is)
    (ap (λ n. (word + n) / range_of e + (word + n) % range_of e) c.range-range.ensures.value ∙ omega (arith, next.0, next.1))
