use Rattle.std.proofs.Common.{◌≡◌, ◌/◌, ◌%◌, ap, sym, subst, ◌∙◌}
use Rattle.geom.specs.Extent.{range_of}
use Rattle.geom.specs.Plan.{mode_of}
use Rattle.geom.specs.declared.plan.Mode.{Mode}
use Rattle.geom.specs.declared.plan.Mode.TheVariants.{Hts}
use Rattle.geom.proofs.Words.{count_back, packed_exact, position_back, range_some}
use Rattle.ringcore_laws.specs.History.{position_of}
use Rattle.fabric.proofs.ring.Ring.word_from.Goals as goal

pub returns-in-Hts : goal.returns-in-Hts
returns-in-Hts g c =
    let r = c.args.self.now in
    let e = r.shape.now.plan.geometry in
    let hts : mode_of r.shape.now.plan c.args.side ≡ Hts = sym c.mode.ensures ∙ c.in-Hts.is in
    let exact = packed_exact e c.args.position 0 (r.fabric.now.fitting.words r.index r.shape.now.plan r.in_plan.0) c.requires (range_some e) in
    record {
      at = subst (λ (m : Mode). position_of e m c.word.result ≡ c.args.position) (sym hts)
          (ap (λ n. n / range_of e) (c.word.ensures.value ∙ exact) ∙ position_back e c.args.position 0 (range_some e));
      whole = λ _. ap (λ n. n % range_of e) (c.word.ensures.value ∙ exact) ∙ count_back e c.args.position 0 (range_some e);
    }
