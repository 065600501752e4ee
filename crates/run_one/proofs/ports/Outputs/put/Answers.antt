use Rattle.std.proofs.Common.{◌≡◌, ◌<◌, Some, refl, sym, ◌∙◌, subst, arith, length, slice_get, slice_set, vec_len}
use Rattle.std.proofs.lemmas.Option.{slice_get_read}
use Rattle.pcapio.specs.Record.{packet_in}
use Rattle.run_one.specs.PortSteps.{AreLonger, AreCut, part_at}
use Rattle.run_one.specs.Failing.{FailsOnce}
use Rattle.run_one.proofs.Parts.{none_longer, one_longer, one_cut, one_well}
use Rattle.run_one.proofs.Failures.{none_fails, one_works, one_fails}
use Rattle.run_one.proofs.ports.Outputs.put.Goals as goal

pub returns-in-Drop-clause-longer : goal.returns-in-Drop-clause-longer
returns-in-Drop-clause-longer g c well =
    let packet = packet_in c.args.seconds c.args.fraction c.args.wire c.args.chain.now in
    let writers = c.args.self.now.writers.items in
    subst (λ v. AreLonger g.W.Write.contents writers writers (λ q. part_at q v packet)) (sym c.in-Drop.is)
    (none_longer g.W.Write.contents writers c.in-Drop.field-0 packet)

pub invariant_of-self : goal.invariant_of-self
invariant_of-self g c =
    let writers = c.args.self.now.writers.items in
    let p = c.in-Send.port in
    let was = c.index_mut-writer.result.now in
    let low : p < vec_len c.args.self.now.writers = c.requires.port p c.in-Send.tagged c.in-Send.is in
    let inside : p < length writers = omega (arith, low, c.args.self.now.writers.ok.0) in
    let at : slice_get writers p ≡ Some was = slice_get_read writers _ p was refl inside c.index_mut-writer.ensures.value in
    record {
      well = λ well. one_well writers p was c.put.new.self at (c.args.self.now.well c.requires.no_failure) c.in-Ok.ensures.no_failure;
      port = λ n bad. absurd (cc (sym c.requires.no_failure ∙ bad));
    }

pub returns-in-Ok-clause-longer : goal.returns-in-Ok-clause-longer
returns-in-Ok-clause-longer g c well =
    let packet = packet_in c.args.seconds c.args.fraction c.args.wire c.args.chain.now in
    let writers = c.args.self.now.writers.items in
    let p = c.in-Send.port in
    let was = c.index_mut-writer.result.now in
    let low : p < vec_len c.args.self.now.writers = c.requires.port p c.in-Send.tagged c.in-Send.is in
    let inside : p < length writers = omega (arith, low, c.args.self.now.writers.ok.0) in
    let at : slice_get writers p ≡ Some was = slice_get_read writers _ p was refl inside c.index_mut-writer.ensures.value in
    subst (λ v. AreLonger g.W.Write.contents writers (slice_set writers p c.put.new.self) (λ q. part_at q v packet)) (sym c.in-Send.is)
    (one_longer g.W.Write.contents writers p c.in-Send.tagged packet was c.put.new.self at c.in-Ok.ensures.ok)

pub returns-in-Err-clause-cut : goal.returns-in-Err-clause-cut
returns-in-Err-clause-cut g c port failed =
    let packet = packet_in c.args.seconds c.args.fraction c.args.wire c.args.chain.now in
    let writers = c.args.self.now.writers.items in
    let p = c.in-Send.port in
    let was = c.index_mut-writer.result.now in
    let low : p < vec_len c.args.self.now.writers = c.requires.port p c.in-Send.tagged c.in-Send.is in
    let inside : p < length writers = omega (arith, low, c.args.self.now.writers.ok.0) in
    let at : slice_get writers p ≡ Some was = slice_get_read writers _ p was refl inside c.index_mut-writer.ensures.value in
    subst (λ v. AreCut g.W.Write.contents writers (slice_set writers p c.put.new.self) (λ q. part_at q v packet)) (sym c.in-Send.is)
    (one_cut g.W.Write.contents writers p c.in-Send.tagged packet was c.put.new.self at c.in-Err.ensures.begins)

pub returns-in-Drop-clause-failures : goal.returns-in-Drop-clause-failures
returns-in-Drop-clause-failures g c =
    subst (FailsOnce c.args.self.now.writers.items c.args.self.now.writers.items) (sym c.requires.no_failure) (none_fails c.args.self.now.writers.items)

pub returns-in-Ok-clause-failures : goal.returns-in-Ok-clause-failures
returns-in-Ok-clause-failures g c =
    let writers = c.args.self.now.writers.items in
    let p = c.in-Send.port in
    let was = c.index_mut-writer.result.now in
    let low : p < vec_len c.args.self.now.writers = c.requires.port p c.in-Send.tagged c.in-Send.is in
    let inside : p < length writers = omega (arith, low, c.args.self.now.writers.ok.0) in
    let at : slice_get writers p ≡ Some was = slice_get_read writers _ p was refl inside c.index_mut-writer.ensures.value in
    subst (FailsOnce writers (slice_set writers p c.put.new.self)) (sym c.requires.no_failure) (one_works writers p was c.put.new.self at c.in-Ok.ensures.worked)

pub returns-in-Err-clause-failures : goal.returns-in-Err-clause-failures
returns-in-Err-clause-failures g c =
    let writers = c.args.self.now.writers.items in
    let p = c.in-Send.port in
    let was = c.index_mut-writer.result.now in
    let low : p < vec_len c.args.self.now.writers = c.requires.port p c.in-Send.tagged c.in-Send.is in
    let inside : p < length writers = omega (arith, low, c.args.self.now.writers.ok.0) in
    let at : slice_get writers p ≡ Some was = slice_get_read writers _ p was refl inside c.index_mut-writer.ensures.value in
    one_fails writers p was c.put.new.self at (c.in-Err.ensures.failed (c.args.self.now.well c.requires.no_failure p was at))
