use Rattle.std.proofs.Common.{rules, ◌≡◌, ◌<◌, Some, refl, ap, ◌∙◌, arith, length, slice_get, slice_set, None}
use Rattle.std.proofs.lemmas.Option.{slice_get_read}
use Rattle.pcapio.specs.Writer.{fault_of}
use Rattle.run_one.proofs.Flushing.{none_told, one_told, all_told, cut_short}
use Rattle.run_one.proofs.Failures.{none_fails, one_works, one_fails, fails_later}
use Rattle.run_one.proofs.ports.close.flush_all.Goals as goal

pub loop-i-init : goal.loop-i-init
loop-i-init g c = record { many = refl; told = none_told g.W.Write.contents c.args.writers.now.items; works = none_fails c.args.writers.now.items }

pub loop-i-preserved : goal.loop-i-preserved
loop-i-preserved g c =
    let now = c.loop-i.writers.items in
    let i = c.loop-i.i in
    let was = c.index_mut-writer.result.now in
    let inside : i < length now = omega (arith, c.loop-i.writers.ok.0, c.loop-i.invariant.many) in
    let at : slice_get now i ≡ Some was = slice_get_read now _ i was refl inside c.index_mut-writer.ensures.value in
    record {
      many = search rules;
      told = one_told g.W.Write.contents i c.args.writers.now.items now was c.flush.new.self c.loop-i.invariant.told at c.in-Ok.ensures.ok;
      works = fails_later c.args.writers.now.items now (slice_set now i c.flush.new.self) None c.loop-i.invariant.works
          (one_works now i was c.flush.new.self at c.in-Ok.ensures.worked);
    }

pub returns-in-Err-clause-cut : goal.returns-in-Err-clause-cut
returns-in-Err-clause-cut g c p is =
    let now = c.loop-i.writers.items in
    let i = c.loop-i.i in
    let was = c.index_mut-writer.result.now in
    let inside : i < length now = omega (arith, c.loop-i.writers.ok.0, c.loop-i.invariant.many) in
    let at : slice_get now i ≡ Some was = slice_get_read now _ i was refl inside c.index_mut-writer.ensures.value in
    cut_short g.W.Write.contents i c.args.writers.now.items now was c.flush.new.self c.loop-i.invariant.told at
    c.in-Err.ensures.begins

pub returns-in-Err-clause-failures : goal.returns-in-Err-clause-failures
returns-in-Err-clause-failures g c =
    let now = c.loop-i.writers.items in
    let i = c.loop-i.i in
    let was = c.index_mut-writer.result.now in
    let inside : i < length now = omega (arith, c.loop-i.writers.ok.0, c.loop-i.invariant.many) in
    let at : slice_get now i ≡ Some was = slice_get_read now _ i was refl inside c.index_mut-writer.ensures.value in
    let m = c.loop-i.invariant.told i was at in
    fails_later c.args.writers.now.items now (slice_set now i c.flush.new.self) (Some i) c.loop-i.invariant.works
    (one_fails now i was c.flush.new.self at (c.in-Err.ensures.failed (ap fault_of (m.3 (omega arith)) ∙ c.requires.no_failure i m.0 m.1)))

pub returns-clause-exact : goal.returns-clause-exact
returns-clause-exact g c well =
    all_told g.W.Write.contents c.loop-i.i c.args.writers.now.items c.loop-i.writers.items c.loop-i.invariant.told
    (omega (arith, c.loop-i.writers.ok.0, c.loop-i.invariant.many, c.loop-i-test.false))
