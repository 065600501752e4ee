use Rattle.std.proofs.Common.{◌++◌, take, arith, rules, length-append}
use Rattle.std.proofs.KnownBytes.{Consumes-trans}
use Rattle.std.proofs.lemmas.List.{length-take-le}
use Rattle.pcapio.specs.ReadBuffer.{items}
use Rattle.pcapio.proofs.Windows.{prepend_known-dropped, kept-Consumes}
use Rattle.pcapio.proofs.read_buffer.ReadBuffer.skip.Goals as goal

pub loop-left-preserved : goal.loop-left-preserved
loop-left-preserved g c =
    let i = c.loop-left.invariant in
    let n = c.min-gone.result in
    let there = items c.ready.new.self in
    let len = length-take-le n there (search rules) in
    record {
      taken = (
        i.taken.0 ++ take n there,
        omega (arith, length-append i.taken.0 (take n there), i.taken.1, len),
        Consumes-trans _ _ _ i.taken.0 _ i.taken.2 (kept-Consumes _ _ _ _ c.ready.ensures.all (prepend_known-dropped _ there _ n c.consume.ensures)),
      );
      well = search rules;
    }
