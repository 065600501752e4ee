use Rattle.std.proofs.Common.{arith}
use Rattle.lpm.proofs.Overwriting.{overwrites_deeper, overwrites_here}
use Rattle.lpm.proofs.LevelReads.{read_is}
use Rattle.lpm.proofs.overwrite.overwrite.Goals as goal
use Rattle.lpm.proofs.overwrite.overwrite.Goals.{then-depth, else-depth}

pub loop-i-preserved : goal.loop-i-preserved
loop-i-preserved c =
    let read = read_is c.loop-i.entries c.loop-i.i _ (omega arith) c.index-entries-i.is in
    elim c.if-depth.branch [
      | then-depth w ↦
          let grown = overwrites_here c.args.entries.now c.loop-i.entries c.args.from c.loop-i.i c.args.depth c.args.entry c.loop-i.invariant
          (omega arith) (omega arith) _ read (omega arith) in
          rw w.entries-is grown
      | else-depth w ↦
          let grown = overwrites_deeper c.args.entries.now c.loop-i.entries c.args.from c.loop-i.i c.args.depth c.args.entry c.loop-i.invariant
          (omega arith) _ read (omega arith) in
          rw w.entries-is grown
    ]
