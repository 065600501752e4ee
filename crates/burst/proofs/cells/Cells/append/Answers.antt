use Rattle.std.proofs.Common.{◌+◌, ◌<◌, ap, arith, length}
use Rattle.burst.proofs.Appends.{first_at, left_one, moved_one}
use Rattle.burst.proofs.cells.Cells.append.Goals as goal

pub loop-i-preserved : goal.loop-i-preserved
loop-i-preserved g c =
    let l = c.loop-i in
    let had = c.args.self.now in
    let all = c.args.other.now in
    let low : l.i < length all = omega (arith, c.loop-i-test.true, c.len-many.ensures.value) in
    record {
      moved =
          moved_one had all l.self c.replace.new.self l.i (c.len-before.result + l.i) c.replace-cell.result low l.invariant.moved
          (first_at all l.other l.i c.replace-cell.result low l.invariant.left c.replace-cell.ensures.value) (ap (λ n. n + l.i) c.len-before.ensures.value)
          c.replace.ensures.after;
      left = left_one all l.other c.replace-cell.new.self l.i low l.invariant.left c.replace-cell.ensures.after;
    }
