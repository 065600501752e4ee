use Rattle.std.proofs.Common.{◌-◌, ◌+◌, ◌<◌, ap, arith, drop, length, reverse}
use Rattle.std.proofs.lemmas.List.{length-drop, length-reverse}
use Rattle.burst.proofs.Appends.{last_at, left_last, moved_one}
use Rattle.burst.proofs.cells.Cells.move_tail_reversed.Goals as goal

pub loop-i-preserved : goal.loop-i-preserved
loop-i-preserved g c =
    let l = c.loop-i in
    let had = c.args.to.now in
    let all = c.args.self.now in
    let k = c.args.k in
    let behind = reverse (drop k all) in
    let low : l.i < length all - k = omega (arith, c.loop-i-test.true, c.len-all.ensures.value) in
    let inside : l.i < length behind = omega (arith, low, length-reverse (drop k all), length-drop k all) in
    let place = ap (λ n. n - 1 - l.i) c.len-all.ensures.value in
    record {
      moved =
          moved_one had behind l.to c.replace.new.self l.i (c.len-before.result + l.i) c.replace-cell.result inside l.invariant.moved
          (last_at all l.self k l.i (c.len-all.result - 1 - l.i) c.replace-cell.result low l.invariant.left place c.replace-cell.ensures.value)
          (ap (λ n. n + l.i) c.len-before.ensures.value) c.replace.ensures.after;
      left =
          left_last all l.self c.replace-cell.new.self l.i (c.len-all.result - 1 - l.i) (omega (arith, low)) l.invariant.left place
          c.replace-cell.ensures.after;
    }
