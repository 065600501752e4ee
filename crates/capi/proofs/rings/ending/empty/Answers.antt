use Rattle.std.proofs.Common.{rules, arith, ◌<◌, ◌∙◌, length}
use Rattle.fabric.specs.Closed.{left}
use Rattle.std.proofs.lemmas.List.{drop-set-lt}
use Rattle.capi.proofs.Emptying.{emptied_more}
use Rattle.capi.proofs.rings.ending.empty.Goals as goal

pub loop-i-preserved : goal.loop-i-preserved
loop-i-preserved c =
    let v = c.loop-i.invariant in
    let here : c.loop-i.i < length c.loop-i.words = search rules in
    record {
      there = search rules;
      same = search rules;
      inside = search rules;
      long = search rules;
      after = λ k above. drop-set-lt k c.loop-i.words c.loop-i.i c.in-Some.word (omega (arith, above)) ∙ v.after k (omega (arith, above));
      given = emptied_more c.loop-i.words c.loop-i.i c.in-Some.word (left c.args.leftover.now.closed c.args.ring)
          (left c.loop-i.leftover.closed c.args.ring) (left c.next.new.self c.args.ring) here v.given c.in-Some.ensures.first;
      others = λ q other. c.next.ensures.others q other ∙ v.others q other;
    }
