use Rattle.std.proofs.Common.{rules, arith, ◌≡◌, ◌+◌, ◌-◌, ◌<◌, ap, length, set, subst, take, ◌∙◌}
use Rattle.lpm.specs.Match.{lookup_in}
use Rattle.capi.specs.Tables.{hop_word, hop_words}
use Rattle.capi.proofs.Hops.{filled_more, found_at}
use Rattle.capi.proofs.route_tables.write_block.Goals as goal

pub loop-i-preserved : goal.loop-i-preserved
loop-i-preserved c =
    let v = c.loop-i.invariant in
    let i = c.loop-i.i in
    let at = c.args.at in
    let xs = c.args.addresses.now in
    let below : at + i < length xs = search rules in
    let room : at + i < length c.loop-i.hops = omega (arith, below, v.long) in
    let next : (at + i) + 1 ≡ at + (i + 1) = omega arith in
    record {
      inside = search rules;
      long = search rules;
      done = subst (λ n. take n (set c.loop-i.hops (at + i) c.word_of.result) ≡ take n (hop_words c.args.table.now.members xs)) next
          (filled_more (λ address. hop_word (lookup_in c.args.table.now.members address)) xs c.loop-i.hops (at + i) c.word_of.result
          below room v.done (c.word_of.ensures ∙ ap hop_word (c.index-found-i.is ∙ found_at (lookup_in c.args.table.now.members)
          c.index-found-i.result xs at (at + c.min-count.result - at) i c.lookup_bulk.new.hops c.lookup_bulk.ensures.value
          (omega (arith, c.loop-i-test.true)) (omega (arith, c.loop-i-test.true, c.lookup_bulk.auto.hops)))));
    }
