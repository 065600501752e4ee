use Rattle.std.proofs.Common.{rules, arith}
use Rattle.live_routes.specs.Frames.{address_of}
use Rattle.live_routes.proofs.Places.{mapped_more}
use Rattle.live_routes.proofs.bursts.write_addresses.Goals as goal

pub loop-i-preserved : goal.loop-i-preserved
loop-i-preserved c =
    let v = c.loop-i.invariant in
    record {
      inside = search rules;
      long = search rules;
      done =
          mapped_more address_of c.args.frames.now c.loop-i.addresses c.loop-i.i c.index-frames-i.result c.address_of.result
          (search rules) (omega (arith, v.long, c.loop-i-test.true)) (search rules) v.done c.address_of.ensures;
    }
