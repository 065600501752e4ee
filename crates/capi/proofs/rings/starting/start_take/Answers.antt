use Rattle.std.proofs.Common.{length, refl}
use Rattle.geom.specs.declared.plan.Side.TheVariants.{Take}
use Rattle.fabric.specs.Hands.{rings_of}
use Rattle.fabric.specs.Held.{span_at}
use Rattle.fabric.specs.InPlace.{placed_view}
use Rattle.fabric.proofs.Told.{ring_at}
use Rattle.capi.proofs.Reserving.{reserved_of}
use Rattle.capi.proofs.rings.starting.start_take.Goals as goal

pub returns-in-Ok-clause-started : goal.returns-in-Ok-clause-started
returns-in-Ok-clause-started c =
    let r = c.in-Ok.reserved in
    let w = placed_view c.try_start_take.new.self in
    let s = c.in-Ok.ensures.started in (
      s.0,
      reserved_of c.args.f.now 4095 c.args.how (length c.args.words.now) c.args.ring Take (placed_view c.args.hand.now) (span_at Take r)
          r.range.left w.shown w c.requires.ring s.1 refl s.2 c.in-Ok.ensures.may
          c.in-Ok.ensures.opened,
    )

pub returns-in-Err-clause-refused : goal.returns-in-Err-clause-refused
returns-in-Err-clause-refused c =
    let is = c.in-Err.ensures.refused in
    let p = ring_at (rings_of c.args.f.now) c.args.ring c.requires.ring in
    (is.0, is.1, record { found = λ plan there. (is.2 plan there).steps; kept = (is.2 p.0 p.1).kept })
