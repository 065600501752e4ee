use Rattle.std.proofs.Common.{slice_get, sym, ap, ◌∙◌, subst, arith}
use Rattle.ringcore_laws.specs.Moves.{Owns}
use Rattle.ringcore_laws.specs.Sound.{occurrences_in}
use Rattle.fabric.specs.Hands.{rings_of}
use Rattle.fabric.proofs.Told.{ring_at}
use Rattle.stages.proofs.Custody.{holds_some}
use Rattle.stages.proofs.threads.ring_access.RingAccess.may_send.Goals as goal

pub returns-clause-yours : goal.returns-clause-yours
returns-clause-yours g c may =
    let tags = g.T.Tagged.numbers in
    let port = c.args.self.now in
    let known = ring_at (rings_of port.fabric.now) c.args.ring (omega (arith, c.requires.ring, port.rings.many)) in
    holds_some tags c.may_put-may.new.self (λ b. occurrences_in tags b c.args.list.now)
    (subst (λ v. Owns tags v.party c.args.list.now) (sym c.may_put-may.ensures.kept.1)
    (c.may_put-may.ensures.yours known.0 known.1 may).owned)

pub returns-clause-single : goal.returns-clause-single
returns-clause-single g c may first =
    let port = c.args.self.now in
    let plans = rings_of port.fabric.now in
    let known = ring_at plans c.args.ring (omega (arith, c.requires.ring, port.rings.many)) in
    let there = ap (λ n. slice_get plans n) (sym first) ∙ known.1 in
    (c.may_put-may.ensures.yours known.0 known.1 may).single (port.rings.free.1 known.0 there)
