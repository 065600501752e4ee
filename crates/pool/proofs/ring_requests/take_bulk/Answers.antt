use Rattle.std.proofs.Common.{Err, sym, subst}
use Rattle.fabric.proofs.Told.{ring_at}
use Rattle.fabric.specs.Hands.{rings_of, view}
use Rattle.pool_laws.proofs.Requests.{none_party, took, took_holds, took_none, took_single}
use Rattle.pool.proofs.ring_requests.take_bulk.Goals as goal
use Rattle.pool_laws.specs.Requests.{Takes}

pub returns-in-Done-clause-exact : goal.returns-in-Done-clause-exact
returns-in-Done-clause-exact g c plan there =
    took g.T.Tagged.numbers g.row.N c.args.ring plan (view c.args.hand) c.args.n c.in-Done.hand c.in-Done.field-1
    (g.I.Items.items c.take_into.new.into) (c.in-Done.ensures.taken.exact plan there)

pub returns-in-Refused-clause-exact : goal.returns-in-Refused-clause-exact
returns-in-Refused-clause-exact g c plan there =
    let h = c.in-Refused.hand in
    subst (λ r. Takes g.T.Tagged.numbers g.row.N c.args.ring plan (view c.args.hand) c.args.n (Err (h, r)) (g.I.Items.items c.take_into.new.into)) (sym c.refusal.ensures)
    (took_none g.T.Tagged.numbers g.row.N c.args.ring plan (view c.args.hand) c.args.n h c.in-Refused.fault
    (g.I.Items.items c.take_into.new.into) c.requires.nonzero c.requires.at_most c.in-Refused.ensures.taken.finished (c.in-Refused.ensures.taken.exact plan there)).1

pub returns-in-Done-clause-length : goal.returns-in-Done-clause-length
returns-in-Done-clause-length g c =
    let known = ring_at (rings_of c.args.f.now) c.args.ring c.requires.free.0 in
    (took g.T.Tagged.numbers g.row.N c.args.ring known.0 (view c.args.hand) c.args.n c.in-Done.hand c.in-Done.field-1
    (g.I.Items.items c.take_into.new.into) (c.in-Done.ensures.taken.exact known.0 known.1)).0

pub returns-in-Done-clause-more : goal.returns-in-Done-clause-more
returns-in-Done-clause-more g c =
    let known = ring_at (rings_of c.args.f.now) c.args.ring c.requires.free.0 in
    let v = view c.args.hand in
    took_holds g.T.Tagged.numbers g.row.N c.args.ring known.0 v c.args.n c.in-Done.hand (g.I.Items.items c.take_into.new.into) v.pool c.args.hand.share.well
    (took g.T.Tagged.numbers g.row.N c.args.ring known.0 v c.args.n c.in-Done.hand c.in-Done.field-1
    (g.I.Items.items c.take_into.new.into) (c.in-Done.ensures.taken.exact known.0 known.1))

pub returns-in-Refused-clause-same : goal.returns-in-Refused-clause-same
returns-in-Refused-clause-same g c =
    let known = ring_at (rings_of c.args.f.now) c.args.ring c.requires.free.0 in
    none_party g.T.Tagged.numbers g.row.N c.args.ring known.0 (view c.args.hand) c.args.n c.in-Refused.hand c.in-Refused.fault
    (g.I.Items.items c.take_into.new.into) (c.in-Refused.ensures.taken.exact known.0 known.1)

pub returns-in-Done-clause-single : goal.returns-in-Done-clause-single
returns-in-Done-clause-single g c =
    let known = ring_at (rings_of c.args.f.now) c.args.ring c.requires.free.0 in
    let v = view c.args.hand in
    took_single g.T.Tagged.numbers g.row.N c.args.ring known.0 v c.args.n c.in-Done.hand (g.I.Items.items c.take_into.new.into)
    (took g.T.Tagged.numbers g.row.N c.args.ring known.0 v c.args.n c.in-Done.hand c.in-Done.field-1
    (g.I.Items.items c.take_into.new.into) (c.in-Done.ensures.taken.exact known.0 known.1))
    (c.requires.free.1 known.0 known.1)
