use Rattle.std.proofs.Common.{ap, ◌∙◌}
use Rattle.fabric.proofs.Told.{ring_at}
use Rattle.fabric.specs.Hands.{rings_of, view}
use Rattle.pool_laws.proofs.Requests.{kept_party, own_yours, put_all, put_count, put_holds, put_none}
use Rattle.ringapi.proofs.Few.{own_few}
use Rattle.pool.proofs.ring_requests.put_bulk.Goals as goal

pub returns-in-Done-clause-exact : goal.returns-in-Done-clause-exact
returns-in-Done-clause-exact g c plan there =
    (put_all g.T.Tagged.numbers g.row.N c.args.ring plan (view c.args.hand) c.in-Done.hand c.in-Done.field-1 (g.I.Items.items c.args.list.now) _
    (c.in-Done.ensures.put.exact plan there)).1

pub returns-in-Done-clause-done : goal.returns-in-Done-clause-done
returns-in-Done-clause-done g c =
    let known = ring_at (rings_of c.args.f.now) c.args.ring c.requires.free.0 in
    let items = g.I.Items.items c.args.list.now in
    let all = put_count g.T.Tagged.numbers g.row.N c.args.ring known.0 (view c.args.hand) c.in-Done.hand c.in-Done.field-1 items _ (c.in-Done.ensures.put.exact known.0 known.1) in
    c.in-Done.ensures.list ∙ (ap (g.I.PutItems.after items) all ∙ g.met.I.PutItems.all items)

pub returns-in-Refused-clause-exact : goal.returns-in-Refused-clause-exact
returns-in-Refused-clause-exact g c plan there =
    let tags = g.T.Tagged.numbers in
    let v = view c.args.hand in
    let free = c.requires.free.1 plan there in
    let yours = own_yours tags plan v (g.I.Items.items c.args.list.now) c.requires.own in
    let few = own_few tags v.pool v.party (g.I.Items.items c.args.list.now) c.args.hand.share.well c.requires.own.0 c.requires.own.1 in
    (put_none tags g.row.N c.args.ring plan v c.in-Refused.hand c.in-Refused.field-1 (g.I.Items.items c.args.list.now) _ yours free few
    c.requires.nonzero c.requires.room c.in-Refused.ensures.put.finished (c.in-Refused.ensures.put.exact plan there)).1

pub returns-in-Done-clause-less : goal.returns-in-Done-clause-less
returns-in-Done-clause-less g c =
    let known = ring_at (rings_of c.args.f.now) c.args.ring c.requires.free.0 in
    let v = view c.args.hand in
    put_holds g.T.Tagged.numbers g.row.N c.args.ring known.0 v c.in-Done.hand (g.I.Items.items c.args.list.now)
    (put_all g.T.Tagged.numbers g.row.N c.args.ring known.0 v c.in-Done.hand c.in-Done.field-1 (g.I.Items.items c.args.list.now) _
    (c.in-Done.ensures.put.exact known.0 known.1)).1

pub returns-in-Refused-clause-party : goal.returns-in-Refused-clause-party
returns-in-Refused-clause-party g c =
    let known = ring_at (rings_of c.args.f.now) c.args.ring c.requires.free.0 in
    kept_party g.T.Tagged.numbers g.row.N c.args.ring known.0 (view c.args.hand) c.in-Refused.hand (g.I.Items.items c.args.list.now)
    (returns-in-Refused-clause-exact g c known.0 known.1)
