use Rattle.lpm.proofs.Walks.{walked, fewer, own_prefix}
use Rattle.lpm.proofs.table.Table.clear.Goals as goal

pub loop-route-smaller : goal.loop-route-smaller
loop-route-smaller c =
    let route = c.in-Some.route in
    fewer c.loop-route.self.members c.remove.new.self.members record { address = route.address; depth = route.depth } _ route.hop
    c.in-Some.ensures.found.member
    (own_prefix record { address = route.address; depth = route.depth } c.in-Some.ensures.member.cleared)
    c.in-Ok.ensures.ok.members

pub returns : goal.returns
returns c = record {
  members = walked c.loop-route.self.members c.in_default.ensures.none;
  bits = c.loop-route.invariant.0;
  limit = c.loop-route.invariant.1;
}
