use Rattle.std.proofs.Common.{◌-◌, ◌≤◌, None, sym, ◌∙◌, subst, arith}
use Rattle.lpm.specs.Prefixes.{prefix_of}
use Rattle.lpm.specs.Routes.{Routes}
use Rattle.lpm.proofs.Shallow.{longest_plain, next_shorter}
use Rattle.lpm.proofs.Rights.{right_shallow, removes, members_without}
use Rattle.lpm.proofs.table.Table.remove_shallow.Goals as goal

pub longest-next-requires-clause-members : goal.longest-next-requires-clause-members
longest-next-requires-clause-members c =
    rw c.in_ok-remove.ensures.ok (members_without c.self.inside.members c.of-prefix.result c.self.invariant.members)

pub overwrite-requires-clause-plain : goal.overwrite-requires-clause-plain
overwrite-requires-clause-plain c = rw c.longest-next.ensures
    (longest_plain c.remove.new.self c.args.addr (c.args.depth - 1) (omega (arith, c.requires.depth.1)))

pub invariant_of-self-2 : goal.invariant_of-self-2
invariant_of-self-2 c =
    let p = c.self.inside.levels in
    let m = c.self.inside.members in
    let shallow = subst (λ (t : Routes). c.args.depth ≤ t.bits) (sym c.self.view_is) c.requires.shallow in
    let change = removes m (prefix_of c.args.addr c.args.depth) in
    let after = rw c.of-prefix.ensures at c.in_ok-remove.ensures.ok in
    let overwrites = rw c.of-prefix.ensures at c.overwrite.ensures.overwrites in
    let next = rw after at c.longest-next.ensures in
    rw after
    (right_shallow p c.overwrite.new.self m _ c.args.addr c.args.depth None c.longest-next.result c.self.invariant c.requires.depth shallow
    change
    (members_without m (prefix_of c.args.addr c.args.depth) c.self.invariant.members)
    (λ a e. next ∙ next_shorter m _ c.args.addr c.args.depth None change c.requires.depth.0 c.requires.depth.1 a e)
    c.overwrite.ensures.keeps overwrites)
