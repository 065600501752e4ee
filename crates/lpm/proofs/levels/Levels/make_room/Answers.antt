use Rattle.std.proofs.Common.{◌≡◌, ◌+◌, List, take, sym, subst, length, arith}
use Rattle.std.proofs.lemmas.List.{take_all}
use Rattle.lpm.specs.TableEntry.{TableEntry}
use Rattle.lpm.specs.TwoLevels.{TwoLevels, Grows}
use Rattle.lpm.specs.contracts.levels.Levels.{the_view}
use Rattle.lpm.proofs.Regroup.{grows}
use Rattle.lpm.proofs.levels.Levels.make_room.Goals as goal

pub returns-clause-ok : goal.returns-clause-ok
returns-clause-ok c =
    let p : TwoLevels = the_view c.self.inside in
    let n = c.len.result + c.size.result in
    let whole : take n p.groups ≡ p.groups = take_all n p.groups (omega arith) in
    let appended = rw whole at c.in_ok-resize.ensures.items in
    rw (← c.self.view_is)
    (subst (λ (es : List TableEntry). Grows p (record p { groups = es; free = length c.push_reserved.new.self.items })) (sym appended)
    (grows p _ c.self.inside.free.items _ _ c.self.invariant))
