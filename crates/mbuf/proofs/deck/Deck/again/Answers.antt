use Rattle.std.proofs.Common.{◌≡◌, ◌+◌, false, refl, sym, subst}
use Rattle.std.specs.Prelude.{OnOk}
use Rattle.std.specs.Result.{is_err}
use Rattle.std.specs.declared.result.Result.{Result}
use Rattle.std.specs.declared.result.Result.TheVariants.{Ok, Err}
use Rattle.mbuf.specs.Deck.{HasIds, share_at, again}
use Rattle.mbuf.proofs.Ids.{ids_add}
use Rattle.mbuf.proofs.deck.Deck.again.Goals as goal

when_ok : {X E P : Type 0} (r : Result X E) → false ≡ is_err r → OnOk r P → P
when_ok (Ok x) e p = p
when_ok (Err x) e p = absurd (cc)

pub invariant_of-self-2 : goal.invariant_of-self-2
invariant_of-self-2 c =
    let next = c.self.inside.next in
    let live = c.self.inside.table in
    let done = when_ok c.again.result c.if-is_err.ensures.value c.again.ensures.done in
    subst (HasIds (next + 1)) (sym done) (ids_add next live (again next (share_at live c.in-Some.place)) refl c.self.invariant)
