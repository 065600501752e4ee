use Rattle.std.proofs.Common.{◌≡◌, ◌/◌, ◌*◌, ◌≤◌, ◌++◌, true, false, inl, length, drop, refl, sym, ap, ◌∙◌, subst, arith}
use Rattle.std.proofs.lemmas.List.{length-append}
use Rattle.fabric.specs.Settles.{AreNotOwnBuffers, AreOwnBuffers}
use Rattle.pool_laws.specs.Hands.{view_in}
use Rattle.pool_laws.proofs.Counts.{spilled_none}
use Rattle.pool_laws.proofs.Wholes.{view_later}
use Rattle.pool.proofs.lent.Local+T+N+S.put_from.Goals as goal

pub returns-then-may-clause-exact : goal.returns-then-may-clause-exact
returns-then-may-clause-exact g c plan there =
    let tags = g.T.Tagged.numbers in
    let l = c.args.self.now in
    let may : c.admit-may.result ≡ true = c.if-may.true in
    let moved = c.admit-may.ensures.moved may in
    let all = l.cache ++ c.args.list.now in
    let few : length all ≤ 3 * l.size / 2 = omega (arith, c.would_pass.ensures.no c.if-would_pass.false, length-append l.cache c.args.list.now) in (
      subst (λ o. AreOwnBuffers tags (view_in o) all) (sym c.in-Some.is) (c.admit-may.ensures.yours may),
      moved.1,
      moved.0 ∙ ap (λ k. drop k all) (sym (spilled_none l.size (3 * l.size / 2) (length all) few)),
      inl (few, view_later tags l.hand c.in-Some.cache_hand c.admit-may.new.cache_hand c.admit-may.new.cache_hand c.in-Some.is c.admit-may.ensures.same refl),
    )

pub returns-else-may-clause-exact : goal.returns-else-may-clause-exact
returns-else-may-clause-exact g c plan there =
    let tags = g.T.Tagged.numbers in
    let l = c.args.self.now in
    let none : c.admit-may.result ≡ false = c.if-may.false in
    let back = c.admit-may.ensures.back none in (
      subst (λ o. AreNotOwnBuffers tags (view_in o) (l.cache ++ c.args.list.now)) (sym c.in-Some.is) (c.admit-may.ensures.other none),
      back.1,
      back.0,
      view_later tags l.hand c.in-Some.cache_hand c.admit-may.new.cache_hand c.admit-may.new.cache_hand c.in-Some.is c.admit-may.ensures.same refl,
    )
