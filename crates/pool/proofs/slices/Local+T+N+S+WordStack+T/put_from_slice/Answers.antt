use Rattle.std.proofs.Common.{◌≡◌, ◌/◌, ◌*◌, ◌≤◌, ◌++◌, true, inl, length, drop, refl, sym, ap, ◌∙◌, subst, arith}
use Rattle.std.proofs.lemmas.List.{length-append}
use Rattle.fabric.specs.Settles.{AreOwnBuffers}
use Rattle.pool_laws.specs.Hands.{view_in}
use Rattle.pool.specs.WordStacks.{words_in}
use Rattle.pool_laws.proofs.Counts.{spilled_none}
use Rattle.pool_laws.proofs.Wholes.{view_later}
use Rattle.pool.proofs.slices.Local+T+N+S+WordStack+T.put_from_slice.Goals as goal

pub returns-then-may-clause-exact : goal.returns-then-may-clause-exact
returns-then-may-clause-exact g c plan there =
    let tags = g.T.Tagged.numbers in
    let l = c.args.self.now in
    let may : c.admit-may.result ≡ true = c.if-may.true in
    let moved = (c.admit-may.ensures.moved may).0 in
    let all = (words_in l.cache) ++ c.args.items.now in
    let few : length all ≤ 3 * l.size / 2 = omega (arith, c.would_pass.ensures.no c.if-would_pass.false, length-append (words_in l.cache) c.args.items.now) in (
      subst (λ o. AreOwnBuffers tags (view_in o) all) (sym c.in-Some.is) (c.admit-may.ensures.yours may),
      refl,
      moved ∙ ap (λ k. drop k all) (sym (spilled_none l.size (3 * l.size / 2) (length all) few)),
      inl (few, view_later tags l.hand c.in-Some.cache_hand c.admit-may.new.cache_hand c.admit-may.new.cache_hand c.in-Some.is c.admit-may.ensures.same refl),
    )
