use Rattle.std.proofs.Common.{◌≡◌, ℕ, ◌++◌, Ok, Err, List, [], length, drop, reverse, ap, sym, subst, ◌∙◌, rules, arith}
use Rattle.std.proofs.lemmas.List.{length-take, take-append-drop}
use Rattle.fabric.specs.Hands.{view}
use Rattle.fabric.specs.Settles.{AreOwnBuffers}
use Rattle.pool_laws.proofs.Requests.{first_own, left_own}
use Rattle.ringapi.specs.Holdings.{HasLess}
use Rattle.pool_laws.specs.Requests.{Spills}
use Rattle.pool_laws.proofs.Turned.{poured_behind}
use Rattle.pool.proofs.bursts.spill.Goals as goal

pub put_bulk-requires : goal.put_bulk-requires
put_bulk-requires g c =
    let tags = g.T.Tagged.numbers in
    let all = c.args.cache.now in
    let few = length-take c.args.spare all in (
      search rules,
      (
        c.requires.hand,
        (
          c.requires.free,
          (
            subst (AreOwnBuffers tags (view c.args.hand)) (sym c.move_tail_reversed.ensures.left)
                (first_own tags (view c.args.hand) all c.args.spare c.requires.own),
            (
              omega (arith, ap length c.move_tail_reversed.ensures.left, few, c.requires.nonzero, c.requires.at_most),
              omega (arith, ap length c.move_tail_reversed.ensures.left, few, c.requires.room),
            ),
          ),
        ),
      ),
    )

pub returns-in-Ok-clause-exact : goal.returns-in-Ok-clause-exact
returns-in-Ok-clause-exact g c plan there =
    subst (λ l. Spills g.T.Tagged.numbers g.row.N c.args.ring plan (view c.args.hand) l (Ok c.in-Ok.hand)) c.move_tail_reversed.ensures.left (c.in-Ok.ensures.exact plan there)

pub returns-in-Err-clause-exact : goal.returns-in-Err-clause-exact
returns-in-Err-clause-exact g c plan there =
    subst (λ l. Spills g.T.Tagged.numbers g.row.N c.args.ring plan (view c.args.hand) l (Err c.in-Err.hand)) c.move_tail_reversed.ensures.left
    (c.in-Err.ensures.exact plan there)

-- the others come back behind what the put left
back_behind : {T : Type 0} → (k : ℕ) (all front others later empty : List T) → empty ≡ [] → others ≡ empty ++ reverse (drop k all)
    → later ≡ front ++ reverse others → later ≡ front ++ drop k all
back_behind k all front others later empty none waits poured =
    poured_behind k all front others later (waits ∙ ap (λ l. l ++ reverse (drop k all)) none) poured

pub returns-in-Ok-clause-done : goal.returns-in-Ok-clause-done
returns-in-Ok-clause-done g c =
    let all = c.args.cache.now in
    back_behind c.args.spare all c.put_bulk.new.list c.move_tail_reversed.new.to c.move_tail_reversed-in-Ok.new.to c.args.others.now c.requires.empty c.move_tail_reversed.ensures.moved
    c.move_tail_reversed-in-Ok.ensures.moved ∙ ap (λ l. l ++ drop c.args.spare all) c.in-Ok.ensures.done

pub returns-in-Err-clause-back : goal.returns-in-Err-clause-back
returns-in-Err-clause-back g c =
    let all = c.args.cache.now in
    back_behind c.args.spare all c.put_bulk.new.list c.move_tail_reversed.new.to c.move_tail_reversed-in-Err.new.to c.args.others.now c.requires.empty c.move_tail_reversed.ensures.moved
    c.move_tail_reversed-in-Err.ensures.moved
    ∙ (ap (λ l. l ++ drop c.args.spare all) (c.in-Err.ensures.back ∙ c.move_tail_reversed.ensures.left) ∙ take-append-drop c.args.spare all)

pub returns-in-Ok-clause-own : goal.returns-in-Ok-clause-own
returns-in-Ok-clause-own g c =
    let tags = g.T.Tagged.numbers in
    let h = c.in-Ok.hand in
    subst (AreOwnBuffers tags (view h)) (sym (returns-in-Ok-clause-done g c)) (left_own tags (view c.args.hand) (view h) c.args.cache.now c.args.spare
    c.requires.own (subst (λ l. HasLess tags (view c.args.hand).party l (view h).party) c.move_tail_reversed.ensures.left c.in-Ok.ensures.less))
