use Rattle.std.proofs.Common.{◌≡◌, length, take, ap, sym, subst, rules, arith}
use Rattle.std.proofs.lemmas.List.{length-take}
use Rattle.fabric.specs.Hands.{view}
use Rattle.fabric.specs.Settles.{AreOwnBuffers}
use Rattle.pool_laws.proofs.Requests.{first_own, left_own}
use Rattle.ringapi.specs.Holdings.{HasLess}
use Rattle.pool.specs.Stacks.{stacked}
use Rattle.pool.proofs.words.spill.Goals as goal

pub put_bulk-requires : goal.put_bulk-requires
put_bulk-requires g c =
    let tags = g.T.Tagged.numbers in
    let all = stacked c.args.cache.now in
    let first = c.as_slice.result.now in
    let is : first ≡ all = c.as_slice.ensures in
    let few = length-take c.args.spare first in (
      search rules,
      (
        c.requires.hand,
        (
          c.requires.free,
          (
            subst (λ l. AreOwnBuffers tags (view c.args.hand) (take c.args.spare l)) (sym is)
                (first_own tags (view c.args.hand) all c.args.spare c.requires.own),
            (
              omega (arith, few, ap length is, c.requires.nonzero, c.requires.at_most),
              omega (arith, few, ap length is, c.requires.fits),
            ),
          ),
        ),
      ),
    )

pub returns-in-Ok-clause-own : goal.returns-in-Ok-clause-own
returns-in-Ok-clause-own g c =
    let tags = g.T.Tagged.numbers in
    let h = c.in-Ok.hand in
    subst (AreOwnBuffers tags (view h)) (sym c.drop_first.ensures.left) (left_own tags (view c.args.hand) (view h) (stacked c.args.cache.now) c.args.spare
    c.requires.own (subst (λ l. HasLess tags (view c.args.hand).party (take c.args.spare l) (view h).party) c.as_slice.ensures c.in-Ok.ensures.less))
