use Rattle.std.proofs.Common.{◌++◌, subst}
use Rattle.ringcore_laws.specs.FreeRings.{AreSingle}
use Rattle.fabric.specs.CacheHands.{view_of_cache_hand}
use Rattle.ringapi.proofs.Singles.{single_both}
use Rattle.pool.specs.Places.{ArePlaced}
use Rattle.pool.specs.WordStacks.{words_in}
use Rattle.pool.proofs.Asides.{own_after, owned_once}
use Rattle.pool.proofs.Placing.{placed_once}
use Rattle.pool.proofs.words.WordStackAcceptsWords.admit.Goals as goal

pub returns-clause-yours : goal.returns-clause-yours
returns-clause-yours g c may =
    let tags = g.T.Tagged.numbers in
    let k = c.args.cache_hand.now in
    let cache = words_in c.args.self.now in
    let items = c.args.list.now.words.now in
    let later = c.push_apart.new.self in
    let single : AreSingle tags (cache ++ items) = single_both tags cache items c.requires.own.1 (c.are_spare.ensures.single c.if-not-are_spare.false) in
    let placed : ArePlaced tags later.at.items (cache ++ items) = subst (ArePlaced tags later.at.items) (c.push_apart.ensures.pushed may) later.placed in (
      owned_once k cache items c.requires.kept c.requires.own.0 (c.are_spare.ensures.spare c.if-not-are_spare.false)
          (placed_once tags later.at.items (cache ++ items) placed single),
      single,
    )

pub returns-clause-own : goal.returns-clause-own
returns-clause-own g c =
    let tags = g.T.Tagged.numbers in
    let k = c.args.cache_hand.now in
    let cache = words_in c.args.self.now in
    own_after tags (view_of_cache_hand k).party c.push_apart.result (words_in c.push_apart.new.self) cache c.args.list.now.words.now c.push_apart.ensures.pushed c.push_apart.ensures.back
    (λ may. (returns-clause-yours g c may).0) c.requires.own.0
