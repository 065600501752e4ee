use Rattle.std.proofs.Common.{◌≡◌, ℕ, ◌-◌, ◌<◌, ◌++◌, Ok, Err, List, [], length, take, drop, reverse, ap, sym, subst, ◌∙◌, arith}
use Rattle.ringcore_laws.specs.FreeRings.{AreSingle}
use Rattle.ringcore_laws.specs.Sound.{occurrences_in}
use Rattle.fabric.specs.Hands.{view}
use Rattle.pool_laws.specs.Requests.{Refills}
use Rattle.pool_laws.specs.Caches.{cached_after_get, taken_by_get}
use Rattle.ringapi.proofs.Counts.{count_both}
use Rattle.pool_laws.proofs.Counts.{count_get}
use Rattle.pool_laws.proofs.Singles.{single_get}
use Rattle.pool_laws.proofs.Turned.{poured_back}
use Rattle.pool.proofs.bursts.fetch.Goals as goal

module _ {T : Type 0} (n m : ℕ) (cache taken : List T) (short : length cache < n) (is : m ≡ length cache) where
  cut : length cache - n ≡ 0
  cut = omega (arith, short)

  -- what is given
  served : (first items : List T) → first ≡ [] ++ reverse cache → items ≡ first ++ take (n - m) taken → items ≡ taken_by_get n cache taken
  served first items poured moved =
      moved
      ∙ ((λ i. poured i ++ take (n - is i) taken) ∙ ap (λ k. reverse (drop k cache) ++ take (n - length cache) taken) (sym cut))

  -- what is left
  left : (later : List T) → later ≡ drop (n - m) taken → later ≡ cached_after_get n cache taken
  left later rest =
      rest ∙ (ap (λ k. drop (n - k) taken) is ∙ ap (λ k. take k cache ++ drop (n - length cache) taken) (sym cut))

pub returns-in-Ok-clause-exact : goal.returns-in-Ok-clause-exact
returns-in-Ok-clause-exact g c plan there =
    let cache = c.args.cache.now in
    let taken = c.refill.new.into in
    let poured = c.move_tail_reversed.ensures.moved ∙ ap (λ l. l ++ reverse cache) c.requires.empty in (
      taken,
      subst (λ m. Refills g.T.Tagged.numbers g.row.N c.args.ring plan c.args.size (view c.args.hand) (c.args.n - m) (Ok c.in-Ok.hand) taken) c.len.ensures.value
          (c.in-Ok.ensures.exact plan there),
      (
        served c.args.n c.len.result cache taken c.requires.short c.len.ensures.value c.move_tail_reversed.new.to c.serve.new.to poured c.serve.ensures.moved,
        left c.args.n c.len.result cache taken c.requires.short c.len.ensures.value c.serve.new.from c.serve.ensures.left,
      ),
    )

pub returns-in-Ok-clause-own : goal.returns-in-Ok-clause-own
returns-in-Ok-clause-own g c own =
    let tags = g.T.Tagged.numbers in
    let n = c.args.n in
    let cache = c.args.cache.now in
    let taken = c.refill.new.into in
    let poured = c.move_tail_reversed.ensures.moved ∙ ap (λ l. l ++ reverse cache) c.requires.empty in
    let gives = served n c.len.result cache taken c.requires.short c.len.ensures.value c.move_tail_reversed.new.to c.serve.new.to poured c.serve.ensures.moved in
    let keeps = left n c.len.result cache taken c.requires.short c.len.ensures.value c.serve.new.from c.serve.ensures.left in
    let all : c.serve.new.to ++ c.serve.new.from ≡ taken_by_get n cache taken ++ cached_after_get n cache taken = λ i. gives i ++ keeps i in (
      (λ b. omega (
        arith,
        ap (λ l. occurrences_in tags b l) all,
        count_both tags b (taken_by_get n cache taken) (cached_after_get n cache taken),
        count_get tags b n cache taken,
        c.in-Ok.ensures.more b,
        own.0 b,
      )),
      subst (AreSingle tags) (sym all) (single_get tags n cache taken own.1 c.in-Ok.ensures.single),
    )

pub returns-in-Err-clause-exact : goal.returns-in-Err-clause-exact
returns-in-Err-clause-exact g c plan there =
    let cache = c.args.cache.now in
    let taken = c.refill.new.into in
    let poured = c.move_tail_reversed.ensures.moved ∙ ap (λ l. l ++ reverse cache) c.requires.empty in
    let first = c.move_tail_reversed.new.to in (
      taken,
      subst (λ m. Refills g.T.Tagged.numbers g.row.N c.args.ring plan c.args.size (view c.args.hand) (c.args.n - m) (Err c.in-Err.refused) taken)
          c.len.ensures.value
          (c.in-Err.ensures.exact plan there),
      (
        c.move_tail_reversed-in-Err.ensures.left,
        poured_back cache first c.move_tail_reversed-in-Err.new.to poured (c.move_tail_reversed-in-Err.ensures.moved ∙ ap (λ l. l ++ reverse first) (c.in-Err.ensures.back.1 ∙ c.move_tail_reversed.ensures.left)),
      ),
    )

pub returns-in-Err-clause-same : goal.returns-in-Err-clause-same
returns-in-Err-clause-same g c =
    let cache = c.args.cache.now in
    let poured = c.move_tail_reversed.ensures.moved ∙ ap (λ l. l ++ reverse cache) c.requires.empty in
    let first = c.move_tail_reversed.new.to in (
      c.in-Err.ensures.back.0,
      poured_back cache first c.move_tail_reversed-in-Err.new.to poured (c.move_tail_reversed-in-Err.ensures.moved ∙ ap (λ l. l ++ reverse first) (c.in-Err.ensures.back.1 ∙ c.move_tail_reversed.ensures.left)),
    )
