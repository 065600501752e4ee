-- What gets do after requests that the free ring refused
use Rattle.std.proofs.Common.{◌≡◌, ◌+◌, ◌-◌, ◌<◌, ◌++◌, ◌∙◌, ℕ, List, [], Option, Ok, Err, append-nil, arith, inl, inr, length, refl, sym, ap, subst}
use Rattle.std.proofs.lemmas.List.{drop_all, take_all}
use Rattle.fabric_laws.specs.declared.view.View.{View}
use Rattle.burst.specs.declared.tagged.Tagged.{Ghosts}
use Rattle.fabric.specs.declared.stored.Stored.{Ghosts as StoredGhosts}
use Rattle.fabric.specs.declared.hand.StartFault.{StartFault}
use Rattle.fabric.specs.declared.hand.StartFault.TheVariants.{Busy, Contended, NoRoom, Worn, BadCount}
use Rattle.fabric.specs.Settles.{AreOwnBuffers}
use Rattle.ringapi.specs.declared.answers.Moved.{Moved}
use Rattle.pool.specs.declared.local.Local.{Local}
use Rattle.pool.specs.declared.store.Store.{Ghosts as StoreGhosts}
use Rattle.pool_laws.specs.Caches.{cached_after_get, taken_by_get}
use Rattle.pool.specs.Locals.{HasSameHand, SameCache, SameRing, cache_of, view_of}
use Rattle.capi.specs.Codes.{Outcome}
use Rattle.capi.specs.PoolCalls.{Draws, Gets, HasDrawn, HasGot, IsAskedFor, IsLastAsked, RefusesGet}
use Rattle.capi.specs.declared.rings.fault.Fault.{Fault}
use Rattle.capi.specs.PoolMembers.{NumberRings, numbers_of}
use Rattle.capi.specs.Tries.{Filled, IsSame, Received}
use Rattle.capi.specs.Spans.{start_fault}
use Rattle.capi.specs.declared.pools.member.Number.{Number}
use Rattle.capi.proofs.Attempts.{all_filled, received_later, received_same, same_view, then_kept}
use Rattle.capi.proofs.Deals.{dealt, dealt_cache, dealt_own}
use Rattle.ringapi.specs.Views.{by_bulk}

module _ {G : Ghosts Number} {H : StoredGhosts (Option Number) Number} {C : Type 0} {K : StoreGhosts C Number} (f : NumberRings)
    (l k m : Local Number 4096 (Option Number) C G H K) where
  -- numbers that the free ring gave were dealt out
  pub drawn : (n asked : ℕ) (moved : Moved) (before taken got : List Number) → length before ≡ asked → Filled f by_bulk 0 before taken l k moved
      → SameRing l k × SameCache l k → SameRing k m × HasSameHand k m → got ≡ taken_by_get n (cache_of k) taken
      → cache_of m ≡ cached_after_get n (cache_of k) taken → AreOwnBuffers numbers_of (view_of m) (got ++ cache_of m)
      → HasDrawn f l m n asked got
  drawn n asked moved before taken got all filled same then given cached own = record {
    taken = taken;
    moved = moved;
    reply = subst (λ (a : ℕ). Received f by_bulk 0 a l m (Ok moved) taken) all
        (received_same f by_bulk 0 (length before) l k m (Ok moved) taken (same_view k m then.1)
        (all_filled f 0 before taken l k moved filled).1);
    given = given ∙ ap (λ (c : List Number). taken_by_get n c taken) same.1;
    cached = cached ∙ ap (λ (c : List Number). cached_after_get n c taken) same.1;
    own = own;
    ring = (then.0.0 ∙ same.0.0, then.0.1 ∙ same.0.1);
  }

  pub same_then : IsSame l k → IsSame k m → IsSame l m
  same_then first then = record {
    ring = (then.ring.0 ∙ first.ring.0, then.ring.1 ∙ first.ring.1);
    cache = then.cache ∙ first.cache;
    kept = then_kept (view_of l) (view_of k) (view_of m) first.kept then.kept;
  }

  -- a get after one that changed nothing
  module _ (first : IsSame l k) where
    asked_later : (n asked : ℕ) → IsAskedFor k n asked → IsAskedFor l n asked
    asked_later n asked (inl more) = inl (more ∙ (λ i. (n - length (first.cache i)) + first.ring.1 i))
    asked_later n asked (inr less) = inr (less ∙ ap (λ (c : List Number). n - length c) first.cache)

    last_later : (n asked : ℕ) (why : StartFault) → IsLastAsked k n asked why → IsLastAsked l n asked why
    last_later n asked (NoRoom left) is = is ∙ ap (λ (c : List Number). n - length c) first.cache
    last_later n asked (Busy word) is = asked_later n asked is
    last_later n asked (Contended word) is = asked_later n asked is
    last_later n asked Worn is = asked_later n asked is
    last_later n asked BadCount is = asked_later n asked is

    draws_later : (n : ℕ) (taken : List Number) → length (cache_of l) < n → Draws f k m n taken → Draws f l m n taken
    draws_later n taken short (inl cached) = absurd (omega (arith, cached.0, short, ap length first.cache))
    draws_later n taken short (inr x) =
        inr (short, x.1, asked_later n x.1 x.2, x.3, received_later f by_bulk 0 l k m x.1 (Ok x.3) taken first.kept x.4)

    refused_later : (n : ℕ) (why : Fault) → length (cache_of l) < n → RefusesGet f k m n why → RefusesGet f l m n why
    refused_later n why short (inl bad) = inl bad
    refused_later n why short (inr x) =
        inr (short, x.1, x.2, last_later n x.1 x.2 x.3, x.4, received_later f by_bulk 0 l k m x.1 (Err x.2) [] first.kept x.5)

    pub gets_later : (before array after : List Number) (outcome : Outcome) → array ≡ before → length (cache_of l) < length before
        → Gets f k m array after outcome → Gets f l m before after outcome
    gets_later before array after (Ok count) same short is = (
      is.0 ∙ ap length same,
      is.1,
      record {
        taken = is.2.taken;
        given = is.2.given ∙ ap (λ (c : List Number). taken_by_get count c is.2.taken) first.cache;
        cached = is.2.cached ∙ ap (λ (c : List Number). cached_after_get count c is.2.taken) first.cache;
        from = draws_later count is.2.taken (let long = ap length same in omega (arith, short, is.0, long)) is.2.from;
        own = is.2.own;
        ring = (is.2.ring.0 ∙ first.ring.0, is.2.ring.1 ∙ first.ring.1);
      },
    )
    gets_later before array after (Err why) same short is = (
      is.0 ∙ same,
      same_then first is.1,
      refused_later (length before) why short (subst (λ (xs : List Number). RefusesGet f k m (length xs) why) same is.2),
    )

  -- a get of those that the cache lacks, which the free ring put behind the cached ones
  pub got_missing : (n : ℕ) (moved : Moved) (before taken front got : List Number) → length (cache_of l) < n
      → length before ≡ n - length (cache_of l) → Filled f by_bulk 0 before taken l k moved → SameRing l k × SameCache l k
      → SameRing k m × HasSameHand k m → front ≡ taken_by_get (length (cache_of l)) (cache_of l) []
      → cache_of m ≡ cached_after_get (length (cache_of l)) (cache_of l) [] → got ≡ front ++ taken → HasGot f l m n got
  got_missing n moved before taken front got short missing filled same then first later all =
      let cache = cache_of l in
      let filled' = all_filled f 0 before taken l k moved filled in
      let long : length taken ≡ n - length cache = filled'.0 ∙ missing in
      let view : view_of m ≡ view_of k = same_view k m then.1 in
      let given : got ≡ taken_by_get n cache taken =
      all ∙ dealt n cache taken short front taken first (sym (take_all (n - length cache) taken (omega (arith, long)))) in
      let cached : cache_of m ≡ cached_after_get n cache taken =
      dealt_cache n cache taken short (cache_of m) (cache_of m) later
      (sym (ap (λ (xs : List Number). cache_of m ++ xs) (drop_all (n - length cache) taken (omega (arith, long))) ∙ append-nil (cache_of m))) in
      let own : AreOwnBuffers numbers_of (view_of m) (taken ++ cache) =
      subst (λ (v : View Number). AreOwnBuffers numbers_of v (taken ++ cache)) (sym view)
      (subst (λ (xs : List Number). AreOwnBuffers numbers_of (view_of k) (taken ++ xs)) same.1 filled'.2) in
      record {
        taken = taken;
        given = given;
        cached = cached;
        from = inr (
          short,
          length before,
          inr missing,
          moved,
          received_same f by_bulk 0 (length before) l k m (Ok moved) taken view filled'.1,
        );
        own = subst (λ (xs : List Number). AreOwnBuffers numbers_of (view_of m) xs) (λ i. sym given i ++ sym cached i)
            (dealt_own (view_of m) n cache taken own);
        ring = (then.0.0 ∙ same.0.0, then.0.1 ∙ same.0.1);
      }

  -- why such a get was refused
  pub missing_refused : (n asked : ℕ) (reason : StartFault) → length (cache_of l) < n → asked ≡ n - length (cache_of l)
      → Received f by_bulk 0 asked l k (Err reason) [] → RefusesGet f l k n (start_fault reason)
  missing_refused n asked reason short missing is = inr (short, asked, reason, last_asked reason, refl, is)
    where
      last_asked : (why : StartFault) → IsLastAsked l n asked why
      last_asked (NoRoom left) = missing
      last_asked (Busy word) = inr missing
      last_asked (Contended word) = inr missing
      last_asked Worn = inr missing
      last_asked BadCount = inr missing
