use Rattle.std.proofs.Common.{◌∙◌, Ok, Err, inr, refl, rules, subst, sym}
use Rattle.pool_laws.specs.Calls.{PutsCached}
use Rattle.pool.specs.Locals.{cache_of, cache_size, view_of}
use Rattle.ringapi.specs.Views.{by_bulk}
use Rattle.capi.specs.PoolMembers.{numbers_of}
use Rattle.capi.specs.PoolCalls.{RefusesPut}
use Rattle.capi.proofs.Attempts.{same_view, sent_later, then_kept, view_kept}
use Rattle.capi.proofs.pools.puts.put_numbers.Goals as goal

pub returns-in-Ok-send-clause-exact : goal.returns-in-Ok-send-clause-exact
returns-in-Ok-send-clause-exact c =
    let f = c.args.f.now in
    let l = c.args.local.now in
    let k = c.put_cached_from_slice.new.self in
    let m = c.send.new.local in
    let items = c.args.items.now in
    let full = c.in-Err-CacheFull.ensures in
    let reply = subst (λ e. PutsCached numbers_of (view_of l) (cache_size l) {X = Unit {0}} (cache_of l) items (Err e) items (cache_of k))
    c.in-Err-CacheFull.field-0-is full.exact in
    let put = c.in-Ok-send.ensures in
    let moved = c.in-Ok-send.field-0 in (
      refl,
      (search rules, search),
      reply.0,
      inr (record {
        passes = reply.1;
        cache = put.same.1 ∙ reply.3;
        ring = (put.same.0.0 ∙ full.same.0.0, put.same.0.1 ∙ full.same.0.1);
        moved = moved;
        sent = sent_later f by_bulk 0 l k m (cache_of l) items (Ok moved) (view_kept (view_of l) (view_of k) (same_view l k full.same.1)) reply.3 put.sent;
      }),
    )

pub returns-in-Err-send-clause-exact : goal.returns-in-Err-send-clause-exact
returns-in-Err-send-clause-exact c =
    let f = c.args.f.now in
    let l = c.args.local.now in
    let k = c.put_cached_from_slice.new.self in
    let m = c.send.new.local in
    let items = c.args.items.now in
    let full = c.in-Err-CacheFull.ensures in
    let reply = subst (λ e. PutsCached numbers_of (view_of l) (cache_size l) {X = Unit {0}} (cache_of l) items (Err e) items (cache_of k))
    c.in-Err-CacheFull.field-0-is full.exact in
    let put = c.in-Err-send.ensures in
    let why = c.in-Err-send.why in
    let first = view_kept (view_of l) (view_of k) (same_view l k full.same.1) in (
      record {
        ring = (put.same.0.0 ∙ full.same.0.0, put.same.0.1 ∙ full.same.0.1);
        cache = put.same.1 ∙ reply.3;
        kept = then_kept (view_of l) (view_of k) (view_of m) first put.kept;
      },
      subst (λ e. RefusesPut f l m items e) (sym c.refused.ensures)
          (inr (inr (reply.0, reply.1, why, refl, sent_later f by_bulk 0 l k m (cache_of l) items (Err why) first reply.3 put.sent))),
    )
