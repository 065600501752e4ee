use Rattle.std.proofs.Common.{◌≡◌, ◌++◌, ◌∙◌, Ok, Err, [], inr, rules, subst}
use Rattle.pool.specs.Locals.{cache_of, view_of}
use Rattle.ringapi.specs.Views.{by_bulk}
use Rattle.capi.specs.Tries.{Sent}
use Rattle.capi.proofs.Deals.{none_left, turned_back}
use Rattle.capi.proofs.Attempts.{same_view, sent_later, sent_same, then_kept, view_kept}
use Rattle.capi.proofs.pools.puts.flush_numbers.Goals as goal

pub returns-in-Ok-send-clause-exact : goal.returns-in-Ok-send-clause-exact
returns-in-Ok-send-clause-exact c =
    let f = c.args.f.now in
    let l = c.args.local.now in
    let k = c.get_cached_into_slice.new.self in
    let m = c.send.new.local in
    let got = c.in-Ok.ensures in
    let put = c.in-Ok-send.ensures in
    let items = c.reverse.new.self in
    let moved = c.in-Ok-send.field-0 in
    let none : cache_of k ≡ [] = none_left _ (cache_of l) (cache_of k) (search rules) got.exact.2 in
    let all : items ≡ cache_of l =
    c.reverse.ensures.after ∙ turned_back _ (cache_of l) c.get_cached_into_slice.new.into (search rules) got.exact.1 in (
      c.len-n.ensures,
      put.same.1 ∙ none,
      (put.same.0.0 ∙ got.same.0.0, put.same.0.1 ∙ got.same.0.1),
      inr (
        moved,
        subst (λ xs. Sent f by_bulk 0 [] xs l m (Ok moved)) all
            (sent_later f by_bulk 0 l k m [] items (Ok moved) (view_kept (view_of l) (view_of k) (same_view l k got.same.1)) none put.sent),
      ),
    )

pub returns-in-Ok-put_cached_from_slice-clause-exact :
    goal.returns-in-Ok-put_cached_from_slice-clause-exact
returns-in-Ok-put_cached_from_slice-clause-exact c =
    let f = c.args.f.now in
    let l = c.args.local.now in
    let k = c.get_cached_into_slice.new.self in
    let u = c.send.new.local in
    let m = c.put_cached_from_slice.new.self in
    let got = c.in-Ok.ensures in
    let put = c.in-Err-send.ensures in
    let back = c.in-Ok-put_cached_from_slice.ensures in
    let items = c.reverse.new.self in
    let why = c.in-Err-send.why in
    let none : cache_of k ≡ [] = none_left _ (cache_of l) (cache_of k) (search rules) got.exact.2 in
    let all : items ≡ cache_of l =
    c.reverse.ensures.after ∙ turned_back _ (cache_of l) c.get_cached_into_slice.new.into (search rules) got.exact.1 in
    let first = view_kept (view_of l) (view_of k) (same_view l k got.same.1) in
    let last = same_view u m back.same.1 in (
      record {
        ring = (back.same.0.0 ∙ (put.same.0.0 ∙ got.same.0.0), back.same.0.1 ∙ (put.same.0.1 ∙ got.same.0.1));
        cache = back.exact.3 ∙ ((λ i. (put.same.1 ∙ none) i ++ items) ∙ all);
        kept = then_kept (view_of l) (view_of u) (view_of m) (then_kept (view_of l) (view_of k) (view_of u) first put.kept)
            (view_kept (view_of u) (view_of m) last);
      },
      why,
      c.refused.ensures,
      sent_same f by_bulk 0 l u m [] (cache_of l) (Err why) last
          (subst (λ xs. Sent f by_bulk 0 [] xs l u (Err why)) all (sent_later f by_bulk 0 l k u [] items (Err why) first none put.sent)),
    )
