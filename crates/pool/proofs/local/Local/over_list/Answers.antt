use Rattle.std.proofs.Common.{ℕ, List, Err, subst}
use Rattle.std.specs.Prelude.{⊤}
use Rattle.fabric_laws.specs.declared.view.View.{View}
use Rattle.fabric.specs.Hands.{view}
use Rattle.pool_laws.specs.Calls.{PutsCached}
use Rattle.pool.specs.Locals.{cache_of}
use Rattle.pool.proofs.Opened.{refuses, view_made}
use Rattle.pool.proofs.local.Local.over_list.Goals as goal

pub returns-in-Err-clause-refused : goal.returns-in-Err-clause-refused
returns-in-Err-clause-refused g c =
    let tags = g.T.Tagged.numbers in
    let made = c.over-local.ensures.made in
    let l = c.over-local.result in
    let items = g.I.Items.items c.args.list.now in
    refuses _ ⊤ tags (view c.args.hand) c.args.size g.row.N items items (cache_of c.put_in_cache.new.self) c.in-Err.fault c.requires.small c.requires.fits
    (subst (λ (z : View g.row.T.Denot × ℕ × List g.row.T.Denot). PutsCached tags z.0 z.1 {X = ⊤} z.2 items (Err c.in-Err.fault) items (cache_of c.put_in_cache.new.self))
    (λ i. (view_made c.args.hand l.hand made.0 i, made.2 i, c.over-local.ensures.empty i)) c.in-Err.ensures.exact)
