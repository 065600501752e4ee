use Rattle.std.proofs.Common.{[], ◌-◌, ◌∷◌, length, ap, arith}
use Rattle.std.proofs.lemmas.List.{length-append}
use Rattle.pool_laws.proofs.Kept.{are_kept, less_kept}
use Rattle.pool_laws.proofs.Turned.{last_kept, last_turned}
use Rattle.pool.proofs.bursts.BurstGives.give.Goals as goal

pub restore_one-requires : goal.restore_one-requires
restore_one-requires g c =
    let cache = c.args.self.now in
    let item = c.in-Some.item in
    record {
      kept = are_kept g.T.Tagged.numbers c.args.cache_hand.now (length cache - 1) cache (item ∷ []) c.requires.kept
          (last_turned cache c.pop.new.self item c.in-Some.ensures.items);
    }

pub push-requires : goal.push-requires
push-requires g c =
    omega (
      arith,
      ap length c.requires.empty,
      c.len.ensures.value,
      c.len.ensures.fits,
      ap length c.in-Some.ensures.items,
      length-append c.pop.new.self (c.in-Some.item ∷ []),
    )

pub returns-in-Some-clause-kept : goal.returns-in-Some-clause-kept
returns-in-Some-clause-kept g c =
    let cache = c.args.self.now in
    let item = c.in-Some.item in
    less_kept g.T.Tagged.numbers c.args.cache_hand.now c.restore_one.new.self (length cache - 1) cache (item ∷ []) c.pop.new.self c.restore_one.ensures.same
    c.requires.kept (last_turned cache c.pop.new.self item c.in-Some.ensures.items) (last_kept cache c.pop.new.self item c.in-Some.ensures.items)
    c.restore_one.ensures.back
