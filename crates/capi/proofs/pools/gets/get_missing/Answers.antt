use Rattle.std.proofs.Common.{◌≡◌, ◌-◌, ◌++◌, ◌∙◌, [], arith, length, refl, rules, subst, sym}
use Rattle.pool.specs.Locals.{cache_of}
use Rattle.pool_laws.specs.Caches.{cached_after_get, taken_by_get}
use Rattle.capi.specs.PoolCalls.{RefusesGet}
use Rattle.capi.proofs.PoolCalls.{got_missing, missing_refused}
use Rattle.capi.proofs.pools.gets.get_missing.Goals as goal

pub returns-in-Ok-get_cached_into_slice-clause-exact :
    goal.returns-in-Ok-get_cached_into_slice-clause-exact
returns-in-Ok-get_cached_into_slice-clause-exact c =
    let l = c.args.local.now in
    let k = c.receive.new.local in
    let m = c.get_cached_into_slice.new.self in
    let n = length c.args.into.now in
    let rest = c.split_at_mut-front.result.1.now in
    let front = c.get_cached_into_slice.new.into in
    let same = c.in-Ok.ensures.same in
    let got = c.in-Ok-get_cached_into_slice.ensures in
    let long : length c.split_at_mut-front.result.0.now ≡ length (cache_of l) = search rules in
    let missing : length rest ≡ n - length (cache_of l) = omega (arith, c.split_at_mut-front.ensures.back_len, c.len.ensures) in
    let first : front ≡ taken_by_get (length (cache_of l)) (cache_of l) [] = got.exact.1 ∙ (λ i. taken_by_get (long i) (same.1 i) []) in
    let later : cache_of m ≡ cached_after_get (length (cache_of l)) (cache_of l) [] =
    got.exact.2 ∙ (λ i. cached_after_get (long i) (same.1 i) []) in (
      refl,
      (omega (arith, c.requires.short), c.requires.few),
      got_missing c.args.f.now l k m n c.in-Ok.field-0 rest c.receive.new.into front (front ++ c.receive.new.into) c.requires.short missing
          c.in-Ok.ensures.filled same got.same first later refl,
    )

pub returns-in-Err-clause-exact : goal.returns-in-Err-clause-exact
returns-in-Err-clause-exact c =
    let f = c.args.f.now in
    let l = c.args.local.now in
    let k = c.receive.new.local in
    let n = length c.args.into.now in
    let rest = c.split_at_mut-front.result.1.now in
    let missing : length rest ≡ n - length (cache_of l) = omega (arith, c.split_at_mut-front.ensures.back_len, c.len.ensures) in (
      search rules,
      record {
        ring = c.in-Err.ensures.same.0;
        cache = c.in-Err.ensures.same.1;
        kept = c.in-Err.ensures.kept;
      },
      subst (λ why. RefusesGet f l k n why) (sym c.fault_of.ensures)
          (missing_refused f l k k n (length rest) c.in-Err.why c.requires.short missing c.in-Err.ensures.refused),
    )
