use Rattle.std.proofs.Common.{refl}
use Rattle.pool.proofs.values.Local+T+N+S.get_cached.Goals as goal

pub returns-in-Err-clause-exact : goal.returns-in-Err-clause-exact
returns-in-Err-clause-exact g c =
    let told = c.in-Err.ensures.exact in (told.0, told.1, refl, told.3)
