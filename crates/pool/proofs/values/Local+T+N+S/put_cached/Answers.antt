use Rattle.std.proofs.Common.{refl}
use Rattle.pool.proofs.values.Local+T+N+S.put_cached.Goals as goal

pub returns-in-Ok-clause-exact : goal.returns-in-Ok-clause-exact
returns-in-Ok-clause-exact g c =
    let told = c.in-Ok.ensures.exact in (told.0, told.1, refl, told.3)
