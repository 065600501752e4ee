use Rattle.std.proofs.Common.{refl}
use Rattle.pool.proofs.values.Local+T+N+S.put.Goals as goal

pub returns-in-Ok-clause-exact : goal.returns-in-Ok-clause-exact
returns-in-Ok-clause-exact g c plan there =
    let told = c.in-Ok.ensures.exact plan there in (told.0, refl, told.2, told.3)
