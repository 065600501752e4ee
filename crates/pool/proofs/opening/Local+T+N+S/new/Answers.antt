use Rattle.std.proofs.Common.{◌≡◌, true, refl, rules}
use Rattle.pool.proofs.opening.Local+T+N+S.new.Goals as goal

pub over-requires : goal.over-requires
over-requires g c =
    let may : c.may_be.result ≡ true = search rules in
    let fits = c.may_be.ensures.fits may in
    (search rules, (c.requires.free, (c.new.ensures, (refl, (fits.0, (fits.1, fits.1))))))
