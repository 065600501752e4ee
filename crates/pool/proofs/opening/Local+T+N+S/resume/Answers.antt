use Rattle.std.proofs.Common.{◌≡◌, true, false, refl, rules}
use Rattle.pool.proofs.opening.Local+T+N+S.resume.Goals as goal

pub returns-then-not-may_be-clause-refused : goal.returns-then-not-may_be-clause-refused
returns-then-not-may_be-clause-refused g c =
    let none : c.may_be.result ≡ false = search rules in
    c.may_be.ensures.other none

pub over_list-requires : goal.over_list-requires
over_list-requires g c =
    let may : c.may_be.result ≡ true = search rules in
    let fits = c.may_be.ensures.fits may in
    (search rules, (c.requires.free, (c.new.ensures, (refl, (fits.0, (fits.1, fits.1))))))
