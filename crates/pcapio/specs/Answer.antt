-- A fact for one result of a call that returns whether all bytes were there.
use Rattle.std.specs.Prelude.{◌≡◌, Bool, true, false, Result, IfOk}

abbrev pub OnAll : {E : Type 0} → Result Bool E → Type 0 → Type 0
OnAll answer P = IfOk answer (λ all. all ≡ true → P)

abbrev pub OnCut : {E : Type 0} → Result Bool E → Type 0 → Type 0
OnCut answer P = IfOk answer (λ all. all ≡ false → P)
