-- The results of a function for each element, if some were read before.
use Rattle.std.proofs.Common.{List, ◌++◌, Result, Ok}
use Rattle.settings.specs.declared.fault.SettingsFault.{SettingsFault}
use Rattle.settings.specs.Faults.{◌>>=◌}

-- a list, followed by what is read
abbrev pub with_front : {B : Type 0} → List B → Result (List B) SettingsFault → Result (List B) SettingsFault
with_front front read = read >>= (λ ys. Ok (front ++ ys))
