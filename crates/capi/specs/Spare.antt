-- Why there is no hand for another thread
use Rattle.std.specs.Prelude.{◌≡◌, ◌⊎◌}
use Rattle.capi.specs.declared.rings.fault.Fault.{Fault}
use Rattle.capi.specs.declared.rings.fault.Fault.TheVariants as fault

-- other threads came first, no spare hand is left, or there was no memory
abbrev pub RefusesSpare : Fault → Type 0
RefusesSpare why = (why ≡ fault.Again) ⊎ ((why ≡ fault.Parts) ⊎ (why ≡ fault.Memory))
