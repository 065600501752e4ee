-- What a place owns
use Rattle.std.specs.Prelude.{Option, Some, None}
use base.Fml.{Fml, ftrue}

-- what is owned by way of its value, if there is one
abbrev pub owned : {U : Type 0} → (U → Fml) → Option U → Fml
owned own None = ftrue
owned own (Some u) = own u
