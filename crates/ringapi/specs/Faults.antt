-- The numbers of refusals, and which of them a further try may change
use Rattle.std.specs.Prelude.{ℕ}
use Rattle.fabric.specs.Faults.{settle_number, start_number}
use Rattle.fabric.specs.declared.hand.SettleFault.TheVariants as settle
use Rattle.ringapi.specs.Views.{IsTransient}
use Rattle.ringapi.specs.declared.answers.Refusal.{Refusal}
use Rattle.ringapi.specs.declared.answers.Refusal.TheVariants.{Start, NotYours}

-- those of a start, followed by that of a settle
abbrev pub number_of : Refusal → ℕ
number_of (Start e) = start_number e
number_of NotYours = settle_number settle.NotYours

-- a refusal that makes a waiting call try again
abbrev pub IsTransientRefusal : Refusal → Type 0
IsTransientRefusal (Start e) = IsTransient e
IsTransientRefusal NotYours = ⊥
