-- A step on the list of what was published keeps its rule, which any list does.
use Rattle.std.proofs.Common.{◌≡◌, ℕ, ◌==◌, ap}
use mathlib.Core.Option.{some, some-injective}
use prog.Atomic.{either}
use Rattle.atomic_table.specs.Table.{Me, Allows, keeps}
use Rattle.live_value.specs.declared.past.Past.{Past}
use Rattle.live_value.specs.Pasts.{followed}

pub any_past : {T : Type 0} (slots id : ℕ) (me : Me T (Past T)) (x : T)
    → Allows (λ _. Unit {0}) slots id me 0 (λ n. either (n == 0) 0 n) (λ n w. (y : T) → some x ≡ some y
    → w ≡ (followed me.0 y, me.1))
any_past slots id me x s h len at lt =
    (followed me.0 x, keeps, tt, tt, λ y said. ap (λ z. (followed me.0 z, me.1)) (some-injective _ _ said))
