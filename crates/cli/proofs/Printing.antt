-- The replies to a file whose bytes are known, once they were printed
use Rattle.std.proofs.Common.{◌≡◌, ℕ, List, Option, None, Some, Result, Ok, Err, subst, true, false}
use Rattle.std.specs.Prelude.{IfSome, IsOk, OnOk}
use Rattle.std.specs.Io.KnownBytes.{Appends}

pub first_on_ok : {D F : Type 0} (P Q : Type 0) (r : Result D F) → OnOk r (P × Q) → OnOk r P
first_on_ok P Q (Ok x) both = both.0
first_on_ok P Q (Err e) both = tt

pub printed_of : {C D E F : Type 0} (told : Result C E) (answered : Result D F) (known : Option (List ℕ)) (bytes replies text : List ℕ)
    (old new : Option (List ℕ)) (P : List ℕ → List ℕ → Type 0) → OnOk told (IsOk answered) → OnOk answered (P bytes replies)
    → IfSome known (λ k. bytes ≡ k) → text ≡ replies → Appends old new text
    → OnOk told (IfSome known (λ k. (r : List ℕ) × P k r × Appends old new r))
printed_of (Err e) answered known bytes replies text old new P ok all are is printed = tt
printed_of (Ok x) (Err e) known bytes replies text old new P ok all are is printed =
    absurd (let e : false ≡ true = ok in cc)
printed_of (Ok x) (Ok y) None bytes replies text old new P ok all are is printed = tt
printed_of (Ok x) (Ok y) (Some k) bytes replies text old new P ok all are is printed =
    (replies, subst (λ (b : List ℕ). P b replies) are all, subst (Appends old new) is printed)
