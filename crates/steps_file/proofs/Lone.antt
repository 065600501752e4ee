-- An item of one buffer: a number has no sign in it, so it is the one part between signs
use Rattle.std.proofs.Common.{◌≡◌, ℕ, ◌^◌, ◌&&◌, ◌==◌, nat_lt, nat_le, [], ◌∷◌, length, Bool, true, false, Some, None, refl, ap, ◌∙◌, rules, arith}
use Rattle.std.specs.Prelude.{All, if◌then◌else◌}
use Rattle.std.proofs.lemmas.Bool.Decides.{nat_tests}
use Rattle.std.proofs.lemmas.List.Elements.{All-cons}
use Rattle.std.specs.List.{list_all}
use Rattle.std.proofs.lemmas.List.Splits.{slice_split_none}
use Rattle.ringcore_laws.specs.declared.contents.Item.TheVariants.{Buffers}
use Rattle.command_file.specs.Text.{Bytes, number_of, is_digits, is_digit, len_is_1_to, digits_value}
use Rattle.std.specs.Option.{option_map}
use Rattle.steps_file.specs.Forms.{buffers_of, signs_part, each_of, with_first}

no_sign : (digit : ℕ) → is_digit digit ≡ true → (digit == 43) ≡ false
no_sign digit here = grind (arith, nat_tests)

both : (a b : Bool) → (a && b) ≡ true → (a ≡ true) × (b ≡ true)
both true true here = (refl, refl)
both true false here = (refl, here)
both false b here = absurd (search rules)

no_signs : (digits : Bytes) → list_all is_digit digits ≡ true → All (λ b. (b == 43) ≡ false) digits
no_signs [] all = search rules
no_signs (digit ∷ digits) all = let parts = both (is_digit digit) (list_all is_digit digits) all in All-cons (λ b. (b == 43) ≡ false) digit digits
    (no_sign digit parts.0) (no_signs digits parts.1)

-- a test whose result is a number is passed
passed : (b : Bool) (m n : ℕ) → (if b then Some m else None) ≡ Some n → (b ≡ true) × (m ≡ n)
passed true m n here = (refl, search rules)
passed false m n here = absurd (search rules)

pub lone : (digits : Bytes) (n : ℕ) → number_of digits ≡ Some n → buffers_of digits ≡ Some (Buffers (n ∷ []))
lone digits n here =
    let told = passed (is_digits digits && nat_lt (digits_value digits) (2 ^ 64)) (digits_value digits) n here in
    let sized = both (is_digits digits) (nat_lt (digits_value digits) (2 ^ 64)) told.0 in
    let all = both (len_is_1_to 20 digits) (list_all is_digit digits) sized.0 in
    let one : signs_part digits ≡ digits ∷ [] = slice_split_none (λ b. b == 43) digits (no_signs digits all.1) in
    ap (λ parts. if nat_le (length parts) 64 then option_map Buffers (each_of number_of parts) else None) one
    ∙ ap (λ first. option_map Buffers (with_first first (Some []))) here
