use Rattle.std.proofs.Common.{ℕ, ◌<◌, ◌≤◌, ◌^◌, arith}
use Rattle.std.proofs.Math.Nat.{pow-le-pow_right}
use Rattle.command_file.proofs.number.short_number.Goals as goal

-- a value with fewer than 19 digits
below : (i value : ℕ) → i < 19 → value < 10 ^ i → value < 10 ^ 18
below i value few small =
    let ten : 0 < 10 = omega arith in
    let order : i ≤ 18 = omega (arith, few) in
    let most : 10 ^ i ≤ 10 ^ 18 = pow-le-pow_right {n = 10} ten {i = i} {j = 18} order in
    omega (arith, most, small)

pub overflow_mul-value : goal.overflow_mul-value
overflow_mul-value c =
    let small = below c.loop-digit.digit-index c.loop-digit.value (omega (arith, c.requires, c.loop-digit-test.true)) c.loop-digit.invariant.2 in
    record { fits = omega (arith, small) }

pub overflow_add-value : goal.overflow_add-value
overflow_add-value c =
    let small = below c.loop-digit.digit-index c.loop-digit.value (omega (arith, c.requires, c.loop-digit-test.true)) c.loop-digit.invariant.2 in
    record { fits = omega (arith, small, c.from.ensures, (c.type_inv.word c.loop-digit.digit-index).fits) }
