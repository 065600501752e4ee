use Rattle.std.proofs.Common.{◌≡◌, ◌+◌, ◌*◌, ◌/◌, ◌%◌, ◌<◌, ℕ, bit_and, refl, arith}
use Rattle.std.proofs.lemmas.Grind.{and_numeral}
use Rattle.ipv4.proofs.Sums.{reduced_to}
use Rattle.ipv4.specs.Checksum.{reduced}
use Rattle.ipv4.proofs.checksum.carried.Goals as goal

low : (n : ℕ) → bit_and n 65535 ≡ n % 65536
low n = and_numeral n 65534 (omega arith)

-- 0, 1 or 2 is carried out of 16 bits the first time, 0 or 1 the second
carries : (n low middle high once twice : ℕ) → n ≡ low + 65536 * middle + 4294967296 * high → low < 65536 → middle < 65536 → high < 16
    → once ≡ low + middle + high → twice ≡ once % 65536 + once / 65536
    → twice % 65536 + twice / 65536 ≡ reduced n
carries n low middle high once twice e a b d o t =
    reduced_to n _ (middle + 65537 * high + once / 65536 + twice / 65536) (omega arith) (omega arith) (λ zero_sum. omega arith)

pub returns : goal.returns
returns c =
    let n = c.args.total in
    let h = c.requires in
    let once = n % 65536 + n / 65536 % 65536 + n / 4294967296 in
    let twice = once % 65536 + once / 65536 in
    simp low (carries n (n % 65536) (n / 65536 % 65536) (n / 4294967296) once twice (omega arith) (omega arith) (omega arith) (omega arith) refl refl)
