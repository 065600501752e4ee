-- The content of entries after a change.
use Rattle.std.proofs.Common.{◌≡◌, ℕ, ◌≤◌, ◌<◌, arith}
use Rattle.std.proofs.lemmas.Bool.Decides.{nat_tests}
use Rattle.lpm.specs.TableEntry.{TableEntry, overwritten}

pub overwritten-deeper : (d : ℕ) (new c : TableEntry) → d < c.depth → overwritten d new c ≡ c
unfolding overwritten
overwritten-deeper d new c h = grind (arith, nat_tests)

pub overwritten-covered : (d : ℕ) (new c : TableEntry) → c.depth ≤ d → overwritten d new c ≡ new
unfolding overwritten
overwritten-covered d new c h = grind (arith, nat_tests)
