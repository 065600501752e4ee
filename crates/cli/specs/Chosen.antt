-- The number of workers of a run, if it is chosen by the processors
use Rattle.std.specs.Prelude.{◌≡◌, ℕ, zero, suc, ◌+◌, ◌≤◌, ◌⊎◌}
use Rattle.cli.specs.declared.workers.Workers.{Workers}
use Rattle.cli.specs.declared.workers.Workers.TheVariants.{Auto, Count}

-- the threads of a run: a reader and a sink beside the workers; without workers one does everything
abbrev pub threads_of : ℕ → ℕ
threads_of zero = 1
threads_of (suc n) = suc n + 2

-- at most two, and the most for which each thread has a processor. None always do
pub record IsChosen (processors workers : ℕ) : Type 0 where
  pub few : workers ≤ 2
  pub room : (workers ≡ 0) ⊎ (threads_of workers ≤ processors)
  pub most : (n : ℕ) → n ≤ 2 → threads_of n ≤ processors → n ≤ workers

-- the number that the command line gives; none with `auto`
abbrev pub given : Workers → ℕ
given Auto = 0
given (Count n) = n
