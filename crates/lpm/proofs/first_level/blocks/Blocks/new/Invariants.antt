use Rattle.std.proofs.Common.{◌≡◌, ℕ, ◌+◌, ◌*◌, ◌%◌, ◌<◌, ◌≤◌, length, get_or, vec_capacity}
use Rattle.lpm.proofs.first_level.blocks.Blocks.new.Given as goal

abbrev pub invariant-loop-block : goal.invariant-loop-block
invariant-loop-block l =
    (length l.offsets.items ≡ l.block) × (l.count ≤ vec_capacity l.offsets)
    × ((c : ℕ) → c < l.block → (get_or l.offsets.items c 0 + c * 256) % 4294967296 ≡ 0)
