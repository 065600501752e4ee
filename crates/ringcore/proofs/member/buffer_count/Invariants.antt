use Rattle.std.proofs.Common.{◌≡◌, ◌<◌, ◌^◌, length, take}
use Rattle.std.specs.List.{flat_map}
use Rattle.ringcore_laws.specs.History.{tags}
use Rattle.ringcore.proofs.member.buffer_count.Given as goal

abbrev pub invariant-loop-k : goal.invariant-loop-k
invariant-loop-k l =
    length (flat_map tags (take l.k l.items)) < 2 ^ 64 → l.count ≡ length (flat_map tags (take l.k l.items))
