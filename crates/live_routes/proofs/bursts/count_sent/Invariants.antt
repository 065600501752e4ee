use Rattle.std.proofs.Common.{◌≡◌, ◌≤◌, take}
use Rattle.live_routes.specs.Frames.{sent_count}
use Rattle.live_routes.proofs.bursts.count_sent.Given as goal

abbrev pub invariant-loop-verdict : goal.invariant-loop-verdict
invariant-loop-verdict l = record {
  count : l.count ≡ sent_count (take l.verdict-index l.verdicts);
  most : l.count ≤ l.verdict-index;
}
