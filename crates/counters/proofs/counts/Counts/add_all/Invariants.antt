use Rattle.std.proofs.Common.{◌≡◌, ◌+◌, ◌<◌, ◌^◌, drop, length, fold, sum_by}
use Rattle.std.specs.List.{AllByRecursion}
use Rattle.counters.specs.Tally.{plus, records_of}
use Rattle.counters.proofs.counts.Counts.add_all.Given as goal

abbrev pub invariant-loop-counts : goal.invariant-loop-counts
invariant-loop-counts l = record {
  sums : fold plus l.self (drop l.counts-index l.list) ≡ fold plus l.initial.self l.list;
  ports : length l.self.sent ≡ length l.initial.self.sent;
  same : AllByRecursion (λ t. length t.sent ≡ length l.initial.self.sent) (drop l.counts-index l.list);
  fits : records_of l.self + sum_by records_of (drop l.counts-index l.list) < 2 ^ 64;
}
