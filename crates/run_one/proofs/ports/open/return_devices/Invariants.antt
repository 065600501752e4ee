use Rattle.std.proofs.Common.{◌≡◌, ◌+◌, ◌≤◌, ◌++◌, vec_len}
use Rattle.std.specs.Prelude.{reverse, vec_capacity}
use Rattle.run_one.specs.Ports.{devices_of}
use Rattle.run_one.proofs.ports.open.return_devices.Given as goal

abbrev pub decreases-loop-writer : goal.decreases-loop-writer
decreases-loop-writer g l = vec_len l.writers

abbrev pub invariant-loop-writer : goal.invariant-loop-writer
invariant-loop-writer g l = record {
  all : l.devices.items ++ reverse (devices_of l.writers.items) ≡ l.fn.devices.items ++ reverse (devices_of l.fn.writers.items);
  room : vec_len l.devices + vec_len l.writers ≤ vec_capacity l.devices;
}
