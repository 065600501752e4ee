use Rattle.std.proofs.Common.{◌≡◌, ◌+◌, ◌≤◌, ◌++◌, vec_len}
use Rattle.std.specs.Prelude.{reverse, vec_capacity}
use Rattle.run_one.specs.Ports.{AreFresh, devices_of}
use Rattle.run_one.proofs.ports.open.open_all.Given as goal

abbrev pub decreases-loop-device : goal.decreases-loop-device
decreases-loop-device g l = vec_len l.devices

abbrev pub invariant-loop-device : goal.invariant-loop-device
invariant-loop-device g l = record {
  all : l.devices.items ++ reverse (devices_of l.writers.items) ≡ l.fn.devices.items;
  fresh : AreFresh g.W.Write.contents l.resolution l.writers.items;
  room : vec_len l.writers + vec_len l.devices ≤ vec_capacity l.writers;
  back : vec_len l.devices + vec_len l.writers ≤ vec_capacity l.devices;
}
