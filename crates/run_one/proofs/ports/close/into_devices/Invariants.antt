use Rattle.std.proofs.Common.{◌≡◌}
use Rattle.std.specs.Prelude.{vec_capacity}
use Rattle.run_one.specs.Ports.{devices_of}
use Rattle.run_one.proofs.ports.close.into_devices.Given as goal

abbrev pub invariant-loop-writer : goal.invariant-loop-writer
invariant-loop-writer g l = record {
  so_far : l.spare.items ≡ devices_of l.yielded;
  room : vec_capacity l.spare ≡ vec_capacity l.fn.spare;
}
