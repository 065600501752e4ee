use Rattle.std.proofs.Common.{◌≡◌, vec_len}
use Rattle.cli.proofs.run_answer.create_ports.Given as goal

abbrev pub invariant-loop-port : goal.invariant-loop-port
invariant-loop-port g l = vec_len l.ports ≡ l.port
