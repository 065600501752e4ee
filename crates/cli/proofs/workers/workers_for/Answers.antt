use Rattle.cli.proofs.Choosing.{chosen_of}
use Rattle.cli.proofs.workers.workers_for.Goals as goal

pub returns : goal.returns
returns c = record { chosen = chosen_of c.args.processors c.saturating_sub.result c.min.result c.saturating_sub.ensures c.min.ensures }
