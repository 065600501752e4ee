use Rattle.stages.proofs.Alike.{same_all, same_ports, same_summary}
use Rattle.stages.proofs.laws.workers_change_nothing.Goals as goal

pub returns-clause-summary : goal.returns-clause-summary
returns-clause-summary g c settings bytes writers one many a b r s = same_summary g.W.Write.contents settings bytes writers one many a b r s

pub returns-clause-ports : goal.returns-clause-ports
returns-clause-ports g c settings bytes writers one many a b r s = same_ports g.W.Write.contents settings bytes writers one many a b r s

pub returns-clause-all : goal.returns-clause-all
returns-clause-all g c settings bytes writers one many a b r s = same_all g.W.Write.contents settings bytes writers one many a b r s
