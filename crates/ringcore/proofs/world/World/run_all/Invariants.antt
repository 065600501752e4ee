use Rattle.std.proofs.Common.{◌≡◌, ℕ, List, vec_len}
use Rattle.std.specs.VecDeque.{deque_len}
use Rattle.geom.specs.Fit.{AllFitAny}
use Rattle.ringcore_laws.specs.History.{Actor}
use Rattle.ringcore_laws.specs.Invariant.{Invariant}
use Rattle.ringcore.specs.Agree.{ListsAgree}
use Rattle.ringcore.specs.Runs.{ExistAll, RunsTo}
use Rattle.ringcore.proofs.world.World.run_all.Given as goal
use Rattle.ringcore.specs.Planned.{plans_of, world_rings}

abbrev pub invariant-loop-actor : goal.invariant-loop-actor
invariant-loop-actor l =
    ExistAll (vec_len l.self.members) (vec_len l.self.rings) l.rest.items
    × ((plans_of l.self) ≡ (plans_of l.fn.self))
    × ((pool : ℕ) (actors : List Actor) → AllFitAny (plans_of l.fn.self) pool → Invariant (plans_of l.fn.self) pool actors
    → ListsAgree (plans_of l.fn.self) pool (world_rings l.fn.self) l.fn.self.places.items l.fn.self.members.items actors
    → RunsTo (plans_of l.fn.self) pool actors l.fn.entries.items l.replies.items l.rest.items (world_rings l.self) l.self.places.items l.self.members.items)

abbrev pub decreases-loop-actor : goal.decreases-loop-actor
decreases-loop-actor l = deque_len l.rest
