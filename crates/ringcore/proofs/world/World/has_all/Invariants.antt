use Rattle.std.specs.Prelude.{drop, vec_len}
use Rattle.ringcore.specs.Runs.{ExistAll}
use Rattle.ringcore.proofs.world.World.has_all.Given as goal

-- all entries exist exactly if those that are left do
abbrev pub invariant-loop-k : goal.invariant-loop-k
invariant-loop-k l =
    (ExistAll (vec_len l.self.members) (vec_len l.self.rings) l.entries
    → ExistAll (vec_len l.self.members) (vec_len l.self.rings) (drop l.k l.entries))
    × (ExistAll (vec_len l.self.members) (vec_len l.self.rings) (drop l.k l.entries)
    → ExistAll (vec_len l.self.members) (vec_len l.self.rings) l.entries)
