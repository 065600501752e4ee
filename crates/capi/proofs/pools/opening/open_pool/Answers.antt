use Rattle.std.proofs.Common.{subst, sym}
use Rattle.fabric.specs.Making.{AreTagged, RefusesPlan, WordsMayStand}
use Rattle.capi.specs.PoolMembers.{numbers_of}
use Rattle.capi.proofs.PoolOpenings.{all_tagged}
use Rattle.capi.proofs.pools.opening.open_pool.Goals as goal

pub unreachable-requires-in-Err-BadTags : goal.unreachable-requires-in-Err-BadTags
unreachable-requires-in-Err-BadTags c =
    let n = c.args.n in
    let none = subst (λ e. RefusesPlan numbers_of (WordsMayStand c.in_ok-plans.plans.items n 4096) n c.in_ok-numbers.numbers.items e)
    c.in-Err-BadTags.field-0-is c.in-Err-BadTags.ensures.refused in
    none.2 (subst (λ xs. AreTagged numbers_of n xs) (sym c.in_ok-numbers.ensures.made) (all_tagged n))
