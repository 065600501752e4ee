use Rattle.stages.proofs.threads.item.tags.RingItemTagged.tags.Goals as goal

pub returns-in-Before-clause-distinct : goal.returns-in-Before-clause-distinct
returns-in-Before-clause-distinct g c = rw c.in-Before.is c.tags-in-Before.ensures.distinct

pub returns-in-After-clause-distinct : goal.returns-in-After-clause-distinct
returns-in-After-clause-distinct g c = rw c.in-After.is c.tags-in-After.ensures.distinct
