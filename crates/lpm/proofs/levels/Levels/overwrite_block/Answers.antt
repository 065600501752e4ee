use Rattle.std.proofs.Common.{◌+◌, List, sym, subst, inl, inr}
use Rattle.std.proofs.lemmas.Bool.{cases_Bool}
use Rattle.std.specs.Vec.{vec_capacity}
use Rattle.lpm.specs.TableEntry.{TableEntry}
use Rattle.lpm.specs.Allocated.{GroupsAreAllocated}
use Rattle.lpm.specs.FirstLevel.{entries_in}
use Rattle.lpm.specs.TwoLevels.{TwoLevels}
use Rattle.lpm.specs.contracts.levels.Levels.{the_view}
use Rattle.lpm.proofs.EntryOverwrites.{allocated_alike}
use Rattle.lpm.proofs.BlockOverwrites.{kinds_block, groups_block, keeps_block, block_written}
use Rattle.lpm.proofs.levels.Levels.overwrite_block.Goals as goal

pub invariant_of-self : goal.invariant_of-self
invariant_of-self c =
    let level = the_view c.self.inside in
    let after = entries_in c.overwrite_block.new.self in
    elim (cases_Bool c.overwrite_block.result) [
      | inl done ↦
          let wrote = c.overwrite_block.ensures.done done in
          let were = c.overwrite_block.ensures.plain done in
          allocated_alike level.first after c.overwrite_block.ensures.long
          (kinds_block level.first after c.args.first (c.args.first + 256) c.args.depth c.args.entry wrote were c.requires.plain)
          (groups_block level.first after c.args.first (c.args.first + 256) c.args.depth c.args.entry wrote were c.requires.plain)
          c.self.invariant
      | inr kept ↦
          subst (λ (es : List TableEntry). GroupsAreAllocated c.self.inside.bits c.self.inside.limit es c.self.inside.groups.items c.self.inside.free.items
          (vec_capacity c.self.inside.free)) (sym (c.overwrite_block.ensures.kept kept)) c.self.invariant
    ]

pub returns-clause-keeps : goal.returns-clause-keeps
returns-clause-keeps c done =
    let p : TwoLevels = the_view c.self.inside in
    let wrote = c.overwrite_block.ensures.done done in
    let were = c.overwrite_block.ensures.plain done in
    rw (← c.self.view_is) (keeps_block p (entries_in c.overwrite_block.new.self) c.args.first (c.args.first + 256) c.args.depth c.args.entry wrote were
    c.requires.plain c.overwrite_block.ensures.long)

pub returns-clause-overwrites : goal.returns-clause-overwrites
returns-clause-overwrites c done =
    let p : TwoLevels = the_view c.self.inside in
    let wrote = c.overwrite_block.ensures.done done in
    let were = c.overwrite_block.ensures.plain done in
    rw (← c.self.view_is) (block_written p (entries_in c.overwrite_block.new.self) c.args.first (c.args.first + 256) c.args.depth c.args.entry wrote were
    c.requires.plain)
