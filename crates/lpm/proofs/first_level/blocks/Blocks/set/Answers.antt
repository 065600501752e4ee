use Rattle.std.proofs.Common.{◌+◌, ◌*◌, ◌/◌, ◌%◌, List, set, ap, ◌∙◌, arith}
use Rattle.lpm.specs.TableEntry.{TableEntry}
use Rattle.lpm.proofs.Blocks.{in_level, place_is, place_fits, entries_written, numbers_length}
use Rattle.lpm.proofs.first_level.blocks.Blocks.set.Goals as goal

pub own_block-offset-requires-clause-there : goal.own_block-offset-requires-clause-there
own_block-offset-requires-clause-there c = omega (arith, in_level c.self.invariant c.args.first _ c.self.view_is c.requires)

pub overflow_cast-first : goal.overflow_cast-first
overflow_cast-first c =
    omega (arith, in_level c.self.invariant c.args.first _ c.self.view_is c.requires, c.self.invariant.numbered.few, numbers_length c.self.inside.offsets.items)

-- the place of the entry in the blocks, once its block has its own
pub index_mut-requires : goal.index_mut-requires
index_mut-requires c =
    let are = c.own_block-offset.ensures.are in
    let fits = in_level are c.args.first _ (c.own_block-offset.ensures.same ∙ c.self.view_is) c.requires in
    omega (arith, c.own_block-offset.ensures.offset, place_is are c.args.first fits, place_fits are.numbered c.args.first)

pub returns : goal.returns
returns c =
    let are = c.own_block-offset.ensures.are in
    let same = c.own_block-offset.ensures.same ∙ c.self.view_is in
    let fits = in_level are c.args.first _ same c.requires in
    let known = c.own_block-offset.ensures.offset in
    let at = ap (λ o. (o + c.args.first) % 4294967296) known ∙ place_is are c.args.first fits in
    let own = ap (λ o. (o + c.args.first / 256 * 256) % 4294967296) known in
    entries_written are c.args.first ((c.own_block-offset.result + c.args.first) % 4294967296) fits at
    (omega (arith, own, c.own_block-offset.ensures.own)) c.args.entry
    (λ zero. c.is_none-none.ensures.none (c.is_none-none.ensures.value ∙ zero))
    ∙ ap (λ (es : List TableEntry). set es c.args.first c.args.entry) same
