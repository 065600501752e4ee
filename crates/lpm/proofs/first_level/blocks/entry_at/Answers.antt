use Rattle.std.proofs.Common.{refl, sym, ◌∙◌, arith}
use Rattle.lpm.proofs.Blocks.{numbers_length, place_fits, in_level, place_is, entry_read, uniform_read}
use Rattle.lpm.proofs.first_level.blocks.entry_at.Goals as goal

pub bounds-offsets-block : goal.bounds-offsets-block
bounds-offsets-block c = omega (arith, in_level c.requires.are.1 c.args.first _ refl c.requires.there)

pub overflow_cast-entry : goal.overflow_cast-entry
overflow_cast-entry c =
    omega (arith, in_level c.requires.are.1 c.args.first _ refl c.requires.there, c.requires.are.1.numbered.few, numbers_length c.args.offsets.now)

pub bounds-places-offsets : goal.bounds-places-offsets
bounds-places-offsets c =
    let are = c.requires.are.1 in
    omega (arith, place_is are c.args.first (in_level are c.args.first _ refl c.requires.there), place_fits are.numbered c.args.first)

pub bounds-uniform-block : goal.bounds-uniform-block
bounds-uniform-block c =
    let are = c.requires.are.1 in
    omega (arith, in_level are c.args.first _ refl c.requires.there, are.each)

pub returns-then-is_none : goal.returns-then-is_none
returns-then-is_none c =
    let are = c.requires.are.1 in
    let fits = in_level are c.args.first _ refl c.requires.there in
    uniform_read are c.args.first _ c.index-places-offsets.result fits (place_is are c.args.first fits) c.index-places-offsets.is
    c.index-uniform-block.result c.index-uniform-block.is (sym c.is_none.ensures.value ∙ c.if-is_none.true)

pub returns-else-is_none : goal.returns-else-is_none
returns-else-is_none c =
    let are = c.requires.are.1 in
    let fits = in_level are c.args.first _ refl c.requires.there in
    entry_read are c.args.first _ c.index-places-offsets.result fits (place_is are c.args.first fits) c.index-places-offsets.is
    (sym c.is_none.ensures.value ∙ c.if-is_none.false)
