use Rattle.std.proofs.Common.{◌≡◌, ◌+◌, ◌-◌, ◌*◌, ◌%◌, ◌<◌, List, ◌++◌, length, get_or, replicate, take, set, sym, ap, ◌∙◌, subst, arith}
use Rattle.std.proofs.lemmas.List.{take_all, get_or_default}
use Rattle.std.specs.Vec.{vec_capacity, vec_len}
use Rattle.lpm.specs.TableEntry.{TableEntry, entry_of}
use Rattle.lpm.specs.Blocks.{numbers_of, entries_of, AreBlocks}
use Rattle.lpm.proofs.Blocks.{numbers_length, room_left, place_small, same_opened, are_opened, there_uniform}
use Rattle.lpm.proofs.first_level.blocks.own_block.Goals as goal

pub overflow_mul-start : goal.overflow_mul-start
overflow_mul-start c = omega (arith, c.requires.there, c.requires.are.numbered.few, numbers_length c.args.offsets.now.items)

pub overflow_cast-start : goal.overflow_cast-start
overflow_cast-start c = omega (arith, c.requires.there, c.requires.are.numbered.few, numbers_length c.args.offsets.now.items)

pub unreachable-requires : goal.unreachable-requires
unreachable-requires c =
    let offsets = c.args.offsets.now.items in
    let there : c.args.block < length offsets = omega (arith, c.requires.there) in
    let read : c.index-offset.result.now ≡ get_or offsets c.args.block 0 =
    c.index-offset.ensures ∙ get_or_default offsets c.args.block _ 0 there in
    let shared : (get_or offsets c.args.block 0 + c.args.block * 256) % 4294967296 ≡ 0 = omega (arith, read) in
    omega (arith, c.in_default.ensures.full, room_left c.requires.are c.args.block there shared)

pub returns-clause-are : goal.returns-clause-are
returns-clause-are c =
    let offsets = c.args.offsets.now.items in
    let there : c.args.block < length offsets = omega (arith, c.requires.there) in
    let read : c.index-offset.result.now ≡ get_or offsets c.args.block 0 =
    c.index-offset.ensures ∙ get_or_default offsets c.args.block _ 0 there in
    let shared : (get_or offsets c.args.block 0 + c.args.block * 256) % 4294967296 ≡ 0 = omega (arith, read) in
    let blocks = c.args.places.now.items in
    let whole : take (c.len-place.result + 256) blocks ≡ blocks = take_all (c.len-place.result + 256) blocks (omega arith) in
    let more : c.len-place.result + 256 - vec_len c.args.places.now ≡ 256 = omega arith in
    let u = c.index-entry.result.now in
    let items : c.resize.new.self.items ≡ blocks ++ replicate 256 u = c.in-Ok.ensures.items
    ∙ ap (λ (es : List TableEntry). es ++ replicate (c.len-place.result + 256 - vec_len c.args.places.now) u) whole
    ∙ ap (λ n. blocks ++ replicate n u) more in
    let few : c.args.block < 65536 = omega (arith, c.requires.are.numbered.few, numbers_length offsets) in
    let small = place_small c.requires.are c.args.block there shared in
    let next : ((c.len-place.result + (4294967296 - c.args.block * 256)) % 4294967296 + c.args.block * 256) % 4294967296 ≡ length blocks
    = omega arith in
    let moved = set offsets c.args.block ((c.len-place.result + (4294967296 - c.args.block * 256)) % 4294967296) in
    subst (λ (e : TableEntry). AreBlocks moved (set c.args.uniform.now.items c.args.block e) c.resize.new.self.items (vec_capacity c.resize.new.self))
    (sym c.none.ensures)
    (subst (λ (es : List TableEntry). AreBlocks moved (set c.args.uniform.now.items c.args.block (entry_of 0 0)) es (vec_capacity c.resize.new.self))
    (sym items)
    (are_opened c.requires.are c.args.block there shared _ next (vec_capacity c.resize.new.self) (omega (arith, c.resize.ensures.capacity)) u))

pub returns-clause-same : goal.returns-clause-same
returns-clause-same c =
    let offsets = c.args.offsets.now.items in
    let there : c.args.block < length offsets = omega (arith, c.requires.there) in
    let read : c.index-offset.result.now ≡ get_or offsets c.args.block 0 =
    c.index-offset.ensures ∙ get_or_default offsets c.args.block _ 0 there in
    let shared : (get_or offsets c.args.block 0 + c.args.block * 256) % 4294967296 ≡ 0 = omega (arith, read) in
    let blocks = c.args.places.now.items in
    let whole : take (c.len-place.result + 256) blocks ≡ blocks = take_all (c.len-place.result + 256) blocks (omega arith) in
    let more : c.len-place.result + 256 - vec_len c.args.places.now ≡ 256 = omega arith in
    let u = c.index-entry.result.now in
    let items : c.resize.new.self.items ≡ blocks ++ replicate 256 u = c.in-Ok.ensures.items
    ∙ ap (λ (es : List TableEntry). es ++ replicate (c.len-place.result + 256 - vec_len c.args.places.now) u) whole
    ∙ ap (λ n. blocks ++ replicate n u) more in
    let few : c.args.block < 65536 = omega (arith, c.requires.are.numbered.few, numbers_length offsets) in
    let small = place_small c.requires.are c.args.block there shared in
    let next : ((c.len-place.result + (4294967296 - c.args.block * 256)) % 4294967296 + c.args.block * 256) % 4294967296 ≡ length blocks
    = omega arith in
    let moved = set offsets c.args.block ((c.len-place.result + (4294967296 - c.args.block * 256)) % 4294967296) in
    let uniform = c.args.uniform.now.items in
    let at : u ≡ get_or uniform c.args.block (entry_of 0 0) = c.index-entry.ensures
    ∙ get_or_default uniform c.args.block _ (entry_of 0 0) (there_uniform c.requires.are c.args.block there shared) in
    ap (λ (e : TableEntry). entries_of (numbers_of moved) (set uniform c.args.block e) c.resize.new.self.items) c.none.ensures
    ∙ ap (entries_of (numbers_of moved) (set uniform c.args.block (entry_of 0 0))) items
    ∙ same_opened c.requires.are c.args.block there shared _ next (vec_capacity c.resize.new.self) (omega (arith, c.resize.ensures.capacity)) u at
    (λ zero. c.is_none-none.ensures.none (c.is_none-none.ensures.value ∙ zero))

pub returns-clause-own : goal.returns-clause-own
returns-clause-own c =
    let offsets = c.args.offsets.now.items in
    let there : c.args.block < length offsets = omega (arith, c.requires.there) in
    let read : c.index-offset.result.now ≡ get_or offsets c.args.block 0 =
    c.index-offset.ensures ∙ get_or_default offsets c.args.block _ 0 there in
    let shared : (get_or offsets c.args.block 0 + c.args.block * 256) % 4294967296 ≡ 0 = omega (arith, read) in
    let few : c.args.block < 65536 = omega (arith, c.requires.are.numbered.few, numbers_length offsets) in
    omega (arith, place_small c.requires.are c.args.block there shared, c.requires.are.numbered.made)
