use Rattle.std.proofs.Common.{◌≡◌, ◌+◌, ◌*◌, ◌/◌, ◌%◌, ◌<◌, ◌≤◌, List, length, get_or, set, ap, sym, ◌∙◌, subst, arith}
use Rattle.std.proofs.lemmas.List.{get_or_default}
use Rattle.lpm.specs.TableEntry.{TableEntry, entry_of, is_group}
use Rattle.lpm.specs.Blocks.{entries_of, numbers_of}
use Rattle.lpm.specs.Overwrite.{AreNoGroups, OverwritesFrom}
use Rattle.lpm.proofs.Blocks.{in_level, numbers_length, entries_length, are_filled, overwrites_filled, overwrites_deeper_block, no_groups}
use Rattle.lpm.proofs.first_level.blocks.Blocks.overwrite_block.Goals as goal

pub index-requires : goal.index-requires
index-requires c = omega (arith, in_level c.self.invariant c.args.first _ c.self.view_is (omega (arith, c.requires)))

pub overflow_cast-first : goal.overflow_cast-first
overflow_cast-first c =
    omega (arith, in_level c.self.invariant c.args.first _ c.self.view_is (omega (arith, c.requires)), c.self.invariant.numbered.few, numbers_length c.self.inside.offsets.items)

pub index-old-requires : goal.index-old-requires
index-old-requires c =
    omega (arith, in_level c.self.invariant c.args.first _ c.self.view_is (omega (arith, c.requires)), c.self.invariant.each)

pub returns-then-depth-clause-done : goal.returns-then-depth-clause-done
returns-then-depth-clause-done c =
    let offsets = c.self.inside.offsets.items in
    let uniform = c.self.inside.uniform.items in
    let block = c.args.first / 256 in
    let there : block < length offsets = omega (arith, in_level c.self.invariant c.args.first _ c.self.view_is (omega (arith, c.requires))) in
    let begins : block * 256 ≡ c.args.first = omega (arith, c.if-first-ne0.false) in
    let read : c.index.result.now ≡ get_or offsets block 0 = c.index.ensures ∙ get_or_default offsets block _ 0 there in
    let shared : (get_or offsets block 0 + block * 256) % 4294967296 ≡ 0 = omega (arith, read, c.if-index-first-ne0.false) in
    let old : c.index-old.result.now ≡ get_or uniform block (entry_of 0 0) = c.index-old.ensures
    ∙ get_or_default uniform block _ (entry_of 0 0) (omega (arith, c.self.invariant.each)) in
    let deep : c.args.depth < (get_or uniform block (entry_of 0 0)).depth = omega (arith, ap (λ (e : TableEntry). e.depth) old, c.depth.ensures, c.if-depth.true) in
    λ done.
    subst (λ (es : List TableEntry). OverwritesFrom es es c.args.first (c.args.first + 256) c.args.depth c.args.entry) c.self.view_is
    (subst (λ n. OverwritesFrom (entries_of (numbers_of offsets) uniform c.self.inside.places.items) (entries_of (numbers_of offsets) uniform c.self.inside.places.items) n (n + 256) c.args.depth c.args.entry)
    begins (overwrites_deeper_block block there shared c.self.invariant c.args.depth c.args.entry deep))

pub returns-then-depth-clause-plain : goal.returns-then-depth-clause-plain
returns-then-depth-clause-plain c =
    let offsets = c.self.inside.offsets.items in
    let uniform = c.self.inside.uniform.items in
    let block = c.args.first / 256 in
    let there : block < length offsets = omega (arith, in_level c.self.invariant c.args.first _ c.self.view_is (omega (arith, c.requires))) in
    let begins : block * 256 ≡ c.args.first = omega (arith, c.if-first-ne0.false) in
    let read : c.index.result.now ≡ get_or offsets block 0 = c.index.ensures ∙ get_or_default offsets block _ 0 there in
    let shared : (get_or offsets block 0 + block * 256) % 4294967296 ≡ 0 = omega (arith, read, c.if-index-first-ne0.false) in
    let old : c.index-old.result.now ≡ get_or uniform block (entry_of 0 0) = c.index-old.ensures
    ∙ get_or_default uniform block _ (entry_of 0 0) (omega (arith, c.self.invariant.each)) in
    λ done.
    subst (λ (es : List TableEntry). AreNoGroups es c.args.first (c.args.first + 256)) c.self.view_is
    (subst (λ n. AreNoGroups (entries_of (numbers_of offsets) uniform c.self.inside.places.items) n (n + 256)) begins
    (no_groups block there shared c.self.invariant c.args.depth c.args.entry (ap is_group (sym old) ∙ sym c.is_group.ensures ∙ c.if-is_group.false)))

pub index_mut-requires : goal.index_mut-requires
index_mut-requires c =
    omega (arith, in_level c.self.invariant c.args.first _ c.self.view_is (omega (arith, c.requires)), c.self.invariant.each)

pub invariant_of-self : goal.invariant_of-self
invariant_of-self c =
    let offsets = c.self.inside.offsets.items in
    let block = c.args.first / 256 in
    let there : block < length offsets = omega (arith, in_level c.self.invariant c.args.first _ c.self.view_is (omega (arith, c.requires))) in
    let begins : block * 256 ≡ c.args.first = omega (arith, c.if-first-ne0.false) in
    let read : c.index.result.now ≡ get_or offsets block 0 = c.index.ensures ∙ get_or_default offsets block _ 0 there in
    let shared : (get_or offsets block 0 + block * 256) % 4294967296 ≡ 0 = omega (arith, read, c.if-index-first-ne0.false) in
    are_filled block there shared c.self.invariant c.args.depth c.args.entry

pub returns-clause-done : goal.returns-clause-done
returns-clause-done c =
    let offsets = c.self.inside.offsets.items in
    let uniform = c.self.inside.uniform.items in
    let block = c.args.first / 256 in
    let there : block < length offsets = omega (arith, in_level c.self.invariant c.args.first _ c.self.view_is (omega (arith, c.requires))) in
    let begins : block * 256 ≡ c.args.first = omega (arith, c.if-first-ne0.false) in
    let read : c.index.result.now ≡ get_or offsets block 0 = c.index.ensures ∙ get_or_default offsets block _ 0 there in
    let shared : (get_or offsets block 0 + block * 256) % 4294967296 ≡ 0 = omega (arith, read, c.if-index-first-ne0.false) in
    let old : c.index-old.result.now ≡ get_or uniform block (entry_of 0 0) = c.index-old.ensures
    ∙ get_or_default uniform block _ (entry_of 0 0) (omega (arith, c.self.invariant.each)) in
    let covered : (get_or uniform block (entry_of 0 0)).depth ≤ c.args.depth = omega (arith, ap (λ (e : TableEntry). e.depth) old, c.depth.ensures, c.if-depth.false) in
    let after = entries_of (numbers_of offsets) (set uniform block c.args.entry) c.self.inside.places.items in
    λ done.
    subst (λ (es : List TableEntry). OverwritesFrom es after c.args.first (c.args.first + 256) c.args.depth c.args.entry) c.self.view_is
    (subst (λ n. OverwritesFrom (entries_of (numbers_of offsets) uniform c.self.inside.places.items) after n (n + 256) c.args.depth c.args.entry)
    begins (overwrites_filled block there shared c.self.invariant c.args.depth c.args.entry covered))

pub returns-clause-plain : goal.returns-clause-plain
returns-clause-plain c =
    let offsets = c.self.inside.offsets.items in
    let uniform = c.self.inside.uniform.items in
    let block = c.args.first / 256 in
    let there : block < length offsets = omega (arith, in_level c.self.invariant c.args.first _ c.self.view_is (omega (arith, c.requires))) in
    let begins : block * 256 ≡ c.args.first = omega (arith, c.if-first-ne0.false) in
    let read : c.index.result.now ≡ get_or offsets block 0 = c.index.ensures ∙ get_or_default offsets block _ 0 there in
    let shared : (get_or offsets block 0 + block * 256) % 4294967296 ≡ 0 = omega (arith, read, c.if-index-first-ne0.false) in
    let old : c.index-old.result.now ≡ get_or uniform block (entry_of 0 0) = c.index-old.ensures
    ∙ get_or_default uniform block _ (entry_of 0 0) (omega (arith, c.self.invariant.each)) in
    λ done.
    subst (λ (es : List TableEntry). AreNoGroups es c.args.first (c.args.first + 256)) c.self.view_is
    (subst (λ n. AreNoGroups (entries_of (numbers_of offsets) uniform c.self.inside.places.items) n (n + 256)) begins
    (no_groups block there shared c.self.invariant c.args.depth c.args.entry (ap is_group (sym old) ∙ sym c.is_group.ensures ∙ c.if-is_group.false)))

pub returns-clause-long : goal.returns-clause-long
returns-clause-long c =
    let offsets = c.self.inside.offsets.items in
    let uniform = c.self.inside.uniform.items in
    entries_length (numbers_of offsets) (set uniform (c.args.first / 256) c.args.entry) c.self.inside.places.items
    ∙ sym (entries_length (numbers_of offsets) uniform c.self.inside.places.items)
    ∙ ap length c.self.view_is
