use Rattle.std.proofs.Common.{◌≡◌, ℕ, zero, suc, [], ◌-◌, ◌*◌, ◌/◌, ◌%◌, ◌^◌, ◌≤◌, ◌⊎◌, List, ◌++◌, length, get_or, replicate, take, refl, sym, ap, ◌∙◌, subst, inl, inr, arith}
use Rattle.std.proofs.lemmas.List.{length-replicate}
use Rattle.std.specs.Vec.{vec_capacity, vec_len}
use Rattle.lpm.specs.TableEntry.{TableEntry, entry_of}
use Rattle.lpm.specs.Blocks.{entries_of, numbers_of, AreNumbered}
use Rattle.lpm.proofs.Blocks.{entries_none, blocks_none, numbers_none, zero_at}
use Rattle.lpm.proofs.first_level.blocks.Blocks.new.Goals as goal

-- a first level has 64 blocks or 65,536
abbrev count_of : ℕ → ℕ
count_of bits = 1 * 2 ^ bits % 18446744073709551616 / 256

take_none : (n : ℕ) → take {A = TableEntry} n [] ≡ []
take_none zero = refl
take_none (suc n) = refl

less_none : (n : ℕ) → n - 0 ≡ n
less_none n = omega arith

few : (bits : ℕ) → (bits ≡ 16) ⊎ (bits ≡ 24) → count_of bits ≤ 65536
few bits (inl narrow) = subst (λ n. count_of n ≤ 65536) (sym narrow) (omega arith)
few bits (inr wide) = subst (λ n. count_of n ≤ 65536) (sym wide) (omega arith)

all : (bits : ℕ) → (bits ≡ 16) ⊎ (bits ≡ 24) → 256 * count_of bits ≡ 2 ^ bits
all bits (inl narrow) = subst (λ n. 256 * count_of n ≡ 2 ^ n) (sym narrow) refl
all bits (inr wide) = subst (λ n. 256 * count_of n ≡ 2 ^ n) (sym wide) refl

pub invariant_of-result : goal.invariant_of-result
invariant_of-result c =
    let offsets = c.loop-block.offsets.items in
    let long : length offsets ≡ count_of c.args.bits = omega (arith, c.loop-block.invariant.0, c.loop-block.auto.block-end) in
    let numbers : numbers_of offsets ≡ replicate (count_of c.args.bits) 0 =
    numbers_none offsets (λ k h. c.loop-block.invariant.2 k (omega (arith, c.loop-block.invariant.0))) ∙ ap (λ n. replicate {A = ℕ} n 0) long in
    let blocks : c.resize-2.new.self.items ≡ replicate 256 (entry_of 0 0) = c.in_ok-resize-2.ensures.items
    ∙ ap (λ (es : List TableEntry). take 256 es ++ replicate (256 - vec_len c.in_ok-places.places) c.none-2.result) c.in_ok-places.ensures.items
    ∙ ap (λ n. replicate (256 - n) c.none-2.result) c.in_ok-places.ensures.len
    ∙ ap (replicate 256) c.none-2.ensures in
    let uniform : c.resize.new.self.items ≡ replicate (count_of c.args.bits) (entry_of 0 0) = c.in_ok-resize.ensures.items
    ∙ ap (λ (es : List TableEntry). take (count_of c.args.bits) es ++ replicate (count_of c.args.bits - vec_len c.in_ok-uniform.uniform) c.none.result)
    c.in_ok-uniform.ensures.items
    ∙ ap (λ (es : List TableEntry). es ++ replicate (count_of c.args.bits - vec_len c.in_ok-uniform.uniform) c.none.result) (take_none (count_of c.args.bits))
    ∙ ap (λ n. replicate (count_of c.args.bits - n) c.none.result) c.in_ok-uniform.ensures.len
    ∙ ap (λ n. replicate n c.none.result) (less_none (count_of c.args.bits))
    ∙ ap (replicate (count_of c.args.bits)) c.none.ensures in
    let cap = vec_capacity c.resize-2.new.self in
    record {
      numbered = subst (λ ns. AreNumbered ns c.resize-2.new.self.items cap) (sym numbers)
          (subst (λ (es : List TableEntry). AreNumbered (replicate (count_of c.args.bits) 0) es cap) (sym blocks)
          (blocks_none (count_of c.args.bits) cap (omega (arith, c.in_ok-places.ensures.exact, c.in_ok-resize-2.ensures.capacity))
          (few c.args.bits c.requires)));
      exact = λ k h. ap (λ n. n % 256) (c.loop-block.invariant.2 k (omega (arith, h, c.loop-block.invariant.0)));
      each = ap length uniform ∙ length-replicate (count_of c.args.bits) (entry_of 0 0) ∙ sym long;
      cleared = λ k own. absurd (omega (arith, own, ap (λ ns. get_or ns k 0) numbers, zero_at (count_of c.args.bits) k));
    }

pub returns : goal.returns
returns c =
    let offsets = c.loop-block.offsets.items in
    let long : length offsets ≡ count_of c.args.bits = omega (arith, c.loop-block.invariant.0, c.loop-block.auto.block-end) in
    let numbers : numbers_of offsets ≡ replicate (count_of c.args.bits) 0 =
    numbers_none offsets (λ k h. c.loop-block.invariant.2 k (omega (arith, c.loop-block.invariant.0))) ∙ ap (λ n. replicate {A = ℕ} n 0) long in
    let blocks : c.resize-2.new.self.items ≡ replicate 256 (entry_of 0 0) = c.in_ok-resize-2.ensures.items
    ∙ ap (λ (es : List TableEntry). take 256 es ++ replicate (256 - vec_len c.in_ok-places.places) c.none-2.result) c.in_ok-places.ensures.items
    ∙ ap (λ n. replicate (256 - n) c.none-2.result) c.in_ok-places.ensures.len
    ∙ ap (replicate 256) c.none-2.ensures in
    let uniform : c.resize.new.self.items ≡ replicate (count_of c.args.bits) (entry_of 0 0) = c.in_ok-resize.ensures.items
    ∙ ap (λ (es : List TableEntry). take (count_of c.args.bits) es ++ replicate (count_of c.args.bits - vec_len c.in_ok-uniform.uniform) c.none.result)
    c.in_ok-uniform.ensures.items
    ∙ ap (λ (es : List TableEntry). es ++ replicate (count_of c.args.bits - vec_len c.in_ok-uniform.uniform) c.none.result) (take_none (count_of c.args.bits))
    ∙ ap (λ n. replicate (count_of c.args.bits - n) c.none.result) c.in_ok-uniform.ensures.len
    ∙ ap (λ n. replicate n c.none.result) (less_none (count_of c.args.bits))
    ∙ ap (replicate (count_of c.args.bits)) c.none.ensures in
    ap (λ ns. entries_of ns c.resize.new.self.items c.resize-2.new.self.items) numbers
    ∙ ap (λ us. entries_of (replicate (count_of c.args.bits) 0) us c.resize-2.new.self.items) uniform
    ∙ ap (entries_of (replicate (count_of c.args.bits) 0) (replicate (count_of c.args.bits) (entry_of 0 0))) blocks
    ∙ entries_none (count_of c.args.bits)
    ∙ ap (λ n. replicate n (entry_of 0 0)) (all c.args.bits c.requires)
