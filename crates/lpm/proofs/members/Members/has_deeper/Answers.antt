use Rattle.std.proofs.Common.{◌≡◌, ◌-◌, ◌*◌, ◌%◌, ◌^◌, ap, arith}
use Rattle.std.proofs.lemmas.Nat.{one_shl}
use Rattle.lpm.specs.declared.prefix.Prefix.{Prefix}
use Rattle.lpm.specs.Prefixes.{masked, size_of}
use Rattle.lpm.proofs.Cover.{prefix_within}
use Rattle.lpm.proofs.Deeper.{deeper_found}
use Rattle.lpm.proofs.members.Members.has_deeper.Goals as goal

pub overflow_add-high : goal.overflow_add-high
overflow_add-high c =
    let within = prefix_within c.args.address c.args.bits c.ranges.address.fits (omega (arith, c.requires.most)) in
    let count = one_shl (32 - c.args.bits) 32 (omega (arith, c.requires.nonzero)) in
    let base = ap (λ (p : Prefix). p.address) c.of-base.ensures in
    omega arith

pub returns : goal.returns
returns c =
    let count : (1 * 2 ^ (32 - c.args.bits)) % 2 ^ 32 ≡ size_of c.args.bits = one_shl (32 - c.args.bits) 32
    (omega (arith, c.requires.nonzero)) in
    let base : c.of-base.result.address ≡ masked c.args.address c.args.bits = ap (λ (p : Prefix). p.address) c.of-base.ensures in
    deeper_found c.args.address c.args.bits c.args.self.now c.requires.members (omega (arith, c.requires.most)) c.has_between.result
    (rw (base, count) at c.has_between.ensures.found) (rw (base, count) at c.has_between.ensures.none)
