use Rattle.std.proofs.Common.{◌≡◌, ◌+◌, ◌-◌, ◌*◌, ◌/◌, ◌^◌, ap, ◌∙◌, arith}
use Rattle.std.proofs.lemmas.Nat.{shl-shr}
use Rattle.lpm.specs.FirstLevel.{entries_in}
use Rattle.lpm.specs.Allocated.{made_of}
use Rattle.lpm.specs.TwoLevels.{TwoLevels, used_of}
use Rattle.lpm.specs.Prefixes.{size_of}
use Rattle.lpm.proofs.levels.Levels.made.Goals as goal

pub returns : goal.returns
returns c =
    let whole : c.len.result ≡ made_of (entries_in c.self.inside.first) c.self.inside.free.items * size_of c.self.inside.bits = omega
    (arith, c.self.invariant.made) in
    ap (λ n. n / 2 ^ (32 - c.self.inside.bits)) whole
    ∙ shl-shr (made_of (entries_in c.self.inside.first) c.self.inside.free.items) (32 - c.self.inside.bits)
    ∙ ap (λ (p : TwoLevels). used_of p + p.free) c.self.view_is
