use Rattle.std.proofs.Common.{◌≡◌, ◌%◌, ap, arith, ◌∙◌}
use Rattle.geom.specs.Extent.{Extent, slot_of}
use Rattle.geom.proofs.Powers.{slot_mask, mod_apart}
use Rattle.geom.proofs.geometry.Geometry.slot.Goals as goal

pub returns-clause-value : goal.returns-clause-value
returns-clause-value c =
    slot_mask c.self.inside.size c.args.position c.self.invariant.power ∙ ap (λ (e : Extent). slot_of e c.args.position) c.self.view_is

pub returns-clause-apart : goal.returns-clause-apart
returns-clause-apart c = λ other after near same.
    let size_is : c.self.inside.size ≡ c.args.self.size = ap (λ (e : Extent). e.size) c.self.view_is in
    let masked = slot_mask c.self.inside.size c.args.position c.self.invariant.power in
    let spare = c.self.invariant.spare in
    mod_apart c.args.self.size c.args.position other (omega arith) after near
    (same ∙ masked ∙ ap (λ n. c.args.position % n) size_is)
