use Rattle.std.proofs.Common.{◌≡◌, ◌+◌, ◌≤◌, ◌-◌, ℕ, min, drop, arith, refl, ◌∙◌}
use Rattle.std.proofs.lemmas.List.{length-take, length-drop}
use Rattle.std.specs.Vec.{with_items_from}
use Rattle.pcapio.proofs.Lending.{same_buffer, part_of_row}
use Rattle.pcapio.proofs.read_buffer.ReadBuffer.lend.Goals as goal

pub returns : goal.returns
returns c =
    let a = c.args.self.now in
    let before = c.args.before in
    let n = c.args.count in
    let room : a.start + (before + n) ≤ a.end =
    omega (arith, a.ordered, c.requires, length-take {A = ℕ} (a.end - a.start) (drop a.start a.buffer.items), length-drop {A = ℕ} a.start a.buffer.items) in
    let there : a.start + before + n ≡ min (a.start + (before + n)) a.end = omega arith in (
      (refl, λ w. same_buffer _ _ (refl {a = with_items_from a.buffer (a.start + before) w}) there (refl {a = a.end})),
      record {
        writes_back = tt;
        value = c.slice_mut.ensures.value ∙ part_of_row a.buffer.items a.start a.end before n room;
      },
    )
