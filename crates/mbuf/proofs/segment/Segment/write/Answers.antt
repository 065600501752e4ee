use Rattle.std.proofs.Common.{arith, refl, ap, ◌∙◌, length}
use Rattle.mbuf.specs.Buffer.{Buffer, written}
use Rattle.mbuf.proofs.Windows.{length_window, window_write, same_buffer}
use Rattle.mbuf.proofs.segment.Segment.write.Goals as goal

pub returns-clause-done : goal.returns-clause-done
returns-clause-done c =
    let store = c.self.inside.store in
    let long = ap (λ (b : Buffer). length b.bytes) c.self.view_is in
    let window = length_window _ _ _ _ store.ok.0 c.self.invariant.0 in
    rw c.copy_from_slice.ensures.after (same_buffer _ _ _ _ _ _ _ _ refl
    (window_write _ c.self.inside.start c.self.inside.len c.args.at store.items c.args.bytes.now store.ok.0 c.self.invariant.0 (omega arith)) refl
    ∙ ap (written c.args.at c.args.bytes.now) c.self.view_is)
