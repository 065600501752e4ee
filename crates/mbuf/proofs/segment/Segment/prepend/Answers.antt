use Rattle.std.proofs.Common.{arith, refl, ap, ◌∙◌, length}
use Rattle.mbuf.specs.Buffer.{Buffer, prepended}
use Rattle.mbuf.proofs.Windows.{length_window, window_prepend, same_buffer}
use Rattle.mbuf.proofs.segment.Segment.prepend.Goals as goal

pub returns : goal.returns
returns c =
    let store = c.self.inside.store in
    let front = ap (λ (b : Buffer). b.headroom) c.self.view_is in
    let long = ap (λ (b : Buffer). length b.bytes) c.self.view_is in
    let behind = ap (λ (b : Buffer). b.tailroom) c.self.view_is in
    let window = length_window _ _ _ _ store.ok.0 c.self.invariant.0 in
    rw c.copy_from_slice.ensures.after (same_buffer _ _ _ _ _ _ _ _ refl (window_prepend _ _ _ _ _ store.ok.0 c.self.invariant.0 (omega arith)) (omega arith)
    ∙ ap (prepended c.args.bytes.now) c.self.view_is)
