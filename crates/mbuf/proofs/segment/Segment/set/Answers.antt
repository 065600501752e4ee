use Rattle.std.proofs.Common.{arith, refl, ap, ◌∙◌, length}
use Rattle.mbuf.specs.Buffer.{Buffer, with_byte}
use Rattle.mbuf.proofs.Windows.{length_window, window_set, same_buffer}
use Rattle.mbuf.proofs.segment.Segment.set.Goals as goal

pub returns : goal.returns
returns c =
    let store = c.self.inside.store in
    let front = ap (λ (b : Buffer). b.headroom) c.self.view_is in
    let long = ap (λ (b : Buffer). length b.bytes) c.self.view_is in
    let behind = ap (λ (b : Buffer). b.tailroom) c.self.view_is in
    let window = length_window _ _ _ _ store.ok.0 c.self.invariant.0 in
    same_buffer _ _ _ _ _ _ _ _ refl (window_set c.self.inside.start c.self.inside.len c.args.i store.items c.args.v (omega arith)) refl
    ∙ ap (with_byte c.args.i c.args.v) c.self.view_is
