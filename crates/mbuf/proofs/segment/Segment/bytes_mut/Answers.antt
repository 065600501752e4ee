use Rattle.std.proofs.Common.{arith, refl, ap, ◌∙◌, ◌≡◌, ◌+◌, ◌-◌, take, drop}
use Rattle.mbuf.specs.Buffer.{Buffer, rewritten}
use Rattle.mbuf.proofs.Windows.{window_refill, same_buffer}
use Rattle.mbuf.proofs.segment.Segment.bytes_mut.Goals as goal

pub returns : goal.returns
returns c = (
  (refl, λ w. same_buffer _ _ _ _ _ _ _ _ refl (window_refill _ _ _ _ w c.self.inside.store.ok.0 c.self.invariant.0) refl ∙ ap (rewritten w) c.self.view_is),
  record {
    writes_back = tt;
    value =
        c.slice_mut.ensures.value ∙ (let more : c.self.inside.start + c.self.inside.len - c.self.inside.start ≡ c.self.inside.len =
        omega arith in ap (λ k. take k (drop c.self.inside.start c.self.inside.store.items)) more) ∙ ap (λ (b : Buffer). b.bytes) c.self.view_is;
  },
)
