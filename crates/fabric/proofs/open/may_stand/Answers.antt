use Rattle.std.proofs.Common.{arith}
use Rattle.fabric.proofs.open.may_stand.Goals as goal

pub returns : goal.returns
returns c = (
  λ yes. record {
    some_ring = omega (arith, c.if-rings-eq0.false);
    few_rings = c.if-rings-gt-MAX_RINGS.false;
    few_buffers = c.if-buffers-limits.false;
    some_item = omega (arith, c.if-most-eq0.false);
    few_items = c.if-most-limits.false;
    free_rings = c.all_fit.ensures.0 yes;
  },
  λ may. c.all_fit.ensures.1 may.free_rings,
)
