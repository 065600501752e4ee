use Rattle.std.proofs.Common.{rules, ap, arith}
use Rattle.stages.specs.Custody.{in_numbers}
use Rattle.stages.specs.Numbers.{item_numbers}
use Rattle.stages.proofs.Keeping.{of_released}
use Rattle.stages.proofs.threads.sink.handle.Goals as goal

pub take_in-requires : goal.take_in-requires
take_in-requires g c = (
  search rules,
  (
    (λ count h same b. omega (arith, c.requires.yours count h same b, ap (λ x. in_numbers (item_numbers x) b) c.in-After.is)),
    c.requires.single,
  ),
)

pub returns-in_err-take_in-in-After-clause-kept : goal.returns-in_err-take_in-in-After-clause-kept
returns-in_err-take_in-in-After-clause-kept g c others had =
    c.take_in.ensures.kept others
    (λ count h same b. omega (arith, had count h same b, ap (λ x. in_numbers (item_numbers x) b) c.in-After.is))

pub returns-in_ok-take_in-in-After-clause-kept : goal.returns-in_ok-take_in-in-After-clause-kept
returns-in_ok-take_in-in-After-clause-kept g c others had =
    c.take_in.ensures.kept others
    (λ count h same b. omega (arith, had count h same b, ap (λ x. in_numbers (item_numbers x) b) c.in-After.is))

pub release-requires : goal.release-requires
release-requires g c = (
  search rules,
  (
    (λ h same b. omega (arith, c.requires.yours 0 h same b, ap (λ x. in_numbers (item_numbers x) b) c.in-Free.is)),
    c.requires.single,
  ),
)

pub returns-in_err-release-in-Free-clause-kept : goal.returns-in_err-release-in-Free-clause-kept
returns-in_err-release-in-Free-clause-kept g c others had =
    of_released c.args.access.now.hand c.release.new.access.hand c.args.free.now c.release.new.free c.args.sink.now.window c.in-Free.segment.chain others
    c.release.ensures.kept
    (λ count h same b. omega (arith, had count h same b, ap (λ x. in_numbers (item_numbers x) b) c.in-Free.is))

pub returns-in_ok-release-in-Free-clause-kept : goal.returns-in_ok-release-in-Free-clause-kept
returns-in_ok-release-in-Free-clause-kept g c others had =
    of_released c.args.access.now.hand c.release.new.access.hand c.args.free.now c.release.new.free c.args.sink.now.window c.in-Free.segment.chain others
    c.release.ensures.kept
    (λ count h same b. omega (arith, had count h same b, ap (λ x. in_numbers (item_numbers x) b) c.in-Free.is))

pub release-requires-in-Before : goal.release-requires-in-Before
release-requires-in-Before g c = (
  search rules,
  (
    (λ h same b. omega (arith, c.requires.yours 0 h same b, ap (λ x. in_numbers (item_numbers x) b) c.in-Before.is)),
    c.requires.single,
  ),
)

pub returns-in_err-release-in-Before-clause-kept : goal.returns-in_err-release-in-Before-clause-kept
returns-in_err-release-in-Before-clause-kept g c others had =
    of_released c.args.access.now.hand c.release-in-Before.new.access.hand c.args.free.now c.release-in-Before.new.free c.args.sink.now.window c.in-Before.packet.chain others
    c.release-in-Before.ensures.kept
    (λ count h same b. omega (arith, had count h same b, ap (λ x. in_numbers (item_numbers x) b) c.in-Before.is))

pub returns-in_ok-release-in-Before-clause-kept : goal.returns-in_ok-release-in-Before-clause-kept
returns-in_ok-release-in-Before-clause-kept g c others had =
    of_released c.args.access.now.hand c.release-in-Before.new.access.hand c.args.free.now c.release-in-Before.new.free c.args.sink.now.window c.in-Before.packet.chain others
    c.release-in-Before.ensures.kept
    (λ count h same b. omega (arith, had count h same b, ap (λ x. in_numbers (item_numbers x) b) c.in-Before.is))
