use Rattle.std.proofs.Common.{rules, refl, ap, ◌∙◌, arith}
use Rattle.stages.specs.Custody.{in_chain, in_waiting}
use Rattle.reorder.specs.Waiting.{with_number}
use Rattle.stages.proofs.Keeping.{of_joined, of_pass, of_released}
use Rattle.stages.proofs.threads.sink.take_in.Goals as goal

pub release-requires : goal.release-requires
release-requires g c = (
  search rules,
  ((λ h same b. omega (arith, c.requires.yours 0 h same b, ap (λ x. in_chain x b) c.in-Ok.ensures.chain)), c.requires.single),
)

pub returns-in_err-release-in-Ok-clause-kept : goal.returns-in_err-release-in-Ok-clause-kept
returns-in_err-release-in-Ok-clause-kept g c others had =
    let old = c.args.sink.now.window in
    let new = c.pass.new.self.window in
    of_released c.args.access.now.hand c.release.new.access.hand c.args.free.now c.release.new.free new c.in-Ok.chain others c.release.ensures.kept
    (of_pass c.args.access.now.hand c.args.free.now old new c.args.packet c.in-Ok.chain others c.in-Ok.ensures.window c.in-Ok.ensures.chain
    (c.in-Ok.ensures.passed.0 refl).0 had)

pub let_go-requires : goal.let_go-requires
let_go-requires g c =
    let old = c.args.sink.now.window in
    let new = c.pass.new.self.window in
    let yours = of_released c.args.access.now.hand c.release.new.access.hand c.args.free.now c.release.new.free new c.in-Ok.chain (λ _. 0) c.release.ensures.kept
    (of_pass c.args.access.now.hand c.args.free.now old new c.args.packet c.in-Ok.chain (λ _. 0) c.in-Ok.ensures.window c.in-Ok.ensures.chain
    (c.in-Ok.ensures.passed.0 refl).0 (λ count h same b. omega (arith, c.requires.yours count h same b))) in
    (search rules, (yours, c.release.ensures.single))

pub returns-in-Ok-clause-kept : goal.returns-in-Ok-clause-kept
returns-in-Ok-clause-kept g c others had =
    let old = c.args.sink.now.window in
    let new = c.pass.new.self.window in
    c.let_go.ensures.kept others
    (of_released c.args.access.now.hand c.release.new.access.hand c.args.free.now c.release.new.free new c.in-Ok.chain others c.release.ensures.kept
    (of_pass c.args.access.now.hand c.args.free.now old new c.args.packet c.in-Ok.chain others c.in-Ok.ensures.window c.in-Ok.ensures.chain
    (c.in-Ok.ensures.passed.0 refl).0 had))

pub returns-in-Ok-accept-clause-kept : goal.returns-in-Ok-accept-clause-kept
returns-in-Ok-accept-clause-kept g c others had =
    let old = c.args.sink.now.window in
    let early = c.in-Err.packet in
    let joined = of_joined c.args.access.now.hand c.args.free.now old early.seq early others
    (λ count h same b. omega (arith, had count h same b, ap (λ p. in_chain p.chain b) c.in-Err.ensures.back)) in
    λ count h same b. omega (
      arith,
      joined count h same b,
      ap (λ v. in_waiting v.held v.next count b) (c.in-Ok-accept.ensures.joined ∙ ap (λ v. with_number v early.seq early) c.in-Err.ensures.kept.0),
    )

pub release-requires-in-Err-accept : goal.release-requires-in-Err-accept
release-requires-in-Err-accept g c = (
  search rules,
  (
    (λ h same b. omega (
      arith,
      c.requires.yours 0 h same b,
      ap (λ p. in_chain p.chain b) (c.in-Err-accept.ensures.back ∙ c.in-Err.ensures.back),
    )),
    c.requires.single,
  ),
)

pub returns-in_err-release-in-Err-accept-clause-kept : goal.returns-in_err-release-in-Err-accept-clause-kept
returns-in_err-release-in-Err-accept-clause-kept g c others had =
    let same = c.in-Err-accept.ensures.kept ∙ c.in-Err.ensures.kept.0 in
    let back = c.in-Err-accept.ensures.back ∙ c.in-Err.ensures.back in
    of_released c.args.access.now.hand c.release-in-Err-accept.new.access.hand c.args.free.now c.release-in-Err-accept.new.free c.accept.new.self.window c.in-Err-accept.packet.chain others
    c.release-in-Err-accept.ensures.kept
    (λ count h is b. omega (arith, had count h is b, ap (λ p. in_chain p.chain b) back, ap (λ v. in_waiting v.held v.next count b) same))

pub returns-in_ok-release-in-Err-accept-clause-kept : goal.returns-in_ok-release-in-Err-accept-clause-kept
returns-in_ok-release-in-Err-accept-clause-kept g c others had =
    let same = c.in-Err-accept.ensures.kept ∙ c.in-Err.ensures.kept.0 in
    let back = c.in-Err-accept.ensures.back ∙ c.in-Err.ensures.back in
    of_released c.args.access.now.hand c.release-in-Err-accept.new.access.hand c.args.free.now c.release-in-Err-accept.new.free c.accept.new.self.window c.in-Err-accept.packet.chain others
    c.release-in-Err-accept.ensures.kept
    (λ count h is b. omega (arith, had count h is b, ap (λ p. in_chain p.chain b) back, ap (λ v. in_waiting v.held v.next count b) same))
