use Rattle.std.proofs.Common.{rules, ℕ, refl, ap, ◌∙◌, arith}
use Rattle.std.specs.FinMap as fin
use Rattle.mbuf.specs.Links.{rest_of}
use Rattle.stages.specs.Custody.{HoldsOf, in_chain}
use Rattle.stages.proofs.Keeping.{of_give, of_released}
use Rattle.stages.proofs.threads.sink.let_go.Goals as goal

pub loop-init : goal.loop-init
loop-init g c = record { iterator = (tt, tt); many = refl; yours = c.requires.yours; single = c.requires.single; kept = λ others had. had }

pub returns-in_default-clause-kept : goal.returns-in_default-clause-kept
returns-in_default-clause-kept g c others had =
    let w = c.loop.sink.window in
    let given = of_give c.loop.access.hand c.loop.free w c.give.new.self.window c.give.result others c.give.ensures.gone c.give.ensures.none
    (fin.get w.held w.next) refl (c.loop.invariant.kept others had) in
    λ count h same b. omega (arith, given count h same b)

pub release-requires : goal.release-requires
release-requires g c =
    let w = c.loop.sink.window in
    let given = of_give c.loop.access.hand c.loop.free w c.give.new.self.window c.give.result (λ _. 0) c.give.ensures.gone c.give.ensures.none
    (fin.get w.held w.next) refl c.loop.invariant.yours in
    (search rules, ((λ h same b. omega (arith, given 0 h same b, ap (λ r. in_chain (rest_of r) b) c.in-Some-give.is)), c.loop.invariant.single))

pub returns-in_err-release-clause-kept : goal.returns-in_err-release-clause-kept
returns-in_err-release-clause-kept g c others had =
    let w = c.loop.sink.window in
    let u = c.give.new.self.window in
    let given = of_give c.loop.access.hand c.loop.free w u c.give.result others c.give.ensures.gone c.give.ensures.none
    (fin.get w.held w.next) refl (c.loop.invariant.kept others had) in
    of_released c.loop.access.hand c.release.new.access.hand c.loop.free c.release.new.free u c.in-Some-give.chain others c.release.ensures.kept
    (λ count h same b. omega (arith, given count h same b, ap (λ r. in_chain (rest_of r) b) c.in-Some-give.is))

pub loop-preserved : goal.loop-preserved
loop-preserved g c =
    let w = c.loop.sink.window in
    let u = c.give.new.self.window in
    let i = c.loop.invariant in
    let freed : (others : ℕ → ℕ) → HoldsOf c.loop.access.hand c.loop.free w others → HoldsOf c.release.new.access.hand c.release.new.free u others =
    λ others had. of_released c.loop.access.hand c.release.new.access.hand c.loop.free c.release.new.free u c.in-Some-give.chain others c.release.ensures.kept
    (λ count h same b. omega (
      arith,
      of_give c.loop.access.hand c.loop.free w u c.give.result others c.give.ensures.gone c.give.ensures.none (fin.get w.held w.next) refl had count h same b,
      ap (λ r. in_chain (rest_of r) b) c.in-Some-give.is,
    )) in
    record {
      iterator = (tt, tt);
      many = c.give.ensures.length ∙ i.many;
      yours = freed (λ _. 0) i.yours;
      single = c.release.ensures.single;
      kept = λ others had. freed others (i.kept others had);
    }
