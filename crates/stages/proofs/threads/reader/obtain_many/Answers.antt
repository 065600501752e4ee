use Rattle.std.proofs.Common.{rules, ◌≡◌, ◌+◌, ℕ, IfSome, ◌∙◌, subst, arith}
use Rattle.stages.specs.Custody.{HoldsAll, in_chain, in_items}
use Rattle.stages.specs.Numbers.{item_numbers}
use Rattle.stages.proofs.Keeping.{given_ok}
use Rattle.stages.proofs.threads.reader.obtain_many.Goals as goal

pub returns-in_err-get-clause-still : goal.returns-in_err-get-clause-still
returns-in_err-get-clause-still g c h same b =
    omega (arith, c.get.ensures.kept (λ n. in_items c.loop.batch n + in_items c.loop.stock n) c.loop.invariant.yours h same b)

pub returns-then-branch-clause-kept : goal.returns-then-branch-clause-kept
returns-then-branch-clause-kept g c =
    let others : ℕ → ℕ = λ n. in_items c.loop.batch n + in_items c.loop.stock n in
    given_ok (λ chain. HoldsAll item_numbers c.get.new.self.hand (λ b. in_chain chain b + others b)) c.ok_or.result
    (λ chain is h same b. omega (
      arith,
      c.get.ensures.kept others c.loop.invariant.yours h same b,
      subst (λ r. IfSome r (λ y. (n : ℕ) → in_chain y n ≡ in_items c.get.new.into n)) (c.ok_or.ensures.ok_part ∙ is) c.link.ensures.same b,
    ))

pub returns-then-branch-clause-still : goal.returns-then-branch-clause-still
returns-then-branch-clause-still g c h same b =
    omega (arith, c.get.ensures.kept (λ n. in_items c.loop.batch n + in_items c.loop.stock n) c.loop.invariant.yours h same b)

pub put_unused-requires : goal.put_unused-requires
put_unused-requires g c = (
  search rules,
  (
    omega (arith, c.requires.at_most),
    (
      c.requires.at_most,
      λ h same b. omega (arith, c.get.ensures.kept (λ n. in_items c.loop.batch n + in_items c.loop.stock n) c.loop.invariant.yours h same b),
    ),
  ),
)

pub make_way-requires : goal.make_way-requires
make_way-requires g c = (search rules, λ h same b. omega (arith, c.put_unused.ensures.kept h same b))
