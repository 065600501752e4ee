use Rattle.std.proofs.Common.{◌+◌, IfOk, sym, ap, ◌∙◌, subst, arith}
use Rattle.stages.specs.Custody.{HoldsAll, in_chain, in_items}
use Rattle.stages.specs.Numbers.{item_numbers}
use Rattle.stages.proofs.threads.reader.obtain.Goals as goal
use Rattle.stages.proofs.threads.reader.obtain.Goals.{then-n-eq1, else-n-eq1}

pub returns-in_err-chain-clause-still : goal.returns-in_err-chain-clause-still
returns-in_err-chain-clause-still g c h same b = elim c.if-n-eq1.branch [
  | then-n-eq1 w ↦ omega (
    arith,
    w.obtain_one-found.ensures.still h (ap (λ a. a.hand) (sym w.access-is) ∙ same) b,
    ap (λ l. in_items l b) w.batch-is,
    ap (λ l. in_items l b) w.stock-is,
  )
  | else-n-eq1 w ↦ omega (
    arith,
    w.obtain_many-found.ensures.still h (ap (λ a. a.hand) (sym w.access-is) ∙ same) b,
    ap (λ l. in_items l b) w.batch-is,
    ap (λ l. in_items l b) w.stock-is,
  )
]

pub returns-then-space-captured-clause-still : goal.returns-then-space-captured-clause-still
returns-then-space-captured-clause-still g c h same b = elim c.if-n-eq1.branch [
  | then-n-eq1 w ↦ omega (
    arith,
    w.obtain_one-found.ensures.still h (ap (λ a. a.hand) (sym w.access-is) ∙ same) b,
    ap (λ l. in_items l b) w.batch-is,
    ap (λ l. in_items l b) w.stock-is,
  )
  | else-n-eq1 w ↦ omega (
    arith,
    w.obtain_many-found.ensures.still h (ap (λ a. a.hand) (sym w.access-is) ∙ same) b,
    ap (λ l. in_items l b) w.batch-is,
    ap (λ l. in_items l b) w.stock-is,
  )
]

pub returns-clause-kept : goal.returns-clause-kept
returns-clause-kept g c h same b = elim c.if-n-eq1.branch [
  | then-n-eq1 w ↦ omega (
    arith,
    subst
        (λ r. IfOk r (λ chain. HoldsAll item_numbers w.obtain_one-found.new.access.hand
        (λ n. in_chain chain n + (in_items w.obtain_one-found.new.batch n + in_items w.obtain_one-found.new.stock n))))
        (sym w.found-is ∙ c.in_ok-chain.was) w.obtain_one-found.ensures.kept h (ap (λ a. a.hand) (sym w.access-is) ∙ same) b,
    ap (λ l. in_items l b) w.batch-is,
    ap (λ l. in_items l b) w.stock-is,
  )
  | else-n-eq1 w ↦ omega (
    arith,
    subst
        (λ r. IfOk r (λ chain. HoldsAll item_numbers w.obtain_many-found.new.access.hand
        (λ n. in_chain chain n + (in_items w.obtain_many-found.new.batch n + in_items w.obtain_many-found.new.stock n))))
        (sym w.found-is ∙ c.in_ok-chain.was) w.obtain_many-found.ensures.kept h (ap (λ a. a.hand) (sym w.access-is) ∙ same) b,
    ap (λ l. in_items l b) w.batch-is,
    ap (λ l. in_items l b) w.stock-is,
  )
]

pub returns-clause-still : goal.returns-clause-still
returns-clause-still g c h same b = elim c.if-n-eq1.branch [
  | then-n-eq1 w ↦ omega (
    arith,
    w.obtain_one-found.ensures.still h (ap (λ a. a.hand) (sym w.access-is) ∙ same) b,
    ap (λ l. in_items l b) w.batch-is,
    ap (λ l. in_items l b) w.stock-is,
  )
  | else-n-eq1 w ↦ omega (
    arith,
    w.obtain_many-found.ensures.still h (ap (λ a. a.hand) (sym w.access-is) ∙ same) b,
    ap (λ l. in_items l b) w.batch-is,
    ap (λ l. in_items l b) w.stock-is,
  )
]
