use Rattle.std.proofs.Common.{◌+◌, ◌∷◌, [], ap, ◌∙◌, sym, arith}
use Rattle.stages.specs.Custody.{in_items}
use Rattle.stages.proofs.Keeping.{in_last}
use Rattle.stages.proofs.threads.reader.enqueue.Goals as goal
use Rattle.stages.proofs.threads.reader.enqueue.Goals.{then-len-burst+in_ok-send, else-len-burst}

pub returns-in_err-send-clause-kept : goal.returns-in_err-send-clause-kept
returns-in_err-send-clause-kept g c others had h same b =
    omega (arith, c.send.ensures.kept others (λ k is n. omega (arith, had k is n)) h same b)

pub returns-clause-kept : goal.returns-clause-kept
returns-clause-kept g c others had h same b =
    let pushed = ap (λ l. in_items l b) c.push.ensures ∙ in_last c.if-len-burst.batch c.args.packet b in
    elim c.if-len-burst.branch [
      | then-len-burst+in_ok-send w ↦ omega (
        arith,
        w.send.ensures.kept (λ n. in_items (c.args.packet ∷ []) n + others n) (λ k is n. omega (arith, had k is n)) h (ap (λ a. a.hand) (sym w.access-is) ∙ same) b,
        ap (λ l. in_items l b) w.batch-is,
        pushed,
      )
      | else-len-burst w ↦ omega (
        arith,
        had h (ap (λ a. a.hand) (sym w.access-is) ∙ same) b,
        ap (λ l. in_items l b) w.batch-is,
        pushed,
      )
    ]
