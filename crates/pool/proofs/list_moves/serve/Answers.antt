use Rattle.std.proofs.Common.{◌≡◌, ◌++◌, ◌-◌, length, reverse, take, drop, ap, ◌∙◌}
use Rattle.std.proofs.lemmas.List.{length-reverse}
use Rattle.pool_laws.proofs.Turned.{first_turned, rest_turned}
use Rattle.pool.proofs.list_moves.serve.Goals as goal

pub returns-clause-left : goal.returns-clause-left
returns-clause-left g c =
    let all = c.args.from.now in
    let k = c.args.k in
    let is : c.len.result - k ≡ length all - k = ap (λ m. m - k) (c.len.ensures.value ∙ (ap length c.reverse.ensures ∙ length-reverse all)) in
    c.reverse-2.ensures
    ∙ (ap reverse (c.move_tail_reversed.ensures.left ∙ ap (take (c.len.result - k)) c.reverse.ensures) ∙ rest_turned k all (c.len.result - k) is)

pub returns-clause-moved : goal.returns-clause-moved
returns-clause-moved g c =
    let all = c.args.from.now in
    let k = c.args.k in
    let is : c.len.result - k ≡ length all - k = ap (λ m. m - k) (c.len.ensures.value ∙ (ap length c.reverse.ensures ∙ length-reverse all)) in
    c.move_tail_reversed.ensures.moved
    ∙ ap (λ l. c.args.to.now ++ l) (ap (λ l. reverse (drop (c.len.result - k) l)) c.reverse.ensures ∙ first_turned k all (c.len.result - k) is)
