use Rattle.std.proofs.Common.{◌≡◌, ◌∙◌, ap, map, arith, subst, ℕ}
use Rattle.std.specs.Option.{unwrap_or}
use Rattle.steps_file.specs.Plans.{buffer_count, IsTable}
use Rattle.steps_file.proofs.Gifts.{gifts_from_table}
use Rattle.steps_file.proofs.stage.plan.opening_gifts.Goals as goal

pub returns-clause-given : goal.returns-clause-given
returns-clause-given c =
    let same : c.count_buffers-count.result ≡ buffer_count c.args.gifts.now = omega (arith, c.count_buffers-count.ensures) in
    c.in_ok-all_owners.ensures.owners
    ∙ ap (map (λ o. unwrap_or o 0)) c.as_slice.ensures.value
    ∙ gifts_from_table c.in_ok-table.table.items c.args.gifts.now
    (subst (λ (n : ℕ). IsTable n c.in_ok-table.table.items c.args.gifts.now) same c.in_ok-table.ensures.table)
