use Rattle.std.proofs.Common.{◌≡◌, ◌-◌, ◌<◌, List, [], ◌∷◌, length, take, drop, get_or, sym, ap, ◌∙◌, subst, arith}
use Rattle.std.specs.List.{AllByRecursion}
use Rattle.counters.specs.Tally.{Tally, SamePorts}
use Rattle.counters.proofs.Kept.{take-all}
use Rattle.counters.proofs.counts.Counts.gather.Goals as goal

-- those after the first
rest_same : (ts : List Tally) (first : Tally) → first ≡ get_or ts 0 first → 0 < length ts → SamePorts ts
    → AllByRecursion (λ u. length u.sent ≡ length first.sent) (take (length ts - 1) (drop 1 ts))
rest_same [] first is some same = absurd (omega arith)
rest_same (t ∷ ts) first is some same =
    subst (λ us. AllByRecursion (λ u. length u.sent ≡ length first.sent) us) (sym (take-all (length (t ∷ ts) - 1) ts (omega arith)))
    (subst (λ u. AllByRecursion (λ v. length v.sent ≡ length u.sent) ts) (sym is) same)

pub add_all-requires-clause-same : goal.add_all-requires-clause-same
add_all-requires-clause-same c =
    let first = c.copied-sums.result in
    let is : first ≡ get_or c.args.list.now 0 first =
    c.copied-sums.ensures ∙ c.first-item.is ∙ ap (get_or c.args.list.now 0) (sym c.copied-sums.ensures) in
    rest_same c.args.list.now first is c.requires.nonzero c.requires.same
