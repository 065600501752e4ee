use Rattle.std.proofs.Common.{◌≡◌, ap, ◌∙◌, arith}
use Rattle.run_one.specs.declared.one.lookahead.Lookahead.{Lookahead}
use Rattle.run_one.proofs.one.lookahead.Lookahead.next.Goals as goal
use Rattle.run_one.proofs.one.lookahead.Lookahead.next.Goals.{then-self, else-self}

pub returns-clause-there : goal.returns-clause-there
returns-clause-there c =
    elim c.if-self.branch [
      | then-self w ↦
          let begun : c.if-self.self.used ≡ 0 = ap (λ (l : Lookahead). l.used) w.self-is ∙ w.refill.ensures.begins in
          c.get.ensures.there.1 (omega arith)
      | else-self w ↦
          let same : c.if-self.self.used ≡ c.args.self.now.used = ap (λ (l : Lookahead). l.used) w.self-is in
          let within = c.args.self.now.at_most in
          let before = w.if-self.false in
          c.get.ensures.there.1 (omega arith)
    ]
