-- What the writer's steps leave of its copies.
use Rattle.std.proofs.Common.{◌≡◌, Bool, true, false, Option, Some, None, IsSome, List, fold, sym, ap, ◌∙◌, subst}
use Rattle.std.proofs.lemmas.Bool.{false≢true}
use Rattle.live_value.specs.Pasts.{followed}
use Rattle.live_value.specs.Publishing.{Publishing}
use Rattle.live_routes.specs.Forwarding.{Forwarding}
use Rattle.live_routes.specs.Changes.{applied}
use Rattle.live_routes.specs.Routing.{IsRouting, second, or_else}
use Rattle.live_routes.specs.declared.change.Change.{Change}

module _ {H P : Type 0} where
  same_some : (d f g : Forwarding H P) → Some f ≡ Some g → f ≡ g
  same_some d f g e = ap (or_else d) e

  -- the copy that was prepared is published, and the one before it is behind
  pub published : (p q : Publishing (Forwarding H P)) (spare left_over : Option (Forwarding H P)) (ready : Bool)
      (log : List (Change H P)) (fib : Forwarding H P)
      → IsRouting p spare ready log → ready ≡ true → spare ≡ Some fib → left_over ≡ None → q.seen ≡ followed p.seen fib
      → q.behind ≡ Some p.seen.latest
      → IsRouting q left_over false log
  published p q spare left_over ready log fib is settled has gone seen behind = record {
    ahead = λ e. absurd (false≢true e);
    here = λ e. absurd (false≢true e);
    behind = λ _ f e.
        let old : p.seen.latest ≡ f = same_some f p.seen.latest f (sym behind
        ∙ (ap (λ o. second o q.behind) (sym gone) ∙ e)) in
        ap (λ s. s.latest) seen ∙ (is.ahead settled fib has ∙ ap (λ x. fold applied x log) old);
    apart = λ e. absurd (false≢true (subst IsSome gone e));
  }
