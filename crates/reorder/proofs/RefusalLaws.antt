-- Which result `insert` returns when: each of its results against the clauses on what is accepted and on doubles.
use Rattle.std.proofs.Common.{◌≡◌, ℕ, ◌<◌, ◌≤◌, ◌↔◌, true, false, Option, Some, None, Ok, Err, Result, IsErrOf, IsOk, IsTrue, is_some, true≢false, refl, sym}
use Rattle.std.proofs.Common.{ap, ◌∙◌, arith}
use Rattle.std.specs.FinMap.{get, contains_key}
use Rattle.reorder.specs.declared.fault.InsertFault.{InsertFault}
use Rattle.reorder.specs.declared.fault.InsertFault.TheVariants.{Late, Early, Double}
use Rattle.reorder.specs.Fault.{number_of}
use Rattle.reorder.specs.Waiting.{Waiting, IsFree, IsWindow, end_of}

pub is_none : {T : Type 0} (o : Option T) → is_some o ≡ false → o ≡ None
is_none None none = refl
is_none (Some x) none = absurd (true≢false none)

-- 0, or the error number
abbrev answered : {T : Type 0} → Result (Unit {0}) (T × InsertFault) → ℕ
answered (Ok done) = 0
answered (Err refusal) = number_of refusal.1

module _ {T : Type 0} (window : Waiting T) (n : ℕ) (item : T) where
  abbrev IsDouble : Result (Unit {0}) (T × InsertFault) → Type 0
  IsDouble answer = IsErrOf answer (item, Double) ↔ IsTrue (contains_key window.held n)

  pub late_only : IsWindow window → n < window.next → IsDouble (Err (item, Late))
  late_only laid late = (
    λ same. absurd (omega (arith, ap answered same)),
    λ held. absurd (omega (arith, laid.in_turn n held)),
  )

  pub early_only : IsWindow window → end_of window ≤ n → IsDouble (Err (item, Early))
  early_only laid early = (
    λ same. absurd (omega (arith, ap answered same)),
    λ held. absurd (omega (arith, laid.in_reach n held)),
  )

  pub double_here : is_some (get window.held n) ≡ true → IsDouble (Err (item, Double))
  double_here held = (λ same. held, λ _. refl)

  abbrev IsAccepted : Result (Unit {0}) (T × InsertFault) → Type 0
  IsAccepted answer = IsOk answer ↔ IsFree window n

  pub double_refused : is_some (get window.held n) ≡ true → IsAccepted (Err (item, Double))
  double_refused held = (
    λ accepted. absurd (true≢false (sym accepted)),
    λ free. absurd (true≢false (sym held ∙ ap is_some free.vacant)),
  )

  pub accepted : IsFree window n → IsAccepted (Ok tt)
  accepted free = (λ _. free, λ _. refl)

  pub none_here : is_some (get window.held n) ≡ false → IsDouble (Ok tt)
  none_here none = (λ same. absurd (omega (arith, ap answered same)), λ held. absurd (true≢false (sym held ∙ none)))
