-- That each step keeps a lock, whichever state it is in.
use Rattle.std.proofs.Common.{◌≡◌, ℕ, List, [], ◌∷◌, Option, Some, refl, sym, ap, ◌∙◌, subst, arith}
use mathlib.Core.Option.{none}
use Rattle.atomic_table.specs.Table.{Me, Allows, Arrives, opening, step, keeps, takes, gives, rest}
use Rattle.ringapi.specs.Locks.{IsLock, free, taken}
use Rattle.ringapi.specs.Locks as lock

module _ {T K : Type 0} (holds : K → T → Type 0) (key : K) where
  pub may_take : (slots : ℕ)
      → Arrives (IsLock (holds key)) slots 0 (λ _. 1) (lock.takes holds (step slots 0 1 0 none) (key, []))
  may_take slots s (free seats x h) len lt = (key, takes 0 (Some x), refl, taken _, λ e. (x, h, refl))
  may_take slots s (taken seats) len lt = (key, keeps, tt, taken _, λ e. absurd (omega (arith, e)))

  abbrev Gives : ℕ → ℕ → Me (Option T) K → Type 0
  Gives slots id m =
      Allows (IsLock (holds key)) slots id m 0 (λ _. 0) (λ _. lock.gives_back (step slots 0 0 0 none) m 0)

  -- whatever the lock is, it has this value afterwards
  gives_slot : (slots id : ℕ) (v : K) (x : T) → holds key x → Gives slots id (v, (0, Some x) ∷ [])
  gives_slot slots id v x h s (free seats y k) len at lt = (v, gives, tt, free _ x h, refl)
  gives_slot slots id v x h s (taken seats) len at lt = (v, gives, tt, free _ x h, refl)

  -- the same for a seat of which an equation says what it has
  pub may_give : (slots id : ℕ) (m : Me (Option T) K) (x : T) → m.1 ≡ (0, Some x) ∷ [] → holds key x → Gives slots id m
  may_give slots id m x e h = subst (λ c. Gives slots id (m.0, c)) (sym e) (gives_slot slots id m.0 x h)

-- the table of a new lock
pub opened : {T K : Type 0} (holds : T → Type 0) (xs : List (Option T)) (x : T) (key : K)
    → xs ≡ Some x ∷ [] → holds x → IsLock holds (opening (0 ∷ []) xs key)
opened holds xs x key e h = subst (λ ys. IsLock holds (opening (0 ∷ []) ys key)) (sym e) (free _ x h)

-- the slot that was taken
pub front : {S : Type 0} (c : List (ℕ × S)) (x : S) → c ≡ (0, x) ∷ [] → c ≡ (0, x) ∷ rest c
front c x e = e ∙ ap (λ r. (0, x) ∷ rest r) (sym e)

-- it has y in it, in place of x
pub filled : {S V : Type 0} (x y : S) (m w : Me S V) → m.1 ≡ (0, x) ∷ [] → w ≡ (m.0, (0, y) ∷ rest m.1)
    → w.1 ≡ (0, y) ∷ []
filled x y m w e f = ap (λ z. z.1) f ∙ ap (λ r. (0, y) ∷ rest r) e
