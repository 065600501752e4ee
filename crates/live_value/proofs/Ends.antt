-- That each step keeps a lane, whichever state it is in.
use Rattle.std.proofs.Common.{◌≡◌, ◌≢◌, ℕ, zero, suc, ◌+◌, ◌-◌, ◌%◌, ◌^◌, ◌<◌, inl, inr, List, [], ◌∷◌, ◌++◌, Option}
use Rattle.std.proofs.Common.{Some, None, refl, sym, ◌∙◌, ap, subst, arith, lit<, append_assoc, append-nil, true, false}
use Rattle.std.proofs.Math.Nat.{mod-mod_of_dvd, mod-add-mod}
use Rattle.std.proofs.lemmas.Bool.{cases_eq, true≢false, false≢true}
use Rattle.std.proofs.lemmas.Nat.Gcd.{dvd_of_mod-eq-zero}
use mathlib.Core.Option.{some, none, some-injective, some-ne-none}
use Rattle.atomic_table.specs.Table.{Me, Allows, Splits, opening, step, keeps, takes, gives, chain, rest}
use Rattle.live_value.specs.declared.past.Past.{Past}
use Rattle.live_value.specs.declared.lane.Doing.{Doing}
use Rattle.live_value.specs.declared.lane.Role.{Role}
use Rattle.live_value.specs.declared.lane.Role.TheVariants.{Opens, Holds, Writes, Awaits, Waits, Reads}
use Rattle.live_value.specs.Pasts.{all, followed, IsLater}
use Rattle.live_value.specs.Lanes.{IsLane, doing, turn, opens, holds, waits, reads, stays, goes, moves, awaited_of, side_of}
use Rattle.live_value.specs.Lanes as lane

abbrev kind : Role → ℕ
kind Opens = 0
kind Holds = 1
kind (Writes k) = 2
kind (Awaits k n) = 3
kind Waits = 4
kind (Reads k) = 5

nothing_there : {A : Type 0} {a : A} {B : Type 0} → none ≡ some a → B
nothing_there {A} {a} e = absurd (some-ne-none a (sym e))

-- adding to the word adds to its last two bits
turned : (n k c : ℕ) → n % 4 ≡ k → (n + c) % 2 ^ 64 % 4 ≡ (k + c) % 4
turned n k c e = mod-mod_of_dvd 4 (n + c) (dvd_of_mod-eq-zero 4 {n = 2 ^ 64} refl)
    ∙ (sym (mod-add-mod n 4 c) ∙ ap (λ z. (z + c) % 4) e)

-- bit 0 is one of them
last_bit : (n k : ℕ) → n % 4 ≡ k → n % 2 ≡ k % 2
last_bit n k e = sym (mod-mod_of_dvd 2 n (dvd_of_mod-eq-zero 2 {n = 4} refl)) ∙ ap (λ z. z % 2) e

module _ {T : Type 0} where
  -- two roles of different kinds are different
  other : {C : Type 0} {r r' : Role} {p q : Past T} → kind r ≢ kind r' → some (doing r p) ≡ some (doing r' q) → C
  other n e = absurd (n (ap (λ d. kind d.role) (some-injective _ _ e)))

  -- and so are two with different slots
  elsewhere : {C : Type 0} {r r' : Role} {p q : Past T} → side_of r ≢ side_of r' → some (doing r p) ≡ some (doing r' q) → C
  elsewhere n e = absurd (n (ap (λ d. side_of d.role) (some-injective _ _ e)))

  same : {r r' : Role} {p q : Past T} → some (doing r p) ≡ some (doing r' q) → p ≡ q
  same e = ap (λ d. d.past) (some-injective _ _ e)

  pub later-refl : (p : Past T) → IsLater p p
  later-refl p = ([], sym (append-nil (all p)))

  pub later-followed : (p q : Past T) (x : T) → IsLater p q → IsLater (followed p x) q
  later-followed p q x l = (l.0 ++ x ∷ [], ap (λ xs. xs ++ x ∷ []) l.1 ∙ append_assoc (all q) l.0 (x ∷ []))

  pub later-trans : (p q r : Past T) → IsLater p q → IsLater q r → IsLater p r
  later-trans p q r l m = (m.0 ++ l.0, l.1 ∙ (ap (λ xs. xs ++ l.0) m.1 ∙ append_assoc (all r) m.0 l.0))

  module _ {X : Type 0} (value : X → T) where
    pub takes_slot : (slots id : ℕ) (p : Past T)
        → Allows (IsLane value) slots id (doing Opens p, []) 0 (λ n. n) (lane.takes (step 0 0 0 0 none) (doing Opens p, []))
    takes_slot slots zero p s (opens pads y q e) len at lt =
        (doing Holds q, takes 1 None, refl, holds pads y q e, ap (λ z. (doing Holds z, (1, None) ∷ [])) (same at))
    takes_slot slots (suc i) p s (opens pads y q e) len at lt = nothing_there at
    takes_slot slots zero p s (holds pads y q e) len at lt = other (λ h. omega arith) at
    takes_slot slots (suc i) p s (holds pads y q e) len at lt = nothing_there at
    takes_slot slots zero p s (waits pads k n y q r b o e l) len at lt = other (λ h. omega arith) at
    takes_slot slots (suc zero) p s (waits pads k n y q r b o e l) len at lt = other (λ h. omega arith) at
    takes_slot slots (suc (suc i)) p s (waits pads k n y q r b o e l) len at lt = nothing_there at
    takes_slot slots zero p s (reads pads k n q b o) len at lt = other (λ h. omega arith) at
    takes_slot slots (suc zero) p s (reads pads k n q b o) len at lt = other (λ h. omega arith) at
    takes_slot slots (suc (suc i)) p s (reads pads k n q b o) len at lt = nothing_there at
    takes_slot slots zero p s (stays pads k n y q r b o e l) len at lt = other (λ h. omega arith) at
    takes_slot slots (suc zero) p s (stays pads k n y q r b o e l) len at lt = other (λ h. omega arith) at
    takes_slot slots (suc (suc i)) p s (stays pads k n y q r b o e l) len at lt = nothing_there at
    takes_slot slots zero p s (goes pads k n m x y q r b o e l) len at lt = other (λ h. omega arith) at
    takes_slot slots (suc zero) p s (goes pads k n m x y q r b o e l) len at lt = other (λ h. omega arith) at
    takes_slot slots (suc (suc i)) p s (goes pads k n m x y q r b o e l) len at lt = nothing_there at
    takes_slot slots zero p s (moves pads k n m x q b o) len at lt = other (λ h. omega arith) at
    takes_slot slots (suc zero) p s (moves pads k n m x q b o) len at lt = other (λ h. omega arith) at
    takes_slot slots (suc (suc i)) p s (moves pads k n m x q b o) len at lt = nothing_there at

    pub parts_lane : (id : ℕ) (p : Past T) → Splits (IsLane value) id (doing Holds p) (doing (Writes 0) p) (doing Waits p)
    parts_lane zero p s (opens pads y q e) at = other (λ h. omega arith) at
    parts_lane (suc i) p s (opens pads y q e) at = nothing_there at
    parts_lane zero p s (holds pads y q e) at =
        waits pads 0 0 y p p (lit< tt) refl (ap (λ z. z.latest) (sym (same at)) ∙ e) (later-refl p)
    parts_lane (suc i) p s (holds pads y q e) at = nothing_there at
    parts_lane zero p s (waits pads k n y q r b o e l) at = other (λ h. omega arith) at
    parts_lane (suc zero) p s (waits pads k n y q r b o e l) at = other (λ h. omega arith) at
    parts_lane (suc (suc i)) p s (waits pads k n y q r b o e l) at = nothing_there at
    parts_lane zero p s (reads pads k n q b o) at = other (λ h. omega arith) at
    parts_lane (suc zero) p s (reads pads k n q b o) at = other (λ h. omega arith) at
    parts_lane (suc (suc i)) p s (reads pads k n q b o) at = nothing_there at
    parts_lane zero p s (stays pads k n y q r b o e l) at = other (λ h. omega arith) at
    parts_lane (suc zero) p s (stays pads k n y q r b o e l) at = other (λ h. omega arith) at
    parts_lane (suc (suc i)) p s (stays pads k n y q r b o e l) at = nothing_there at
    parts_lane zero p s (goes pads k n m x y q r b o e l) at = other (λ h. omega arith) at
    parts_lane (suc zero) p s (goes pads k n m x y q r b o e l) at = other (λ h. omega arith) at
    parts_lane (suc (suc i)) p s (goes pads k n m x y q r b o e l) at = nothing_there at
    parts_lane zero p s (moves pads k n m x q b o) at = other (λ h. omega arith) at
    parts_lane (suc zero) p s (moves pads k n m x q b o) at = other (λ h. omega arith) at
    parts_lane (suc (suc i)) p s (moves pads k n m x q b o) at = nothing_there at

    pub enters_slot : (slots id : ℕ) (p : Past T)
        → Allows (IsLane value) slots id (doing Waits p, []) 0 (λ n. (n + 2) % 2 ^ 64)
        (lane.enters value (step 0 0 2 0 none) (doing Waits p, []))
    enters_slot slots zero p s (opens pads y q e) len at lt = other (λ h. omega arith) at
    enters_slot slots (suc i) p s (opens pads y q e) len at lt = nothing_there at
    enters_slot slots zero p s (holds pads y q e) len at lt = other (λ h. omega arith) at
    enters_slot slots (suc i) p s (holds pads y q e) len at lt = nothing_there at
    enters_slot slots zero p s (waits pads k n y q r b o e l) len at lt = other (λ h. omega arith) at
    enters_slot slots (suc zero) p s (waits pads zero n y q r b o e l) len at lt = (
      doing (Reads 0) q,
      takes 0 (Some y),
      refl,
      reads pads 0 _ q (lit< tt) (turned n 0 2 o),
      (y, q, subst (IsLater q) (same at) l, e, ap (λ z. (doing (Reads z) q, (z, Some y) ∷ [])) (sym (last_bit n 0 o))),
    )
    enters_slot slots (suc zero) p s (waits pads (suc zero) n y q r b o e l) len at lt = (
      doing (Reads 1) q,
      takes 1 (Some y),
      refl,
      reads pads 1 _ q (lit< tt) (turned n 1 2 o),
      (y, q, subst (IsLater q) (same at) l, e, ap (λ z. (doing (Reads z) q, (z, Some y) ∷ [])) (sym (last_bit n 1 o))),
    )
    enters_slot slots (suc zero) p s (waits pads (suc (suc k)) n y q r b o e l) len at lt = absurd (omega (arith, b))
    enters_slot slots (suc (suc i)) p s (waits pads k n y q r b o e l) len at lt = nothing_there at
    enters_slot slots zero p s (reads pads k n q b o) len at lt = other (λ h. omega arith) at
    enters_slot slots (suc zero) p s (reads pads k n q b o) len at lt = other (λ h. omega arith) at
    enters_slot slots (suc (suc i)) p s (reads pads k n q b o) len at lt = nothing_there at
    enters_slot slots zero p s (stays pads k n y q r b o e l) len at lt = other (λ h. omega arith) at
    enters_slot slots (suc zero) p s (stays pads k n y q r b o e l) len at lt = other (λ h. omega arith) at
    enters_slot slots (suc (suc i)) p s (stays pads k n y q r b o e l) len at lt = nothing_there at
    enters_slot slots zero p s (goes pads k n m x y q r b o e l) len at lt = other (λ h. omega arith) at
    enters_slot slots (suc zero) p s (goes pads zero n m x y q r b o e l) len at lt = (
      doing (Reads 0) q,
      takes 0 (Some y),
      refl,
      moves pads 0 _ m x q (lit< tt) (turned n 0 2 o),
      (y, q, subst (IsLater q) (same at) l, e, ap (λ z. (doing (Reads z) q, (z, Some y) ∷ [])) (sym (last_bit n 0 o))),
    )
    enters_slot slots (suc zero) p s (goes pads (suc zero) n m x y q r b o e l) len at lt = (
      doing (Reads 1) q,
      takes 1 (Some y),
      refl,
      moves pads 1 _ m x q (lit< tt) (turned n 1 2 o),
      (y, q, subst (IsLater q) (same at) l, e, ap (λ z. (doing (Reads z) q, (z, Some y) ∷ [])) (sym (last_bit n 1 o))),
    )
    enters_slot slots (suc zero) p s (goes pads (suc (suc k)) n m x y q r b o e l) len at lt = absurd (omega (arith, b))
    enters_slot slots (suc (suc i)) p s (goes pads k n m x y q r b o e l) len at lt = nothing_there at
    enters_slot slots zero p s (moves pads k n m x q b o) len at lt = other (λ h. omega arith) at
    enters_slot slots (suc zero) p s (moves pads k n m x q b o) len at lt = other (λ h. omega arith) at
    enters_slot slots (suc (suc i)) p s (moves pads k n m x q b o) len at lt = nothing_there at

    abbrev Leaves : ℕ → ℕ → ℕ → Past T → X → Type 0
    Leaves slots id k p x = Allows (IsLane value) slots id (doing (Reads k) p, (k, Some x) ∷ []) 0 (λ n. (n + 2) % 2 ^ 64)
        (lane.leaves (step 0 0 2 0 none) (doing (Reads k) p, (k, Some x) ∷ []))

    leaves_first : (slots id : ℕ) (p : Past T) (u : X) → p.latest ≡ value u → Leaves slots id 0 p u
    leaves_first slots zero p u last s (opens pads y q e) len at lt = other (λ h. omega arith) at
    leaves_first slots (suc i) p u last s (opens pads y q e) len at lt = nothing_there at
    leaves_first slots zero p u last s (holds pads y q e) len at lt = other (λ h. omega arith) at
    leaves_first slots (suc i) p u last s (holds pads y q e) len at lt = nothing_there at
    leaves_first slots zero p u last s (waits pads k n y q r b o e l) len at lt = other (λ h. omega arith) at
    leaves_first slots (suc zero) p u last s (waits pads k n y q r b o e l) len at lt = other (λ h. omega arith) at
    leaves_first slots (suc (suc i)) p u last s (waits pads k n y q r b o e l) len at lt = nothing_there at
    leaves_first slots zero p u last s (reads pads k n q b o) len at lt = other (λ h. omega arith) at
    leaves_first slots (suc zero) p u last s (reads pads zero n q b o) len at lt = (
      doing Waits p,
      gives,
      tt,
      waits pads 0 _ u q p (lit< tt) (turned n 2 2 o) (ap (λ z. z.latest) (same at) ∙ last) (subst (IsLater q) (same at) (later-refl q)),
      refl,
    )
    leaves_first slots (suc zero) p u last s (reads pads (suc zero) n q b o) len at lt = elsewhere (λ h. omega arith) at
    leaves_first slots (suc zero) p u last s (reads pads (suc (suc k)) n q b o) len at lt = absurd (omega (arith, b))
    leaves_first slots (suc (suc i)) p u last s (reads pads k n q b o) len at lt = nothing_there at
    leaves_first slots zero p u last s (stays pads k n y q r b o e l) len at lt = other (λ h. omega arith) at
    leaves_first slots (suc zero) p u last s (stays pads zero n y q r b o e l) len at lt = elsewhere (λ h. omega arith) at
    leaves_first slots (suc zero) p u last s (stays pads (suc zero) n y q r b o e l) len at lt = (
      doing Waits p,
      gives,
      tt,
      goes pads 1 _ n u y q p (lit< tt) (turned n 3 2 o) e (subst (IsLater q) (same at) l),
      refl,
    )
    leaves_first slots (suc zero) p u last s (stays pads (suc (suc k)) n y q r b o e l) len at lt = absurd (omega (arith, b))
    leaves_first slots (suc (suc i)) p u last s (stays pads k n y q r b o e l) len at lt = nothing_there at
    leaves_first slots zero p u last s (goes pads k n m x y q r b o e l) len at lt = other (λ h. omega arith) at
    leaves_first slots (suc zero) p u last s (goes pads k n m x y q r b o e l) len at lt = other (λ h. omega arith) at
    leaves_first slots (suc (suc i)) p u last s (goes pads k n m x y q r b o e l) len at lt = nothing_there at
    leaves_first slots zero p u last s (moves pads k n m x q b o) len at lt = other (λ h. omega arith) at
    leaves_first slots (suc zero) p u last s (moves pads zero n m x q b o) len at lt = (
      doing Waits p,
      gives,
      tt,
      goes pads 0 _ m x u q p (lit< tt) (turned n 2 2 o) (ap (λ z. z.latest) (same at) ∙ last) (subst (IsLater q) (same at) (later-refl q)),
      refl,
    )
    leaves_first slots (suc zero) p u last s (moves pads (suc zero) n m x q b o) len at lt = elsewhere (λ h. omega arith) at
    leaves_first slots (suc zero) p u last s (moves pads (suc (suc k)) n m x q b o) len at lt = absurd (omega (arith, b))
    leaves_first slots (suc (suc i)) p u last s (moves pads k n m x q b o) len at lt = nothing_there at

    leaves_second : (slots id : ℕ) (p : Past T) (u : X) → p.latest ≡ value u → Leaves slots id 1 p u
    leaves_second slots zero p u last s (opens pads y q e) len at lt = other (λ h. omega arith) at
    leaves_second slots (suc i) p u last s (opens pads y q e) len at lt = nothing_there at
    leaves_second slots zero p u last s (holds pads y q e) len at lt = other (λ h. omega arith) at
    leaves_second slots (suc i) p u last s (holds pads y q e) len at lt = nothing_there at
    leaves_second slots zero p u last s (waits pads k n y q r b o e l) len at lt = other (λ h. omega arith) at
    leaves_second slots (suc zero) p u last s (waits pads k n y q r b o e l) len at lt = other (λ h. omega arith) at
    leaves_second slots (suc (suc i)) p u last s (waits pads k n y q r b o e l) len at lt = nothing_there at
    leaves_second slots zero p u last s (reads pads k n q b o) len at lt = other (λ h. omega arith) at
    leaves_second slots (suc zero) p u last s (reads pads zero n q b o) len at lt = elsewhere (λ h. omega arith) at
    leaves_second slots (suc zero) p u last s (reads pads (suc zero) n q b o) len at lt = (
      doing Waits p,
      gives,
      tt,
      waits pads 1 _ u q p (lit< tt) (turned n 3 2 o) (ap (λ z. z.latest) (same at) ∙ last) (subst (IsLater q) (same at) (later-refl q)),
      refl,
    )
    leaves_second slots (suc zero) p u last s (reads pads (suc (suc k)) n q b o) len at lt = absurd (omega (arith, b))
    leaves_second slots (suc (suc i)) p u last s (reads pads k n q b o) len at lt = nothing_there at
    leaves_second slots zero p u last s (stays pads k n y q r b o e l) len at lt = other (λ h. omega arith) at
    leaves_second slots (suc zero) p u last s (stays pads zero n y q r b o e l) len at lt = (
      doing Waits p,
      gives,
      tt,
      goes pads 0 _ n u y q p (lit< tt) (turned n 2 2 o) e (subst (IsLater q) (same at) l),
      refl,
    )
    leaves_second slots (suc zero) p u last s (stays pads (suc zero) n y q r b o e l) len at lt = elsewhere (λ h. omega arith) at
    leaves_second slots (suc zero) p u last s (stays pads (suc (suc k)) n y q r b o e l) len at lt = absurd (omega (arith, b))
    leaves_second slots (suc (suc i)) p u last s (stays pads k n y q r b o e l) len at lt = nothing_there at
    leaves_second slots zero p u last s (goes pads k n m x y q r b o e l) len at lt = other (λ h. omega arith) at
    leaves_second slots (suc zero) p u last s (goes pads k n m x y q r b o e l) len at lt = other (λ h. omega arith) at
    leaves_second slots (suc (suc i)) p u last s (goes pads k n m x y q r b o e l) len at lt = nothing_there at
    leaves_second slots zero p u last s (moves pads k n m x q b o) len at lt = other (λ h. omega arith) at
    leaves_second slots (suc zero) p u last s (moves pads zero n m x q b o) len at lt = elsewhere (λ h. omega arith) at
    leaves_second slots (suc zero) p u last s (moves pads (suc zero) n m x q b o) len at lt = (
      doing Waits p,
      gives,
      tt,
      goes pads 1 _ m x u q p (lit< tt) (turned n 3 2 o) (ap (λ z. z.latest) (same at) ∙ last) (subst (IsLater q) (same at) (later-refl q)),
      refl,
    )
    leaves_second slots (suc zero) p u last s (moves pads (suc (suc k)) n m x q b o) len at lt = absurd (omega (arith, b))
    leaves_second slots (suc (suc i)) p u last s (moves pads k n m x q b o) len at lt = nothing_there at

    pub leaves_slot : (slots id k : ℕ) (p : Past T) (x : X) → k < 2 → p.latest ≡ value x → Leaves slots id k p x
    leaves_slot slots id zero p x small last = leaves_first slots id p x last
    leaves_slot slots id (suc zero) p x small last = leaves_second slots id p x last
    leaves_slot slots id (suc (suc k)) p x small last = absurd (omega (arith, small))

    abbrev Shows : ℕ → ℕ → ℕ → Past T → X → Type 0
    Shows slots id k p y = Allows (IsLane value) slots id (doing (Writes k) p, (1 - k, Some y) ∷ []) 0
        (λ n. (n + turn k) % 2 ^ 64) (lane.shows value (step 0 0 (turn k) 0 none) (doing (Writes k) p, (1 - k, Some y) ∷ []))

    shows_first : (slots id : ℕ) (p : Past T) (u : X) → Shows slots id 0 p u
    shows_first slots zero p u s (opens pads y q e) len at lt = other (λ h. omega arith) at
    shows_first slots (suc i) p u s (opens pads y q e) len at lt = nothing_there at
    shows_first slots zero p u s (holds pads y q e) len at lt = other (λ h. omega arith) at
    shows_first slots (suc i) p u s (holds pads y q e) len at lt = nothing_there at
    shows_first slots zero p u s (waits pads zero n y q r b o e l) len at lt = (
      doing (Writes 1) (followed p (value u)),
      chain gives (takes 0 (Some y)),
      (tt, refl),
      waits pads 1 _ u (followed p (value u)) r (lit< tt) (turned n 0 1 o) refl
          (later-followed p r (value u) (subst (λ z. IsLater z r) (same at) l)),
      (λ h. (y, refl), λ h. absurd (omega (arith, o, h))),
    )
    shows_first slots zero p u s (waits pads (suc zero) n y q r b o e l) len at lt = elsewhere (λ h. omega arith) at
    shows_first slots zero p u s (waits pads (suc (suc k)) n y q r b o e l) len at lt = absurd (omega (arith, b))
    shows_first slots (suc zero) p u s (waits pads k n y q r b o e l) len at lt = other (λ h. omega arith) at
    shows_first slots (suc (suc i)) p u s (waits pads k n y q r b o e l) len at lt = nothing_there at
    shows_first slots zero p u s (reads pads zero n q b o) len at lt = (
      doing (Awaits 1 ((n + turn 0) % 2 ^ 64)) (followed p (value u)),
      gives,
      tt,
      stays pads 1 _ u (followed p (value u)) q (lit< tt) (turned n 2 1 o) refl
          (later-followed p q (value u) (subst (λ z. IsLater z q) (same at) (later-refl q))),
      (λ h. absurd (omega (arith, o, h)), λ h. refl),
    )
    shows_first slots zero p u s (reads pads (suc zero) n q b o) len at lt = elsewhere (λ h. omega arith) at
    shows_first slots zero p u s (reads pads (suc (suc k)) n q b o) len at lt = absurd (omega (arith, b))
    shows_first slots (suc zero) p u s (reads pads k n q b o) len at lt = other (λ h. omega arith) at
    shows_first slots (suc (suc i)) p u s (reads pads k n q b o) len at lt = nothing_there at
    shows_first slots zero p u s (stays pads k n y q r b o e l) len at lt = other (λ h. omega arith) at
    shows_first slots (suc zero) p u s (stays pads k n y q r b o e l) len at lt = other (λ h. omega arith) at
    shows_first slots (suc (suc i)) p u s (stays pads k n y q r b o e l) len at lt = nothing_there at
    shows_first slots zero p u s (goes pads k n m x y q r b o e l) len at lt = other (λ h. omega arith) at
    shows_first slots (suc zero) p u s (goes pads k n m x y q r b o e l) len at lt = other (λ h. omega arith) at
    shows_first slots (suc (suc i)) p u s (goes pads k n m x y q r b o e l) len at lt = nothing_there at
    shows_first slots zero p u s (moves pads k n m x q b o) len at lt = other (λ h. omega arith) at
    shows_first slots (suc zero) p u s (moves pads k n m x q b o) len at lt = other (λ h. omega arith) at
    shows_first slots (suc (suc i)) p u s (moves pads k n m x q b o) len at lt = nothing_there at

    shows_second : (slots id : ℕ) (p : Past T) (u : X) → Shows slots id 1 p u
    shows_second slots zero p u s (opens pads y q e) len at lt = other (λ h. omega arith) at
    shows_second slots (suc i) p u s (opens pads y q e) len at lt = nothing_there at
    shows_second slots zero p u s (holds pads y q e) len at lt = other (λ h. omega arith) at
    shows_second slots (suc i) p u s (holds pads y q e) len at lt = nothing_there at
    shows_second slots zero p u s (waits pads zero n y q r b o e l) len at lt = elsewhere (λ h. omega arith) at
    shows_second slots zero p u s (waits pads (suc zero) n y q r b o e l) len at lt = (
      doing (Writes 0) (followed p (value u)),
      chain gives (takes 1 (Some y)),
      (tt, refl),
      waits pads 0 _ u (followed p (value u)) r (lit< tt) (turned n 1 (2 ^ 64 - 1) o) refl
          (later-followed p r (value u) (subst (λ z. IsLater z r) (same at) l)),
      (λ h. (y, refl), λ h. absurd (omega (arith, o, h))),
    )
    shows_second slots zero p u s (waits pads (suc (suc k)) n y q r b o e l) len at lt = absurd (omega (arith, b))
    shows_second slots (suc zero) p u s (waits pads k n y q r b o e l) len at lt = other (λ h. omega arith) at
    shows_second slots (suc (suc i)) p u s (waits pads k n y q r b o e l) len at lt = nothing_there at
    shows_second slots zero p u s (reads pads zero n q b o) len at lt = elsewhere (λ h. omega arith) at
    shows_second slots zero p u s (reads pads (suc zero) n q b o) len at lt = (
      doing (Awaits 0 ((n + turn 1) % 2 ^ 64)) (followed p (value u)),
      gives,
      tt,
      stays pads 0 _ u (followed p (value u)) q (lit< tt) (turned n 3 (2 ^ 64 - 1) o) refl
          (later-followed p q (value u) (subst (λ z. IsLater z q) (same at) (later-refl q))),
      (λ h. absurd (omega (arith, o, h)), λ h. refl),
    )
    shows_second slots zero p u s (reads pads (suc (suc k)) n q b o) len at lt = absurd (omega (arith, b))
    shows_second slots (suc zero) p u s (reads pads k n q b o) len at lt = other (λ h. omega arith) at
    shows_second slots (suc (suc i)) p u s (reads pads k n q b o) len at lt = nothing_there at
    shows_second slots zero p u s (stays pads k n y q r b o e l) len at lt = other (λ h. omega arith) at
    shows_second slots (suc zero) p u s (stays pads k n y q r b o e l) len at lt = other (λ h. omega arith) at
    shows_second slots (suc (suc i)) p u s (stays pads k n y q r b o e l) len at lt = nothing_there at
    shows_second slots zero p u s (goes pads k n m x y q r b o e l) len at lt = other (λ h. omega arith) at
    shows_second slots (suc zero) p u s (goes pads k n m x y q r b o e l) len at lt = other (λ h. omega arith) at
    shows_second slots (suc (suc i)) p u s (goes pads k n m x y q r b o e l) len at lt = nothing_there at
    shows_second slots zero p u s (moves pads k n m x q b o) len at lt = other (λ h. omega arith) at
    shows_second slots (suc zero) p u s (moves pads k n m x q b o) len at lt = other (λ h. omega arith) at
    shows_second slots (suc (suc i)) p u s (moves pads k n m x q b o) len at lt = nothing_there at

    pub shows_slot : (slots id k : ℕ) (p : Past T) (y : X) → k < 2 → Shows slots id k p y
    shows_slot slots id zero p y small = shows_first slots id p y
    shows_slot slots id (suc zero) p y small = shows_second slots id p y
    shows_slot slots id (suc (suc k)) p y small = absurd (omega (arith, small))

    abbrev Collects : ℕ → ℕ → ℕ → ℕ → Past T → Type 0
    Collects slots id k word p = Allows (IsLane value) slots id (doing (Awaits k word) p, []) 0 (λ n. n)
        (lane.collects (step 0 0 0 0 none) (doing (Awaits k word) p, []))

    -- the writer knows what it knew
    unchanged : {r : Role} {q p : Past T} {k word : ℕ} → some (doing r q) ≡ some (doing (Awaits k word) p)
        → ◌≡◌ {A = Me (Option X) (Doing T)} (doing r q, []) (doing (Awaits k word) p, [])
    unchanged at = ap (λ d. (d, [])) (some-injective _ _ at)

    collects_first : (slots id word : ℕ) (p : Past T) → Collects slots id 0 word p
    collects_first slots zero word p s (opens pads y q e) len at lt = other (λ h. omega arith) at
    collects_first slots (suc i) word p s (opens pads y q e) len at lt = nothing_there at
    collects_first slots zero word p s (holds pads y q e) len at lt = other (λ h. omega arith) at
    collects_first slots (suc i) word p s (holds pads y q e) len at lt = nothing_there at
    collects_first slots zero word p s (waits pads k n y q r b o e l) len at lt = other (λ h. omega arith) at
    collects_first slots (suc zero) word p s (waits pads k n y q r b o e l) len at lt = other (λ h. omega arith) at
    collects_first slots (suc (suc i)) word p s (waits pads k n y q r b o e l) len at lt = nothing_there at
    collects_first slots zero word p s (reads pads k n q b o) len at lt = other (λ h. omega arith) at
    collects_first slots (suc zero) word p s (reads pads k n q b o) len at lt = other (λ h. omega arith) at
    collects_first slots (suc (suc i)) word p s (reads pads k n q b o) len at lt = nothing_there at
    collects_first slots zero word p s (stays pads zero n y q r b o e l) len at lt = (
      doing (Awaits 0 n) q,
      keeps,
      tt,
      stays pads 0 n y q r b o e l,
      (λ ne. absurd (ne (ap (λ d. awaited_of d.role) (some-injective _ _ at))), λ h. unchanged at),
    )
    collects_first slots zero word p s (stays pads (suc zero) n y q r b o e l) len at lt = elsewhere (λ h. omega arith) at
    collects_first slots zero word p s (stays pads (suc (suc k)) n y q r b o e l) len at lt = absurd (omega (arith, b))
    collects_first slots (suc zero) word p s (stays pads k n y q r b o e l) len at lt = other (λ h. omega arith) at
    collects_first slots (suc (suc i)) word p s (stays pads k n y q r b o e l) len at lt = nothing_there at
    collects_first slots zero word p s (goes pads zero n m x y q r b o e l) len at lt = elim (cases_eq n word) [
      | inl is ↦ (
        doing (Awaits 0 m) q,
        keeps,
        tt,
        goes pads 0 n m x y q r b o e l,
        (λ ne. absurd (ne is), λ h. unchanged at),
      )
      | inr ne ↦ (
        doing (Writes 0) q,
        takes 1 (Some x),
        refl,
        waits pads 0 n y q r b o e l,
        (λ h. (x, ap (λ z. (doing (Writes 0) z, (1, Some x) ∷ [])) (same at)), λ h. absurd (ne h)),
      )
    ]
    collects_first slots zero word p s (goes pads (suc zero) n m x y q r b o e l) len at lt = elsewhere (λ h. omega arith) at
    collects_first slots zero word p s (goes pads (suc (suc k)) n m x y q r b o e l) len at lt = absurd (omega (arith, b))
    collects_first slots (suc zero) word p s (goes pads k n m x y q r b o e l) len at lt = other (λ h. omega arith) at
    collects_first slots (suc (suc i)) word p s (goes pads k n m x y q r b o e l) len at lt = nothing_there at
    collects_first slots zero word p s (moves pads zero n m x q b o) len at lt = elim (cases_eq n word) [
      | inl is ↦ (
        doing (Awaits 0 m) q,
        keeps,
        tt,
        moves pads 0 n m x q b o,
        (λ ne. absurd (ne is), λ h. unchanged at),
      )
      | inr ne ↦ (
        doing (Writes 0) q,
        takes 1 (Some x),
        refl,
        reads pads 0 n q b o,
        (λ h. (x, ap (λ z. (doing (Writes 0) z, (1, Some x) ∷ [])) (same at)), λ h. absurd (ne h)),
      )
    ]
    collects_first slots zero word p s (moves pads (suc zero) n m x q b o) len at lt = elsewhere (λ h. omega arith) at
    collects_first slots zero word p s (moves pads (suc (suc k)) n m x q b o) len at lt = absurd (omega (arith, b))
    collects_first slots (suc zero) word p s (moves pads k n m x q b o) len at lt = other (λ h. omega arith) at
    collects_first slots (suc (suc i)) word p s (moves pads k n m x q b o) len at lt = nothing_there at

    collects_second : (slots id word : ℕ) (p : Past T) → Collects slots id 1 word p
    collects_second slots zero word p s (opens pads y q e) len at lt = other (λ h. omega arith) at
    collects_second slots (suc i) word p s (opens pads y q e) len at lt = nothing_there at
    collects_second slots zero word p s (holds pads y q e) len at lt = other (λ h. omega arith) at
    collects_second slots (suc i) word p s (holds pads y q e) len at lt = nothing_there at
    collects_second slots zero word p s (waits pads k n y q r b o e l) len at lt = other (λ h. omega arith) at
    collects_second slots (suc zero) word p s (waits pads k n y q r b o e l) len at lt = other (λ h. omega arith) at
    collects_second slots (suc (suc i)) word p s (waits pads k n y q r b o e l) len at lt = nothing_there at
    collects_second slots zero word p s (reads pads k n q b o) len at lt = other (λ h. omega arith) at
    collects_second slots (suc zero) word p s (reads pads k n q b o) len at lt = other (λ h. omega arith) at
    collects_second slots (suc (suc i)) word p s (reads pads k n q b o) len at lt = nothing_there at
    collects_second slots zero word p s (stays pads zero n y q r b o e l) len at lt = elsewhere (λ h. omega arith) at
    collects_second slots zero word p s (stays pads (suc zero) n y q r b o e l) len at lt = (
      doing (Awaits 1 n) q,
      keeps,
      tt,
      stays pads 1 n y q r b o e l,
      (λ ne. absurd (ne (ap (λ d. awaited_of d.role) (some-injective _ _ at))), λ h. unchanged at),
    )
    collects_second slots zero word p s (stays pads (suc (suc k)) n y q r b o e l) len at lt = absurd (omega (arith, b))
    collects_second slots (suc zero) word p s (stays pads k n y q r b o e l) len at lt = other (λ h. omega arith) at
    collects_second slots (suc (suc i)) word p s (stays pads k n y q r b o e l) len at lt = nothing_there at
    collects_second slots zero word p s (goes pads zero n m x y q r b o e l) len at lt = elsewhere (λ h. omega arith) at
    collects_second slots zero word p s (goes pads (suc zero) n m x y q r b o e l) len at lt = elim (cases_eq n word) [
      | inl is ↦ (
        doing (Awaits 1 m) q,
        keeps,
        tt,
        goes pads 1 n m x y q r b o e l,
        (λ ne. absurd (ne is), λ h. unchanged at),
      )
      | inr ne ↦ (
        doing (Writes 1) q,
        takes 0 (Some x),
        refl,
        waits pads 1 n y q r b o e l,
        (λ h. (x, ap (λ z. (doing (Writes 1) z, (0, Some x) ∷ [])) (same at)), λ h. absurd (ne h)),
      )
    ]
    collects_second slots zero word p s (goes pads (suc (suc k)) n m x y q r b o e l) len at lt = absurd (omega (arith, b))
    collects_second slots (suc zero) word p s (goes pads k n m x y q r b o e l) len at lt = other (λ h. omega arith) at
    collects_second slots (suc (suc i)) word p s (goes pads k n m x y q r b o e l) len at lt = nothing_there at
    collects_second slots zero word p s (moves pads zero n m x q b o) len at lt = elsewhere (λ h. omega arith) at
    collects_second slots zero word p s (moves pads (suc zero) n m x q b o) len at lt = elim (cases_eq n word) [
      | inl is ↦ (
        doing (Awaits 1 m) q,
        keeps,
        tt,
        moves pads 1 n m x q b o,
        (λ ne. absurd (ne is), λ h. unchanged at),
      )
      | inr ne ↦ (
        doing (Writes 1) q,
        takes 0 (Some x),
        refl,
        reads pads 1 n q b o,
        (λ h. (x, ap (λ z. (doing (Writes 1) z, (0, Some x) ∷ [])) (same at)), λ h. absurd (ne h)),
      )
    ]
    collects_second slots zero word p s (moves pads (suc (suc k)) n m x q b o) len at lt = absurd (omega (arith, b))
    collects_second slots (suc zero) word p s (moves pads k n m x q b o) len at lt = other (λ h. omega arith) at
    collects_second slots (suc (suc i)) word p s (moves pads k n m x q b o) len at lt = nothing_there at

    pub collects_slot : (slots id k word : ℕ) (p : Past T) → k < 2 → Collects slots id k word p
    collects_slot slots id zero word p small = collects_first slots id word p
    collects_slot slots id (suc zero) word p small = collects_second slots id word p
    collects_slot slots id (suc (suc k)) word p small = absurd (omega (arith, small))

    -- the same for a seat of which an equation says where it is
    pub may_take : (slots id : ℕ) (m : Me (Option X) (Doing T)) (p : Past T) → m ≡ (doing Opens p, [])
        → Allows (IsLane value) slots id m 0 (λ n. n) (lane.takes (step 0 0 0 0 none) m)
    may_take slots id m p e = subst
        (λ v. Allows (IsLane value) slots id v 0 (λ n. n) (lane.takes (step 0 0 0 0 none) v)) (sym e)
        (takes_slot slots id p)

    pub may_enter : (slots id : ℕ) (m : Me (Option X) (Doing T)) (p : Past T) → m ≡ (doing Waits p, [])
        → Allows (IsLane value) slots id m 0 (λ n. (n + 2) % 2 ^ 64) (lane.enters value (step 0 0 2 0 none) m)
    may_enter slots id m p e =
        subst (λ v. Allows (IsLane value) slots id v 0 (λ n. (n + 2) % 2 ^ 64)
        (lane.enters value (step 0 0 2 0 none) v)) (sym e) (enters_slot slots id p)

    pub may_leave : (slots id k : ℕ) (m : Me (Option X) (Doing T)) (p : Past T) (x : X)
        → m ≡ (doing (Reads k) p, (k, Some x) ∷ [])
        → k < 2 → p.latest ≡ value x
        → Allows (IsLane value) slots id m 0 (λ n. (n + 2) % 2 ^ 64) (lane.leaves (step 0 0 2 0 none) m)
    may_leave slots id k m p x e small last =
        subst (λ v. Allows (IsLane value) slots id v 0 (λ n. (n + 2) % 2 ^ 64) (lane.leaves (step 0 0 2 0 none) v))
        (sym e) (leaves_slot slots id k p x small last)

    pub may_show : (slots id k t : ℕ) (m : Me (Option X) (Doing T)) (p : Past T) (y : X)
        → m ≡ (doing (Writes k) p, (1 - k, Some y) ∷ []) → k < 2 → t ≡ turn k
        → Allows (IsLane value) slots id m 0 (λ n. (n + t) % 2 ^ 64) (lane.shows value (step 0 0 t 0 none) m)
    may_show slots id k t m p y e small is =
        subst (λ z. Allows (IsLane value) slots id m 0 (λ n. (n + z) % 2 ^ 64) (lane.shows value (step 0 0 z 0 none) m))
        (sym is) (subst (λ v. Allows (IsLane value) slots id v 0 (λ n. (n + turn k) % 2 ^ 64)
        (lane.shows value (step 0 0 (turn k) 0 none) v)) (sym e) (shows_slot slots id k p y small))

    pub may_collect : (slots id k word : ℕ) (m : Me (Option X) (Doing T)) (p : Past T)
        → m ≡ (doing (Awaits k word) p, []) → k < 2
        → Allows (IsLane value) slots id m 0 (λ n. n) (lane.collects (step 0 0 0 0 none) m)
    may_collect slots id k word m p e small =
        subst (λ v. Allows (IsLane value) slots id v 0 (λ n. n) (lane.collects (step 0 0 0 0 none) v)) (sym e)
        (collects_slot slots id k word p small)

    pub may_part : (id : ℕ) (d : Doing T) (p : Past T) → d ≡ doing Holds p
        → Splits (IsLane value) id d (doing (Writes 0) d.past) (doing Waits d.past)
    may_part id d p e = subst (λ v. Splits (IsLane value) id v (doing (Writes 0) v.past) (doing Waits v.past)) (sym e)
        (parts_lane id p)

-- the slot that was taken last
pub front : {S : Type 0} (c cs : List (ℕ × S)) (k : ℕ) (y : S) → c ≡ (k, y) ∷ cs → c ≡ (k, y) ∷ rest c
front c cs k y e = e ∙ ap (λ r. (k, y) ∷ rest r) (sym e)

module _ {X T : Type 0} where
  pub outside : (h : Option X) (side : ℕ) (p : Past T) → lane.is_some h ≡ false
      → lane.reader_at h side p ≡ (doing Waits p, [])
  outside None side p e = refl
  outside (Some x) side p e = absurd (true≢false e)

  -- the writer has an empty slot
  pub owed_nothing : (awaited : Option ℕ) (side : ℕ) (p : Past T) → lane.is_some awaited ≡ false
      → lane.writer_at {X = X} awaited side p ≡ (doing (Writes side) p, (1 - side, None) ∷ [])
  owed_nothing None side p e = refl
  owed_nothing (Some word) side p e = absurd (true≢false e)

  -- the writer awaits a change of the word
  pub awaiting : (awaited : Option ℕ) (side word : ℕ) (m : Me (Option X) (Doing T)) (p : Past T)
      → m ≡ lane.writer_at awaited side p → awaited ≡ Some word → m ≡ (doing (Awaits side word) p, [])
  awaiting awaited side word m p at is = at ∙ ap (λ a. lane.writer_at a side p) is

  -- the slot has h in it
  pub filled : (role : Role) (k : ℕ) (y h : Option X) (m w : Me (Option X) (Doing T)) (p : Past T)
      → m ≡ (doing role p, (k, y) ∷ []) → w ≡ (m.0, (k, h) ∷ rest m.1) → w ≡ (doing role p, (k, h) ∷ [])
  filled role k y h m w p e f = f ∙ ap (λ z. (z.0, (k, h) ∷ rest z.1)) e

  pub may_leave_with : (value : X
      → T) (slots id side : ℕ) (h given : Option X) (m w : Me (Option X) (Doing T)) (p : Past T)
      → side < 2 → lane.is_some h ≡ true → given ≡ h → m ≡ lane.reader_at h side p → lane.IsLast value h p
      → w ≡ (m.0, (side, given) ∷ rest m.1)
      → Allows (IsLane value) slots id w 0 (λ n. (n + 2) % 2 ^ 64) (lane.leaves (step 0 0 2 0 none) w)
  may_leave_with value slots id side None given m w p small is same_h at last put = absurd (false≢true is)
  may_leave_with value slots id side (Some x) given m w p small is same_h at last put =
      may_leave value slots id side w p x (filled (Reads side) side None (Some x) m w p at (put
      ∙ ap (λ z. (m.0, (side, z) ∷ rest m.1)) same_h)) small last

-- the table of a new lane
pub opened : {X T : Type 0} (value : X → T) (pads : List ℕ) (xs : List (Option X)) (x : X) (p : Past T)
    → xs ≡ Some x ∷ None ∷ [] → p.latest ≡ value x → IsLane value (opening (0 ∷ pads) xs (doing Opens p))
opened value pads xs x p e last = subst (λ ys. IsLane value (opening (0 ∷ pads) ys (doing Opens p))) (sym e)
    (opens pads x p last)
