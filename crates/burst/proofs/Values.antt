-- What the walks share: a slot's machine value, and what a slot owns at it. Assumes `Logic`.
use mathlib.Core.Path.{◌≡◌, refl, ap, ◌∙◌}
use mathlib.Core.List.{List, [], ◌∷◌, ◌++◌}
use seplogic.Ra.Ura.{Ura}
use mir.Syntax.{Ty}
use lib.Dec.{T}
use mir.Val.{Val, vstruct, vcons, vnil, of_list, has_ty, WT}
use base.Logic.{SProp, sep, emp, via}
use base.Fml.{ftrue}
use types.Logic.{Logic}
use contract.Monad.{fact, fact_i}
use types.Kit.{Item, Goal, Seq, Step, step, prop, ‵, raw, ◌$◌, !, qed, move, drop as skip, use0, rewrite, fsplit, fjoin, feq_i, feq_l, fpick, fpack, frame, done}
use denote.RattleType.{RattleType, Valss}
use denote.Laws.{Typed, Is, shows}
use denote.Memory.{lone}
use denote.Param.{param, layout}
use denote.Param.Laws.{Laws, param_laws}
use denote.Steps.{nothing, peeks}
use denote.Struct.Declared.{shape}
use denote.Struct.Struct.{within, as_fields}
use Rattle.std.specs.Prelude.{Some, None}
use Rattle.burst.specs.contracts.slot.Slot as C
use Rattle.burst.specs.contracts.slot.Slot.TheInside.{the_type}

abbrev pub Good : Ty → Val → Type 0
Good τ v = T (has_ty τ v) × WT v

pub one : (τ : Ty) (vs : List Val) → Typed (τ ∷ []) vs → (v : Val) × (vs ≡ v ∷ []) × Good τ v
one τ [] t = absurd t
one τ (v ∷ []) t = (v, refl, t.0)
one τ (v ∷ w ∷ vs) t = absurd t.1

-- a struct of one field
abbrev pub round : Val → Val
round v = vstruct (vcons v vnil)

module _ (U : RattleType) where
  abbrev pub S : RattleType
  S = C.the_row (param 0 U)

  abbrev pub τ : Ty
  τ = layout U

  abbrev pub σ : Ty
  σ = lone S.mir

module _ {M : Type 1} {𝓤 : Ura M} {𝓛 : Logic 𝓤} {K : Type 0} {Γ : List (Item 𝓤)} {G : Goal 𝓤 𝓛.H} where
  -- a slot is one machine value
  pub slot_had : K → (U : RattleType) (d : (S U).Denot) (vs : List Val) → ((v : Val) → vs ≡ v ∷ [] → Good (σ U) v → Seq K 𝓛 (‵ ((S U).own_val d (v ∷ [])) ∷ Γ) G) → Seq K 𝓛 (‵ ((S U).own_val d vs) ∷ Γ) G
  slot_had t U d vs k = fsplit t $ fpick t (λ ty. let got = one (σ U) vs ty in
      fpack t (Typed (S U).mir vs) (λ _. ftrue) ty $ fjoin t $
      rewrite t 0 (λ (us : List Val). ‵ ((S U).own_val d us)) got.1 refl $ k got.0 got.1 got.2)

  -- any bits are a slot that has no value
  pub none_made : K → (U : RattleType) (v : Val) → Good (σ U) v → Step K 𝓛 (‵ ((S U).own_val None (v ∷ [])) ∷ Γ) G Γ G
  none_made t U v good = step (λ s. nothing t $ nothing t $ fpack t (Typed (S U).mir (v ∷ [])) (λ _. ftrue) (good, tt) $ fjoin t $ s)

  -- the value's own machine value is in the slot's
  pub some_had : K → (U : RattleType) → Laws U → (u : U.Denot) (vs : List Val)
      → ((v : Val) → vs ≡ round v ∷ [] → Good (τ U) v → Seq K 𝓛 (‵ (U.own_val u (v ∷ [])) ∷ Γ) G) → Seq K 𝓛 (‵ ((S U).own_val (Some u) vs) ∷ Γ) G
  some_had t U L u vs k = fsplit t $ skip t $ fpick t (λ vss. fsplit t $ feq_l t (λ e. fsplit t $
      peeks t (param 0 U) (Is (param 0 U)) (shows 𝓛 (param 0 U)) u vss.0 (λ is.
      let got = one (τ U) vss.0 (((param_laws 0 U L).lawful 𝓛).typed u vss.0 is) in
      rewrite t 0 (λ (us : List Val). ‵ (U.own_val u us)) got.1 refl $ move t (1 ∷ []) $ skip t $
      k got.0 (e ∙ ap (λ (ws : List Val). vstruct (of_list (ws ++ [])) ∷ []) got.1) got.2)))

  pub some_made : K → (U : RattleType) (u : U.Denot) (v : Val) → Good (τ U) v → Step K 𝓛 (‵ ((S U).own_val (Some u) (round v ∷ [])) ∷ Γ) G (‵ (U.own_val u (v ∷ [])) ∷ Γ) G
  some_made t U u v good = step (λ s. nothing t $ move t (1 ∷ 0 ∷ []) $ fjoin t $ feq_i t (List Val) (round v ∷ []) (round v ∷ []) refl $ fjoin t $
      fpack t (Valss (param 0 U ∷ [])) (within (shape (the_type (param 0 U))) (u, tt) (round v ∷ [])) (v ∷ [], tt) $
      nothing t $ fpack t (Typed (S U).mir (round v ∷ [])) (λ _. ftrue) (as_fields (τ U ∷ []) (v ∷ []) (good, tt), tt) $ fjoin t $ s)

module _ {M : Type 1} {𝓤 : Ura M} (𝓛 : Logic 𝓤) {K : Type 0} {Γ : List (Item 𝓤)} where
  -- an `ensures` of two facts
  pub says_both : K → {φ ψ : Type 0} {P : SProp 𝓤} → φ → ψ → Step K 𝓛 Γ (prop P) Γ (prop (sep 𝓤 P (sep 𝓤 (fact 𝓤 φ) (fact 𝓤 ψ))))
  says_both t {φ} {ψ} {P} x y = step (λ s. record {
    prf = via 𝓤 P s.prf (qed 𝓛 (raw P ∷ []) {P = sep 𝓤 P (sep 𝓤 (fact 𝓤 φ) (fact 𝓤 ψ))} (
        frame ! $ use0 𝓛 (raw (fact 𝓤 ψ)) (fact_i 𝓤 ψ (emp 𝓤) y) $ use0 𝓛 (raw (fact 𝓤 φ)) (fact_i 𝓤 φ (emp 𝓤) x) $ done !));
  })
