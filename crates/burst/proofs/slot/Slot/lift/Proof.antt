-- `lift` copies the bits, and what the slot had goes with the copy. Assumes `Logic`.
use mathlib.Core.Path.{◌≡◌, refl, sym, subst}
use mathlib.Core.List.{List, [], ◌∷◌, ◌++◌}
use seplogic.Ra.Ura.{Ura}
use mir.Syntax.{Fn, named, a_type}
use mir.MapTy.{inst_fn}
use mir.Val.{Val, vptr}
use Prim.Native.Nat.{ℕ}
use base.Fraction.{full_share}
use base.Logic.{SProp, ent, sep, emp, via, fst∗}
use base.Fml.{Lft, GName, Share, ftrue, flft, fobs, fbor}
use prog.Wp.{Env, Calls, Loops, WpFn, Tables}
use types.Logic.{Logic}
use contract.Monad.{fact}
use contract.Running.{tables, tables_of}
use sound.WpLaws.{WpFn-mono}
use types.Kit.{Item, ⋆, ‵, ◌⊛◌, at_ret, ◌$◌, ◌∵◌, !, qed, by, move, keep, split, join, rewrite, fsplit, fsplit3, fjoin, fjoin3, feq_i, feq_l, suffices, frame, done}
use types.Run.{look_raw, stop, addr, load, of_opd, first, blocks, exec, returns, enter}
use types.ByLocal.{alloc_all, pass_all, free_all, look_at, get, through, sets, sets_last, env}
use types.SemTy.{Body as Borrowed}
use denote.Exit.{yes}
use denote.RattleType.{RattleType, owns}
use denote.Memory.{mem, cell_at}
use denote.Param.{layouts}
use denote.Ref.{MutBor, MutRef}
use denote.Builtin.{RefMutOf}
use denote.Signature.{plain}
use denote.Steps.{nothing, opens, closes}
use denote.Triple.Carry.{spared}
use denote.Triple.Clauses.{Clauses, Ended, closing}
use denote.Triple.Entry.{on_entry}
use denote.Triple.Spec.{Meets, triple_of}
use denote.Triple.Table.{entered, run_framed}
use denote.Triple.Walked.{Stays, stay_ref, walk_of, ends_at, Goes-ref, walk_Meets}
use Rattle.std.proofs.VecSteps.Shapes.{after}
use Rattle.std.specs.Prelude.{None}
use Rattle.burst.proofs.Values.{S, slot_had, none_made, says_both}
use Rattle.burst.specs.contracts.slot.Slot.lift.Key.{name as #self}
use Rattle.burst.proofs.slot.Slot.lift.Statement as stated
use Rattle.burst.proofs.slot.Slot.lift.Code as code

module _ (U : RattleType) where
  abbrev function : Fn
  function = inst_fn (layouts (a_type ∷ []) (U, tt)) code.function

  abbrev ended : Ended
  ended = record { signature = record { lifetimes = 1; outlives = []; params = RefMutOf (0 ∷ []) tt (plain (λ _. S U)) (λ _. tt) ∷ []; result = plain (λ _. S U) }; kept = (yes, tt) }

  abbrev stayed : Stays ended.signature.params ended.kept
  stayed = (stay_ref (0 ∷ []) tt (plain (λ _. S U)), tt)

  abbrev spec : {M : Type 1} (𝓤 : Ura M) → Clauses 𝓤 ended
  spec 𝓤 κs a = record { ghost = Unit {0}; requires = λ _. emp 𝓤; ensures = λ _ r w. sep 𝓤 (fact 𝓤 (r ≡ a.0.now)) (fact 𝓤 (w.0.now ≡ None)) }

module _ (U : RattleType) {M : Type 1} {𝓤 : Ura M} (𝓛 : Logic 𝓤) (C : Calls 𝓤 𝓛.H) (Λ : Loops 𝓤 𝓛.H) (κ : Lft) (q : Share) (b o : ℕ) (γ : GName) (d : (S U).Denot) (us0 : List Val) where
  open 𝓛 use {H, A}

  abbrev self : MutBor (S U).Denot
  self = record { ref_ptr = (b, o); ghost_name = γ; now = d }

  abbrev bound : (walk_of 𝓛 (ended U) (stayed U) (spec U 𝓤)).Ghost
  bound = (((κ, tt), (q, tt), tt, (self, tt), (us0, tt)), tt)

  abbrev Post : Val → SProp 𝓤
  Post = (walk_of 𝓛 (ended U) (stayed U) (spec U 𝓤)).post bound

  exits : us0 ≡ vptr b o ∷ [] → (v : Val) → ent 𝓤 (⋆ 𝓛 (‵ (fobs γ ((S U).coded.code None)) ∷ ‵ (fbor κ (Borrowed (mem (S U)) b o γ)) ∷ ‵ (flft κ q) ∷ ‵ ((S U).own_val d (v ∷ [])) ∷ [])) (Post v)
  exits passed v =
      qed 𝓛 (‵ (fobs γ ((S U).coded.code None)) ∷ ‵ (fbor κ (Borrowed (mem (S U)) b o γ)) ∷ ‵ (flft κ q) ∷ ‵ ((S U).own_val d (v ∷ [])) ∷ []) ∵
      suffices ! _ (ends_at 𝓛 (ended U) (stayed U) (spec U 𝓤) bound v d (None, tt) (tt, tt)) $ says_both 𝓛 ! refl refl $
      nothing ! $ move ! (3 ∷ 0 ∷ []) $ join ! $ frame ! $ feq_i ! (List Val) us0 (vptr b o ∷ []) passed $ fjoin3 ! $ nothing ! $ move ! (1 ∷ 0 ∷ []) $ fjoin ! $ done !

  abbrev Had : List (Item 𝓤)
  Had = ‵ (fobs γ ((S U).coded.code d)) ∷ ‵ (fbor κ (Borrowed (mem (S U)) b o γ)) ∷ ‵ (flft κ q) ∷ []

  walk : us0 ≡ vptr b o ∷ [] → ent 𝓤 (⋆ 𝓛 Had) (WpFn 𝓤 H C Λ (function U) (vptr b o ∷ []) Post)
  walk passed =
      qed 𝓛 Had ∵ enter ! C Λ (function U) (vptr b o ∷ []) _ $ alloc_all ! (λ l. pass_all ! refl ((tt, tt), tt) $
      let En : Env 𝓤 H = env (function U).locals l in
      opens ! tt (S U) {h = d} b o (λ vs. move ! (1 ∷ []) $ slot_had ! U d vs (λ v e good.
      rewrite ! 1 (λ (us : List Val). ‵ (cell_at full_share (S U).mir us b o)) e refl $ move ! (1 ∷ []) $
      sets ! (addr ! (through ! refl (stop !))) refl (tt, tt) $
      first ! $ blocks ! $
      sets_last ! (of_opd ! (load ! (through ! refl (stop !)) (look_raw ! 0 refl))) refl good $
      exec ! C Λ En (after 2 (function U).body) (at_ret En Post) $
      sets ! (of_opd ! (get ! refl)) refl good $
      none_made ! U v good $ move ! (1 ∷ 0 ∷ 3 ∷ 4 ∷ 5 ∷ []) $
      closes ! tt (S U) None (v ∷ []) b o $
      returns ! (look_at ! 0 refl) $ free_all ! refl $ keep ! (0 ∷ 1 ∷ 2 ∷ 3 ∷ []) $ by ! (exits passed v))))

  entry : ent 𝓤 (on_entry 𝓛 (ended U).signature (κ, tt) (q, tt) (self, tt) (us0, tt)) (WpFn 𝓤 H C Λ (function U) (us0 ++ []) Post)
  entry =
      qed 𝓛 ((‵ (flft κ q) ⊛ ‵ ftrue) ∷ ‵ (owns (MutRef (named 0) κ (S U) ∷ []) (self, tt) (us0, tt)) ∷ []) ∵
      split ! $ move ! (2 ∷ []) $ fsplit ! $ fsplit3 ! $ feq_l ! (λ e0.
      keep ! (0 ∷ 1 ∷ 3 ∷ []) $
      by ! (subst (λ (ws : List Val). ent 𝓤 (⋆ 𝓛 Had) (WpFn 𝓤 H C Λ (function U) (ws ++ []) Post)) (sym e0) (walk e0)))

meets : (U : RattleType) {M : Type 1} {𝓤 : Ura M} (𝓛 : Logic 𝓤) (𝓣 : Tables 𝓤 𝓛.H)
    → Meets 𝓛 (ended U).signature (WpFn 𝓤 𝓛.H 𝓣.C 𝓣.Λ (function U)) (closing 𝓛 (ended U) (spec U 𝓤))
meets U {𝓤 = 𝓤} 𝓛 𝓣 =
    walk_Meets 𝓛 (ended U) (stayed U) (Goes-ref 𝓛 1 0 tt (plain (λ _. S U)), tt) (spec U 𝓤) (WpFn 𝓤 𝓛.H 𝓣.C 𝓣.Λ (function U)) (WpFn-mono 𝓤 𝓛.H 𝓛.laws 𝓣 (function U))
    (λ z. via 𝓤 (on_entry 𝓛 (ended U).signature z.0.0 z.0.1 z.0.3 z.0.4) (fst∗ 𝓤 _ (emp 𝓤)) (entry U 𝓛 𝓣.C 𝓣.Λ z.0.0.0 z.0.1.0 z.0.3.0.ref_ptr.0 z.0.3.0.ref_ptr.1 z.0.3.0.ghost_name z.0.3.0.now z.0.4.0))

pub lift_spec : {M : Type 1} → stated.statement M
unfolding tables_of
lift_spec 𝓤 𝓛 𝓜 𝓡 wired U L y =
    let 𝓣 : Tables 𝓤 𝓛.H = tables_of 𝓤 𝓛.H 𝓜 (tables 𝓤 𝓛.H 𝓜 𝓡 𝓡.env) in
    let k = #self (layouts (a_type ∷ []) (U, tt)) in
    spared 𝓛 (ended U).signature (𝓡.run (𝓡.env k)) (run_framed 𝓤 𝓛.H 𝓜 𝓡 (𝓡.env k)) 1 (U.lives, tt) (closing 𝓛 (ended U) (spec U 𝓤))
    (entered 𝓤 𝓛.H (triple_of 𝓛 (ended U).signature (closing 𝓛 (ended U) (spec U 𝓤))) 𝓣.C 𝓣.Λ k (function U) (code.unfolded 𝓤 𝓛.H 𝓜 𝓡 wired (U, tt)) (meets U 𝓛 𝓣))
    ((y.0.0, y.0.1, tt, y.0.3, y.0.4), y.1)
