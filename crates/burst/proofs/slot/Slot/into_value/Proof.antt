-- `into_value` takes the value out. Assumes `Logic`.
use mathlib.Core.Path.{◌≡◌, refl, sym, subst}
use mathlib.Core.List.{List, [], ◌∷◌, ◌++◌}
use mir.Syntax.{Fn, a_type, Args}
use mir.Val.{Val}
use mir.MapTy.{inst_fn}
use base.Logic.{ent, sep}
use prog.Wp.{WpFn}
use types.Logic.{sem}
use contract.Monad.{fact}
use contract.BorrowLft.{◌⊑◌}
use contract.Running.{tables}
use types.Kit.{‵, raw, ◌⊛◌, ◌$◌, ◌∵◌, !, qed, by, move, keep, drop, split, join, rewrite, fsplit, fjoin, suffices, done}
use types.Run.{of_opd, returns, enter, fld, stop}
use types.Part.{sub, whole}
use types.ByLocal.{alloc_all, pass_all, free_all, look_at, get, get_in, sets}
use denote.Exit.{no}
use denote.RattleType.{owns}
use denote.Param.{layouts}
use denote.Signature.{plain}
use denote.Steps.{nothing, heard}
use denote.Struct.Struct.{as_fields}
use denote.Triple.Entry.{alive}
use denote.Triple.Walked.{Stays, stay_dropped, walk_of, ends_at, Goes-dropped, says}
use Rattle.std.proofs.raw_atomic.Walks.{proved_at}
use Rattle.std.specs.Prelude.{Some}
use Rattle.burst.proofs.Values.{round, S, τ, some_had}
use Rattle.burst.specs.contracts.slot.Slot.into_value.{ended, clauses}
use Rattle.burst.specs.contracts.slot.Slot.into_value.Key.{name as #self}
use Rattle.burst.proofs.slot.Slot.into_value.Statement.{statement}
use Rattle.burst.proofs.slot.Slot.into_value.Code as code

pub into_value_spec : {M : Type 1} → statement M
into_value_spec 𝓤 𝓛 𝓜 𝓡 wired U L =
    let H = 𝓛.H in
    let En = ended U in
    let c = clauses U 𝓛 𝓜.mem 𝓡.returns in
    let args : Args = layouts (a_type ∷ []) (U, tt) in
    let fn : Fn = inst_fn args code.function in
    let stays : Stays En.signature.params En.kept = (stay_dropped (plain (λ _. S U)) no, tt) in
    let 𝓣 = tables 𝓤 H 𝓜 𝓡 𝓡.env in
    proved_at 𝓛 En stays c 𝓜 𝓡 (Goes-dropped 𝓛 1 (plain (λ _. S U)) no (λ κs x f. refl), tt) (#self args) fn (code.unfolded 𝓤 H 𝓜 𝓡 wired (U, tt)) (λ z are.
    let W = walk_of 𝓛 En stays c in
    let d = z.0.3.0 in
    let vs : List Val = z.0.4.0 in
    let At : List Val → W.Ghost = λ us. ((z.0.0, z.0.1, z.0.2, z.0.3, (us, tt)), z.1) in
    qed 𝓛 ((raw (alive 𝓛 En.signature z.0.0 z.0.1) ⊛ ‵ (owns (S U ∷ []) z.0.3 (vs, tt))) ∷ (raw (fact 𝓤 (z.0.0.0 ⊑ U.lives)) ⊛ raw (fact 𝓤 ((x : U.Denot) × (d ≡ Some x)))) ∷ []) ∵ move ! (1 ∷ []) $ split ! $ drop ! $ heard ! _ (λ asked. split ! $
    let u = asked.0 in
    move ! (1 ∷ []) $ fsplit ! $ rewrite ! 0 (λ (x : (S U).Denot). ‵ ((S U).own_val x vs)) asked.1 refl $ some_had ! U L u vs (λ v e good. keep ! (0 ∷ 2 ∷ []) $
    by ! (subst (λ (us : List Val). ent 𝓤 (sep 𝓤 (sem 𝓛 (U.own_val u (v ∷ []))) (alive 𝓛 En.signature z.0.0 z.0.1)) (WpFn 𝓤 H 𝓣.C 𝓣.Λ fn (us ++ []) (W.post (At us)))) (sym e) (
    qed 𝓛 (‵ (U.own_val u (v ∷ [])) ∷ raw (alive 𝓛 En.signature z.0.0 z.0.1) ∷ []) ∵
    enter ! 𝓣.C 𝓣.Λ fn (round v ∷ []) _ $ alloc_all ! (λ l. pass_all ! refl (as_fields (τ U ∷ []) (v ∷ []) (good, tt), tt) $
    sets ! (of_opd ! (get_in ! (fld ! refl (stop !)) (sub ! 0 refl (whole !)))) refl good $
    sets ! (of_opd ! (get ! refl)) refl good $
    returns ! (look_at ! 0 refl) $ free_all ! refl $
    suffices ! _ (ends_at 𝓛 En stays c (At (round v ∷ [])) v u (tt, tt) (tt, tt)) $ says ! asked.1 $
    nothing ! $ nothing ! $ fjoin ! $ join ! $ move ! (1 ∷ 0 ∷ []) $ join ! $ done !))))))
