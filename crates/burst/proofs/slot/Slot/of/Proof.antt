-- `of` puts the value in. Assumes `Logic`.
use mathlib.Core.Path.{refl, sym, subst}
use mathlib.Core.List.{List, [], ◌∷◌, ◌++◌}
use mir.Syntax.{Fn, a_type, Args}
use mir.Val.{Val}
use mir.MapTy.{inst_fn}
use base.Logic.{ent}
use prog.Wp.{WpFn}
use contract.Running.{tables}
use types.Kit.{‵, raw, ◌⊛◌, ◌$◌, ◌∵◌, !, qed, move, keep, split, join, fsplit, fjoin, suffices, done}
use types.Run.{of_opd, returns, enter, and_then, no_more}
use types.Part.{agg}
use types.ByLocal.{alloc_all, pass_all, free_all, look_at, get, sets}
use denote.Exit.{no}
use denote.RattleType.{owns}
use denote.Param.{layouts, param}
use denote.Param.Laws.{param_laws}
use denote.Signature.{plain}
use denote.Steps.{nothing}
use denote.Struct.Struct.{as_fields}
use denote.Triple.Entry.{alive}
use denote.Triple.Walked.{Stays, stay_dropped, walk_of, ends_at, Goes-dropped, says}
use Rattle.std.proofs.raw_atomic.Walks.{proved_at}
use Rattle.std.specs.Prelude.{Some}
use Rattle.burst.proofs.Values.{one, round, τ, some_made}
use Rattle.burst.specs.contracts.slot.Slot.of.{ended, clauses}
use Rattle.burst.specs.contracts.slot.Slot.of.Key.{name as #self}
use Rattle.burst.proofs.slot.Slot.of.Statement.{statement}
use Rattle.burst.proofs.slot.Slot.of.Code as code

pub of_spec : {M : Type 1} → statement M
of_spec 𝓤 𝓛 𝓜 𝓡 wired U L =
    let H = 𝓛.H in
    let En = ended U in
    let c = clauses U 𝓛 𝓜.mem 𝓡.returns in
    let args : Args = layouts (a_type ∷ []) (U, tt) in
    let fn : Fn = inst_fn args code.function in
    let stays : Stays En.signature.params En.kept = (stay_dropped (plain (λ _. param 0 U)) no, tt) in
    let 𝓣 = tables 𝓤 H 𝓜 𝓡 𝓡.env in
    proved_at 𝓛 En stays c 𝓜 𝓡 (Goes-dropped 𝓛 1 (plain (λ _. param 0 U)) no (λ κs x f. refl), tt) (#self args) fn (code.unfolded 𝓤 H 𝓜 𝓡 wired (U, tt)) (λ z are.
    let W = walk_of 𝓛 En stays c in
    let u = z.0.3.0 in
    let got = one (τ U) z.0.4.0 (((param_laws 0 U L).lawful 𝓛).typed u z.0.4.0 are.0) in
    let v : Val = got.0 in
    let At : List Val → W.Ghost = λ us. ((z.0.0, z.0.1, z.0.2, z.0.3, (us, tt)), z.1) in
    subst (λ (us : List Val). ent 𝓤 (W.pre (At us)) (WpFn 𝓤 H 𝓣.C 𝓣.Λ fn (us ++ []) (W.post (At us)))) (sym got.1) (
    qed 𝓛 ((raw (alive 𝓛 En.signature z.0.0 z.0.1) ⊛ ‵ (owns (param 0 U ∷ []) z.0.3 (v ∷ [], tt))) ∷ raw ((c z.0.0 z.0.3).requires z.1) ∷ []) ∵ split ! $ move ! (1 ∷ []) $ fsplit ! $ keep ! (0 ∷ 2 ∷ []) $
    enter ! 𝓣.C 𝓣.Λ fn (v ∷ []) _ $ alloc_all ! (λ l. pass_all ! refl (got.2, tt) $
    sets ! (of_opd ! (get ! refl)) refl got.2 $
    sets ! (agg ! (and_then ! (get ! refl) (no_more !))) refl (as_fields (τ U ∷ []) (v ∷ []) (got.2, tt)) $
    returns ! (look_at ! 0 refl) $ free_all ! refl $
    some_made ! U u v got.2 $
    suffices ! _ (ends_at 𝓛 En stays c (At (v ∷ [])) (round v) (Some u) (tt, tt) (tt, tt)) $ says ! refl $
    nothing ! $ nothing ! $ fjoin ! $ join ! $ move ! (1 ∷ 0 ∷ []) $ join ! $ done !)))
