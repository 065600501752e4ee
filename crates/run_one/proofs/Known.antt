-- What is known of an input whose fates are known.
use Rattle.std.proofs.Common.{◌≡◌, ℕ, List, Option, None, Some, Result, Ok, Err, IfErr, refl}
use Rattle.std.specs.Result.{OnOk}
use Rattle.std.specs.Option.{OnSome}
use Rattle.stages_laws.specs.Input.{Input}
use Rattle.stages_laws.specs.Output.{Forwarding, Fate, fates}
use Rattle.run_one.specs.Tallies.{fates_of}

pub known_input : (forwarding : Forwarding) (room : ℕ) (input : Option Input) (all : List Fate) → fates_of forwarding room input ≡ Some all
    → (i : Input) × (input ≡ Some i) × (fates forwarding room i.packets ≡ all)
known_input forwarding room None all known = absurd (cc known)
known_input forwarding room (Some i) all known = (i, refl, cc known)

pub on_ok : {A E P Q : Type 0} (r : Result A E) → (P → Q) → OnOk r P → OnOk r Q
on_ok (Ok x) f p = f p
on_ok (Err e) f p = p

pub if_err : {A E : Type 0} {P Q : E → Type 0} (r : Result A E) → ((e : E) → P e → Q e) → IfErr r P → IfErr r Q
if_err (Ok x) f p = p
if_err (Err e) f p = f e p

pub on_some : {A P : Type 0} (o : Option A) (x : A) → o ≡ Some x → OnSome o P → P
on_some None x e p = absurd (cc e)
on_some (Some y) x e p = p
