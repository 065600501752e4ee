-- Plans that are asked for, ring by ring
use Rattle.std.proofs.Common.{◌≡◌, ◌<◌, arith, ℕ, zero, suc, List, [], ◌∷◌, Option, Some, None, false, refl, get_or, inl, inr, length, map, sym, ap, subst, ◌∙◌, ◌⊎◌, Result, Ok, Err}
use Rattle.geom.specs.declared.plan.RingPlan.{RingPlan}
use Rattle.geom.specs.declared.plan.Mode.{Mode}
use Rattle.geom.specs.declared.geometry.GeomFault.{GeomFault}
use Rattle.geom.specs.Extent.{Extent}
use Rattle.geom.specs.Sizes.{with_positions}
use Rattle.ringcore_laws.proofs.Laws.{same_plan}
use Rattle.fabric.specs.Making.{WordsMayStand}
use Rattle.capi.specs.Openings.{RefusesRings}
use Rattle.capi.specs.declared.rings.fault.Fault.{Fault}
use Rattle.capi.specs.declared.rings.fault.Fault.TheVariants as fault
use Rattle.capi.specs.Members.{ArePlain}
use Rattle.capi.specs.Plans.{AreAsked, count_bits, extent_asked, if_none, last_asked, mode_asked, plan_asked, plan_on, plan_with}
use Rattle.capi.specs.declared.rings.opening.Asked.{Asked}

heads : {X : Type 0} {x y : X} {xs ys : List X} → x ∷ xs ≡ y ∷ ys → x ≡ y
heads e = cc

tails : {X : Type 0} {x y : X} {xs ys : List X} → x ∷ xs ≡ y ∷ ys → xs ≡ ys
tails e = cc

no_cons : {X : Type 0} {x : X} {xs : List X} → x ∷ xs ≡ [] → ⊥
no_cons e = cc

pub some_asked : (xs : List Asked) (i : ℕ) (d : Asked) (plans : List RingPlan) → i < length xs → AreAsked xs plans
    → (p : RingPlan) × (plan_asked (get_or xs i d) ≡ Some p)
some_asked [] i d plans low is = absurd (omega (arith, low))
some_asked (x ∷ xs) i d [] low is = absurd (no_cons is)
some_asked (x ∷ xs) zero d (p ∷ plans) low is = (p, heads is)
some_asked (x ∷ xs) (suc i) d (p ∷ plans) low is = some_asked xs i d plans (omega (arith, low)) (tails is)

none_some : {X : Type 0} {x : X} → None ≡ Some x → ⊥
none_some e = cc

plain_on : (a b : Mode) (o : Option Extent) (p : RingPlan) → plan_on a b o ≡ Some p → p.free ≡ false
plain_on a b (Some e) p is = ap (λ (q : RingPlan). q.free) (sym (same_plan is))
plain_on a b None p is = absurd (none_some is)

plain_with : (r : Result Extent GeomFault) (a b : Option Mode) (last : ℕ) (p : RingPlan) → plan_with r a b last ≡ Some p → p.free ≡ false
plain_with (Ok e) (Some a) (Some b) last p is =
    plain_on a b (with_positions e (last_asked last (count_bits a b)) (count_bits a b)) p is
plain_with (Ok e) (Some a) None last p is = absurd (none_some is)
plain_with (Ok e) None b last p is = absurd (none_some is)
plain_with (Err e) a b last p is = absurd (none_some is)

plain_if : (reserved : ℕ) (o : Option RingPlan) (p : RingPlan) → if_none reserved o ≡ Some p → o ≡ Some p
plain_if zero o p is = is
plain_if (suc n) o p is = absurd (none_some is)

-- rings that are asked for hold no free buffers
pub plain_asked : (xs : List Asked) (plans : List RingPlan) → AreAsked xs plans → ArePlain plans
plain_asked [] [] is zero plan at = absurd (none_some at)
plain_asked [] [] is (suc ring) plan at = absurd (none_some at)
plain_asked [] (p ∷ ps) is ring plan at = absurd (no_cons (sym is))
plain_asked (x ∷ xs) [] is ring plan at = absurd (no_cons is)
plain_asked (x ∷ xs) (p ∷ ps) is zero plan at =
    let made = plan_with (extent_asked x.exact x.size) (mode_asked x.put) (mode_asked x.take) x.last in
    plain_with (extent_asked x.exact x.size) (mode_asked x.put) (mode_asked x.take) x.last plan (plain_if x.reserved made plan (heads is ∙ at))
plain_asked (x ∷ xs) (p ∷ ps) is (suc ring) plan at = plain_asked xs ps (tails is) ring plan at

same_somes : (a b : List RingPlan) → map {A = RingPlan} {B = Option RingPlan} Some a ≡ map {A = RingPlan} {B = Option RingPlan} Some b → a ≡ b
same_somes [] [] is = refl
same_somes [] (y ∷ b) is = absurd (no_cons (sym is))
same_somes (x ∷ a) [] is = absurd (no_cons is)
same_somes (x ∷ a) (y ∷ b) is = (λ i. same_plan (heads is) i ∷ same_somes a b (tails is) i)

-- a plan that can't be is the only one that was asked for
pub refuses : (asked : List Asked) (plans : List RingPlan) (why : Fault) → AreAsked asked plans
    → (((why ≡ fault.Plan) × (WordsMayStand plans 0 4095 → ⊥)) ⊎ (why ≡ fault.Memory)) → RefusesRings asked why
refuses asked plans why are (inl bad) =
    inl (bad.0, λ others also may. bad.1 (subst (λ (ps : List RingPlan). WordsMayStand ps 0 4095) (same_somes others plans (sym also ∙ are)) may))
refuses asked plans why are (inr memory) = inr memory
