-- Calls of ends, from what the calls of their hands did
use Rattle.std.proofs.Common.{◌≡◌, ℕ, ◌<◌, ◌≤◌, List, length, arith, subst, sym}
use Rattle.geom.specs.declared.plan.How.TheVariants.{Bulk}
use Rattle.geom.specs.declared.plan.Side.{Side}
use Rattle.fabric_laws.specs.declared.view.View.{View}
use Rattle.fabric.specs.Hands.{rings_of}
use Rattle.fabric.specs.OneCalls.{MovesOne}
use Rattle.fabric.specs.declared.fabric.Fabric.{Fabric}
use Rattle.fabric.specs.declared.hand.in_place.Reserved.{Reserved}
use Rattle.fabric.proofs.Told.{granted_few, ring_at}

-- a put or a take of one item reserved one position
pub one_moved : {T : Type 0} {N : ℕ} {S : Type 0} (tags : T → List ℕ) (f : Fabric T N S) (most ring : ℕ) (v : View T) (side : Side) (r : Reserved)
    (shown items : List T) (u : View T) → ring < length (rings_of f) → MovesOne tags f most ring v side r shown items u → r.range.count ≡ 1
one_moved tags f most ring v side r shown items u there m =
    let p = ring_at (rings_of f) ring there in
    let starts = m.3.start.starts p.0 p.1 in
    let few : r.range.count ≤ 1 = subst (λ k. k ≤ 1) (sym starts.granted) (granted_few Bulk 1 _) in
    omega (arith, starts.positive, few)
