-- Worked cases of counts that calls on a pool of numbers take, and of sends, receives and looks that are none
use Rattle.std.proofs.Common.{◌≡◌, ◌≢◌, ◌++◌, ℕ, List, [], ◌∷◌, arith, drop, inl, inr, length, refl, sym, Option}
use Rattle.geom.specs.declared.plan.How.{How}
use Rattle.geom.specs.declared.plan.Side.{Side}
use Rattle.geom.specs.declared.plan.Side.TheVariants.{Put, Take}
use Rattle.burst.specs.declared.tagged.Tagged.{Ghosts}
use Rattle.fabric_laws.specs.Changes.{loaded}
use Rattle.fabric_laws.specs.declared.view.View.{View}
use Rattle.fabric.specs.declared.stored.Stored.{Ghosts as StoredGhosts}
use Rattle.ringapi.specs.Views.{by_bulk, by_burst}
use Rattle.pool.specs.Locals.{SameCache, SameRing}
use Rattle.pool.specs.declared.local.Local.{Local}
use Rattle.pool.specs.declared.store.Store.{Ghosts as StoreGhosts}
use Rattle.capi.specs.declared.rings.fault.Fault.TheVariants as fault
use Rattle.capi.specs.Codes.{Outcome}
use Rattle.capi.specs.Counts.{Looks, queued_or_room}
use Rattle.capi.specs.PoolCalls.{HasReceived, HasSent, IsBadCount, IsGoodCount}
use Rattle.capi.specs.PoolMembers.{NumberRings, numbers_of}
use Rattle.capi.specs.Tries.{IsPartOf}
use Rattle.capi.specs.declared.pools.member.Number.{Number}

one : IsGoodCount 1
one = (omega arith, omega arith)

most : IsGoodCount 4096
most = (omega arith, omega arith)

none : IsBadCount 0 fault.Count
none = (refl, inl refl)

above : IsBadCount 4097 fault.Count
above = (refl, inr (omega arith))

not_none : IsGoodCount 0 → ⊥
not_none is = absurd (omega (arith, is.0))

not_above : IsGoodCount 4097 → ⊥
not_above is = absurd (omega (arith, is.1))

-- by bulk a request moves all that it is for, by burst at most so many
five_of_five : IsPartOf by_bulk 5 5
five_of_five = (omega arith, λ bulk. refl)

not_four_of_five : IsPartOf by_bulk 5 4 → ⊥
not_four_of_five is = absurd (let same : 4 ≡ 5 = is.1 refl in cc)

four_of_five : IsPartOf by_burst 5 4
four_of_five = (omega arith, λ bulk. absurd (let same : by_burst ≡ by_bulk = bulk in cc))

not_six_of_five : IsPartOf by_burst 5 6 → ⊥
not_six_of_five is = absurd (omega (arith, is.0))

-- a ring of seven has three: three are queued, and it takes four more
three_queued : queued_or_room Take 7 3 ≡ 3
three_queued = refl

four_more : queued_or_room Put 7 3 ≡ 4
four_more = refl

module _ {G : Ghosts Number} {H : StoredGhosts (Option Number) Number} {C : Type 0} {K : StoreGhosts C Number} (f : NumberRings)
    (ring : ℕ) (l m : Local Number 4096 (Option Number) C G H K) (a b : Number) where
  -- a send of nothing, of a part by bulk, and one that changed the cache
  sent_nothing : (how : How) → HasSent f how ring l m [] 0 → ⊥
  sent_nothing how is = absurd (omega (arith, is.good.0))

  sent_a_part_by_bulk : HasSent f by_bulk ring l m (a ∷ b ∷ []) 1 → ⊥
  sent_a_part_by_bulk is = absurd (let same : 1 ≡ 2 = is.part.1 refl in cc)

  sent_from_the_cache : (how : How) (items : List Number) (count : ℕ) → (SameCache l m → ⊥) → HasSent f how ring l m items count → ⊥
  sent_from_the_cache how items count other is = other is.same.1

  -- a receive that fills a part by bulk, that writes past what it shows, and one that changed the cache's ring
  received_a_part_by_bulk : (after : List Number) → HasReceived f by_bulk ring l m (a ∷ b ∷ []) after 1 → ⊥
  received_a_part_by_bulk after is = absurd (let same : 1 ≡ 2 = is.part.1 refl in cc)

  received_past_the_count : (how : How) → a ≢ b → HasReceived f how ring l m (a ∷ []) (b ∷ []) 0 → ⊥
  received_past_the_count how other is = past is.shown is.shows is.front
    where
      past : (shown : List Number) → 0 ≡ length shown → b ∷ [] ≡ shown ++ drop (length shown) (a ∷ []) → ⊥
      past [] none same = other (let z : a ∷ [] ≡ b ∷ [] = sym same in cc)
      past (x ∷ more) none same = absurd (omega (arith, none))

  received_from_another_ring : (how : How) (before after : List Number) (count : ℕ) → (SameRing l m → ⊥)
      → HasReceived f how ring l m before after count → ⊥
  received_from_another_ring how before after count other is = other is.same.0

-- a look after which the view is another one than after two loads
looks_by_other_loads : (f : NumberRings) (ring : ℕ) (side : Side) (v w : View Number) (outcome : Outcome) → w ≢ loaded (loaded v)
    → Looks numbers_of f ring side v w outcome → ⊥
looks_by_other_loads f ring side v w outcome other is = other is.0
