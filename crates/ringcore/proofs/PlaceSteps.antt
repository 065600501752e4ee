-- The place in an entry is the first of all places
use Rattle.std.proofs.Common.{ℕ, zero, suc, ◌+◌, ◌<◌, ◌≡◌, ◌≢◌, ◌∙◌, List, [], ◌∷◌, ◌++◌, length, map, refl, ap, sym, subst, arith, true, false}
use Rattle.std.specs.Prelude.{Some, slice_get, ◌==◌, if◌then◌else◌}
use Rattle.std.specs.List.{flat_map, range_with_len}
use Rattle.ringcore_laws.specs.declared.contents.Item.{Item}
use Rattle.ringcore_laws.specs.declared.protocol.Place.{Place}
use Rattle.ringcore_laws.specs.declared.protocol.Place.TheVariants.{AtRing, Held, Cached, Nowhere}
use Rattle.ringcore_laws.specs.declared.party.Party.{Party}
use Rattle.ringcore_laws.specs.Sound.{holds, queue}
use Rattle.ringcore_laws.specs.History.{Actor, parties_of, tags, is_cached}
use Rattle.ringcore_laws.specs.Place.{first_place, place, places_on, places_with, positions_from, queued_at}
use Rattle.std.proofs.lemmas.Option.{slice_get_within}
use Rattle.ringcore_laws.proofs.Laws.{element}
use Rattle.ringcore.specs.declared.world.World.{World}
use Rattle.ringcore.specs.Agree.{EntriesAgree, IsNamed}
use Rattle.ringcore.specs.Entries.{entry, is_cached_at, positions_on, times_with}
use Rattle.ringcore.specs.Histories.{AgreesWith, History, actors_of, pool_size}
use Rattle.ringcore.proofs.HandSteps.{apart_test, same_test}
use Rattle.ringcore.specs.Planned.{rings_in}

-- what an entry shows about rings and actors
on_ring_of : Place → ℕ → List Place
on_ring_of x r = map (AtRing r) (positions_on r x)

with_actor_of : Place → ℕ → List Place
with_actor_of x i = if times_with i x == 1 then (if is_cached_at i x then Cached i else Held i) ∷ [] else []

-- all rings from a number on, and all actors
rings_from : Place → ℕ → ℕ → List Place
rings_from x r n = flat_map (on_ring_of x) (range_with_len r n)

actors_from : Place → ℕ → List Actor → List Place
actors_from x i [] = []
actors_from x i (a ∷ actors) = with_actor_of x i ++ actors_from x (i + 1) actors

shown_on_rings : (b : ℕ) (x : Place) (parties : List (Party Item)) (r n : ℕ)
    → ((k : ℕ) → k < n → queued_at b parties (r + k) ≡ positions_on (r + k) x)
    → flat_map (places_on b parties) (range_with_len r n) ≡ rings_from x r n
unfolding rings_from on_ring_of
shown_on_rings b x parties r zero each = refl
shown_on_rings b x parties r (suc n) each =
    ap (λ v. v ++ flat_map (places_on b parties) (range_with_len (r + 1) n))
    (ap (map (AtRing r)) (subst (λ (k : ℕ). queued_at b parties k ≡ positions_on k x) (let h : r + 0 ≡ r = omega arith in h) (each zero (omega arith))))
    ∙ ap (λ v. map (AtRing r) (positions_on r x) ++ v)
    (shown_on_rings b x parties (r + 1) n
    (λ k lt. subst (λ (j : ℕ). queued_at b parties j ≡ positions_on j x) (let h : r + suc k ≡ r + 1 + k = omega arith in h) (each (suc k) (omega (arith, lt)))))

shown_with_actors : (b : ℕ) (x : Place) (i : ℕ) (actors : List Actor)
    → ((k : ℕ) (a : Actor) → slice_get actors k ≡ Some a → (holds tags b a.party ≡ times_with (i + k) x) × (is_cached a b ≡ is_cached_at (i + k) x))
    → places_with b i actors ≡ actors_from x i actors
unfolding actors_from with_actor_of
shown_with_actors b x i [] each = refl
shown_with_actors b x i (a ∷ actors) each =
    let own = subst (λ (k : ℕ). (holds tags b a.party ≡ times_with k x) × (is_cached a b ≡ is_cached_at k x)) (let h : i + 0 ≡ i = omega arith in h)
    (each zero a refl) in
    ap (λ v. v ++ places_with b (i + 1) actors)
    (ap (λ v. if v == 1 then (if is_cached a b then Cached i else Held i) ∷ [] else []) own.0
    ∙ ap (λ u. if times_with i x == 1 then (if u then Cached i else Held i) ∷ [] else []) own.1)
    ∙ ap (λ v. with_actor_of x i ++ v)
    (shown_with_actors b x (i + 1) actors
    (λ k c is. subst (λ (j : ℕ). (holds tags b c.party ≡ times_with j x) × (is_cached c b ≡ is_cached_at j x))
    (let h : i + suc k ≡ i + 1 + k = omega arith in h)
    (each (suc k) c is)))

-- no ring, and no actor
no_ring : (x : Place) (r n : ℕ) → ((k : ℕ) → positions_on k x ≡ []) → rings_from x r n ≡ []
unfolding rings_from on_ring_of
no_ring x r zero none = refl
no_ring x r (suc n) none = ap (λ v. map (AtRing r) v ++ rings_from x (r + 1) n) (none r) ∙ no_ring x (r + 1) n none

one_ring : (s p r n : ℕ) (k : ℕ) → r + k ≡ s → k < n → (rest : List Place) → first_place (rings_from (AtRing s p) r n ++ rest) ≡ AtRing s p
unfolding rings_from on_ring_of
one_ring s p r zero k at lt rest = absurd (omega (arith, lt))
one_ring s p r (suc n) zero at lt rest =
    let same : r ≡ s = omega (arith, at) in
    let t : (s == r) ≡ true = subst (λ (v : ℕ). (s == v) ≡ true) (sym same) (same_test s) in
    ap (λ b. first_place ((map (AtRing r) (if b then p ∷ [] else []) ++ rings_from (AtRing s p) (r + 1) n) ++ rest)) t
    ∙ ap (λ (v : ℕ). AtRing v p) same
one_ring s p r (suc n) (suc k) at lt rest =
    let t : (s == r) ≡ false = apart_test s r (λ h. absurd (omega (arith, at, ap (λ (v : ℕ). v) h))) in
    ap (λ b. first_place ((map (AtRing r) (if b then p ∷ [] else []) ++ rings_from (AtRing s p) (r + 1) n) ++ rest)) t
    ∙ one_ring s p (r + 1) n k (omega (arith, at)) (omega (arith, lt)) rest

no_actor : (x : Place) (i : ℕ) (actors : List Actor) → ((k : ℕ) → times_with k x ≡ 0) → actors_from x i actors ≡ []
unfolding actors_from with_actor_of
no_actor x i [] none = refl
no_actor x i (a ∷ actors) none =
    ap (λ (v : ℕ). (if v == 1 then (if is_cached_at i x then Cached i else Held i) ∷ [] else []) ++ actors_from x (i + 1) actors) (none i)
    ∙ no_actor x (i + 1) actors none

-- the one actor that an entry names
one_actor : (x y : Place) (j i k : ℕ) (actors : List Actor) → i + k ≡ j → k < length actors
    → times_with j x ≡ 1 → (if is_cached_at j x then Cached j else Held j) ≡ y
    → ((v : ℕ) → v ≢ j → times_with v x ≡ 0) → first_place (actors_from x i actors) ≡ y
unfolding actors_from with_actor_of
one_actor x y j i k [] at lt one is others = absurd (omega (arith, lt))
one_actor x y j i zero (a ∷ actors) at lt one is others =
    let same : j ≡ i = omega (arith, at) in
    let own : times_with i x ≡ 1 = subst (λ (v : ℕ). times_with v x ≡ 1) same one in
    ap (λ (v : ℕ). first_place ((if v == 1 then (if is_cached_at i x then Cached i else Held i) ∷ [] else []) ++ actors_from x (i + 1) actors)) own
    ∙ (ap (λ (v : ℕ). if is_cached_at v x then Cached v else Held v) (sym same) ∙ is)
one_actor x y j i (suc k) (a ∷ actors) at lt one is others =
    ap (λ (v : ℕ). first_place ((if v == 1 then (if is_cached_at i x then Cached i else Held i) ∷ [] else []) ++ actors_from x (i + 1) actors))
    (others i (λ h. absurd (omega (arith, at, ap (λ (v : ℕ). v) h))))
    ∙ one_actor x y j (i + 1) k actors (omega (arith, at)) (omega (arith, lt)) one is others

-- an entry that names an existing ring or actor shows the first place
first_shown : (x : Place) (rings : ℕ) (actors : List Actor) → IsNamed rings (length actors) x
    → first_place (rings_from x 0 rings ++ actors_from x 0 actors) ≡ x
first_shown (AtRing s p) rings actors named = one_ring s p 0 rings s (omega arith) named (actors_from (AtRing s p) 0 actors)
first_shown (Held j) rings actors named =
    ap (λ v. first_place (v ++ actors_from (Held j) 0 actors)) (no_ring (Held j) 0 rings (λ k. refl))
    ∙ one_actor (Held j) (Held j) j 0 j actors (omega arith) named (ap (λ t. if t then 1 else 0) (same_test j)) refl
    (λ v apart. ap (λ t. if t then 1 else 0) (apart_test j v apart))
first_shown (Cached j) rings actors named =
    ap (λ v. first_place (v ++ actors_from (Cached j) 0 actors)) (no_ring (Cached j) 0 rings (λ k. refl))
    ∙ one_actor (Cached j) (Cached j) j 0 j actors (omega arith) named (ap (λ t. if t then 1 else 0) (same_test j))
    (ap (λ t. if t then Cached j else Held j) (same_test j)) (λ v apart. ap (λ t. if t then 1 else 0) (apart_test j v apart))
first_shown Nowhere rings actors named =
    ap (λ v. first_place (v ++ actors_from Nowhere 0 actors)) (no_ring Nowhere 0 rings (λ k. refl))
    ∙ ap first_place (no_actor Nowhere 0 actors (λ k. refl))

pub place_is : (w : World) (h : History) → AgreesWith w h → (b : ℕ) → entry w.places.items b ≡ place (length h.plans) (actors_of h) b
unfolding queued_at
place_is w h agree b =
    sym (ap (λ v. first_place (v ++ places_with b 0 actors)) rings
    ∙ (ap (λ v. first_place (rings_from x 0 (length h.plans) ++ v)) hands ∙ first_shown x (length h.plans) actors named))
  where
    actors : List Actor
    actors = actors_of h

    x : Place
    x = entry w.places.items b

    e : EntriesAgree (pool_size h) (rings_in w.rings.items) w.places.items w.members.items actors
    e = agree.lists.entries

    named : IsNamed (length h.plans) (length actors) x
    named =
        subst (λ (v : ℕ). IsNamed v (length actors) x) agree.lists.spans.ring_count
        (subst (λ (v : ℕ). IsNamed (length (rings_in w.rings.items)) v x) agree.lists.spans.member_count (e.named b))

    queued : (r : ℕ) → r < length h.plans → queued_at b (parties_of actors) r ≡ positions_on r x
    queued r lt =
        let plan = element h.plans r lt in
        let ring = element (rings_in w.rings.items) r (omega (arith, lt, agree.lists.spans.ring_count)) in
        let it = agree.lists.spans.each_ring r plan.0 ring.0 plan.1 ring.1 in
        ap (λ (v : ℕ). positions_from b v (queue (parties_of actors) r)) (sym it.take.tail)
        ∙ (ap (positions_from b ring.0.take.tail) (sym it.queue) ∙ e.queued r ring.0 ring.1 b)

    rings : flat_map (places_on b (parties_of actors)) (range_with_len 0 (length h.plans)) ≡ rings_from x 0 (length h.plans)
    rings =
        shown_on_rings b x (parties_of actors) 0 (length h.plans)
        (λ k lt. subst (λ (j : ℕ). queued_at b (parties_of actors) j ≡ positions_on j x) (let g : k ≡ 0 + k = omega arith in g) (queued k lt))

    hands : places_with b 0 actors ≡ actors_from x 0 actors
    hands =
        shown_with_actors b x 0 actors
        (λ k a is. subst (λ (j : ℕ). (holds tags b a.party ≡ times_with j x) × (is_cached a b ≡ is_cached_at j x)) (let g : k ≡ 0 + k = omega arith in g)
        (shown k a is))
      where
        shown : (k : ℕ) (a : Actor) → slice_get actors k ≡ Some a → (holds tags b a.party ≡ times_with k x) × (is_cached a b ≡ is_cached_at k x)
        shown k a is =
            let lt = slice_get_within actors k a is in
            let m = element w.members.items k (omega (arith, lt, agree.lists.spans.member_count)) in
            let hand = e.each_hand k a m.0 is m.1 in
            (hand.held b, hand.cached b)
