-- Puts and takes of numbers that are tried again, and what a handle has after them
use Rattle.std.proofs.Common.{◌≡◌, ◌+◌, ◌≤◌, ◌++◌, ◌∷◌, ◌∙◌, ℕ, List, [], Option, Some, None, Result, Ok, Err, length, refl, sym, ap, subst, take, arith, true, false}
use Rattle.std.specs.Option.{is_some}
use Rattle.geom.specs.declared.plan.How.{How}
use Rattle.geom.specs.declared.plan.RingPlan.{RingPlan}
use Rattle.geom.specs.declared.plan.Side.{Side}
use Rattle.geom.specs.declared.plan.Side.TheVariants.{Put, Take}
use Rattle.ringcore_laws.specs.FreeRings.{AreSingle}
use Rattle.geom.specs.Plan.{mode_of}
use Rattle.ringcore_laws.specs.History.{position_of, room_by_look}
use Rattle.ringcore_laws.specs.Sound.{holds, occurrences_in}
use Rattle.burst.specs.declared.tagged.Tagged.{Ghosts}
use Rattle.fabric.specs.declared.stored.Stored.{Ghosts as StoredGhosts}
use Rattle.fabric_laws.specs.declared.view.View.{View}
use Rattle.fabric_laws.specs.Kinds.{IsHeldOnce}
use Rattle.fabric.specs.declared.hand.StartFault.{StartFault}
use Rattle.fabric.specs.declared.hand.cache_hand.CacheHand.{CacheHand}
use Rattle.fabric.specs.Hands.{view}
use Rattle.fabric.specs.Settles.{AreOwnBuffers}
use Rattle.fabric.specs.Views.{IsKept}
use Rattle.fabric.proofs.Holding.{holds_take}
use Rattle.fabric.proofs.Told.{granted_few, refused_kept}
use Rattle.ringapi.specs.declared.answers.Moved.{Moved}
use Rattle.ringapi.specs.declared.answers.Refusal.{Refusal}
use Rattle.ringapi.specs.declared.answers.Refusal.TheVariants.{Start, NotYours}
use Rattle.ringapi.specs.Views.{IsMoved, RefusedStarts, by_bulk}
use Rattle.ringapi.proofs.Moves.{moved_party}
use Rattle.pool.specs.declared.local.Local.{Local}
use Rattle.pool.specs.declared.store.Store.{Ghosts as StoreGhosts}
use Rattle.pool_laws.specs.Beside.{Receives, Sends, unsent_of}
use Rattle.pool_laws.specs.Hands.{IsSameIn, view_in}
use Rattle.pool.specs.Locals.{HasSameHand, cache_of, hand_of, view_of}
use Rattle.pool_laws.proofs.Requests.{bulk_all}
use Rattle.pool.proofs.Shown.{whole_shown}
use Rattle.ringapi.proofs.Counts.{count_both}
use Rattle.ringapi.proofs.Singles.{single_both}
use Rattle.capi.specs.PoolMembers.{NumberRings, numbers_of}
use Rattle.capi.specs.Tries.{Filled, IsPartOf, Received, Sent}
use Rattle.capi.specs.declared.pools.member.Number.{Number}

module _ {T : Type 0} where
  pub view_kept : (v w : View T) → w ≡ v → IsKept v w
  view_kept v w is = record {
    party = ap (λ (u : View T). u.party) is;
    parts = ap (λ (u : View T). u.parts) is;
    plans = ap (λ (u : View T). u.plans) is;
    pool = ap (λ (u : View T). u.pool) is;
  }

  pub then_kept : (v u w : View T) → IsKept v u → IsKept u w → IsKept v w
  then_kept v u w first then = record {
    party = then.party ∙ first.party;
    parts = then.parts ∙ first.parts;
    plans = then.plans ∙ first.plans;
    pool = then.pool ∙ first.pool;
  }

-- starts that were refused changed nothing of the hand
starts_keep : {T : Type 0} (tags : T → List ℕ) (most : ℕ) (how : How) (n ring : ℕ) (side : Side) (plan : RingPlan) (v : View T)
    (starts : List (View T × StartFault)) (w : View T) → RefusedStarts tags most how n ring side plan v starts w → IsKept v w
starts_keep tags most how n ring side plan v [] w is = view_kept v w is
starts_keep tags most how n ring side plan v (start ∷ before) w is =
    then_kept v start.0 w (starts_keep tags most how n ring side plan v before start.0 is.2)
    (refused_kept tags most how n ring side plan start.0 w start.1 is.0)

-- each number carries one buffer
pub all_single : (items : List Number) → AreSingle numbers_of items
all_single [] = refl
all_single (x ∷ items) = all_single items

-- how many numbers a request moved
part_of : (how : How) (n ring : ℕ) (side : Side) (plan : RingPlan) (v w : View Number) (starts : List (View Number × StartFault)) (count left : ℕ)
    (shown items : List Number) (tails : List ℕ) → IsMoved numbers_of 4096 how n ring side plan v starts count left shown tails items w
    → IsPartOf how n count
part_of how n ring side plan v w starts count left shown items tails is =
    let s = is.2.started in
    let room = room_by_look side plan.geometry.capacity (position_of plan.geometry (mode_of plan side) s.word) s.tail in (
      omega (arith, s.granted, granted_few how n room),
      λ bulk. bulk_all numbers_of 4096 n ring side plan v w starts count left shown items tails
          (subst (λ (h : How). IsMoved numbers_of 4096 h n ring side plan v starts count left shown tails items w) bulk is),
    )

module _ {G : Ghosts Number} {H : StoredGhosts (Option Number) Number} where
  -- a put that was refused changed nothing of the hand
  pub unsent_keeps : (how : How) (ring : ℕ) (plan : RingPlan) (k o : Option (CacheHand Number (Option Number) G H)) (cache items rest : List Number)
      (why : Refusal) → Sends numbers_of how 4096 ring plan k o cache items (Err why) rest → IsKept (view_in k) (view_in o)
  unsent_keeps how ring plan k o cache items rest (Start fault) is =
      let tells = is.1.2 in
      let before = starts_keep numbers_of 4096 how (length items) ring Put plan (view_in k) is.1.0 tells.2 tells.3 in
      let last = refused_kept numbers_of 4096 how (length items) ring Put plan tells.2 (view is.0) fault tells.4 in
      then_kept (view_in k) (view is.0) (view_in o) (then_kept (view_in k) tells.2 (view is.0) before last) (view_kept (view is.0) (view_in o) is.2)
  unsent_keeps how ring plan k o cache items rest NotYours is = view_kept (view_in k) (view_in o) is.2

  pub unreceived_keeps : (how : How) (ring n : ℕ) (plan : RingPlan) (k o : Option (CacheHand Number (Option Number) G H)) (shown : List Number)
      (why : StartFault) → Receives numbers_of how 4096 ring plan k o n (Err why) shown
      → (shown ≡ []) × IsKept (view_in k) (view_in o)
  unreceived_keeps how ring n plan k o shown why is =
      let tells = is.1.2 in
      let before = starts_keep numbers_of 4096 how n ring Take plan (view_in k) is.1.0 tells.1 tells.2 in
      let last = refused_kept numbers_of 4096 how n ring Take plan tells.1 (view is.0) why tells.3 in (
        tells.0,
        then_kept (view_in k) (view is.0) (view_in o) (then_kept (view_in k) tells.1 (view is.0) before last)
            (view_kept (view is.0) (view_in o) is.2),
      )

  -- a hand that is there has each buffer once at most
  pub held_once : (o : Option (CacheHand Number (Option Number) G H)) → is_some o ≡ true
      → IsHeldOnce G.numbers (view_in o).pool (view_in o).party
  held_once None here = absurd (let z : false ≡ true = here in cc)
  held_once (Some k) here = k.well

  -- how many numbers a put moved
  pub sent_count : (how : How) (ring : ℕ) (plan : RingPlan) (k o : Option (CacheHand Number (Option Number) G H)) (moved : Moved)
      (cache items rest : List Number) → Sends numbers_of how 4096 ring plan k o cache items (Ok moved) rest
      → IsPartOf how (length items) moved.count
  sent_count how ring plan k o moved cache items rest is =
      part_of how (length items) ring Put plan (view_in k) (view is.0) is.1.0 moved.count moved.left [] (take moved.count items) is.1.1 is.1.2.2

  -- what a take took is the hand's own, beside what is cached
  pub received_own : (how : How) (ring n : ℕ) (plan : RingPlan) (k o : Option (CacheHand Number (Option Number) G H)) (moved : Moved)
      (items cache : List Number) → IsHeldOnce numbers_of (view_in k).pool (view_in k).party
      → ((b : ℕ) → occurrences_in numbers_of b cache ≤ holds numbers_of b (view_in k).party)
      → Receives numbers_of how 4096 ring plan k o n (Ok moved) items
      → (length items ≡ moved.count) × IsPartOf how n moved.count × AreOwnBuffers numbers_of (view_in o) (items ++ cache)
  received_own how ring n plan k o moved items cache once fits is =
      let told = is.1.2 in
      let more : (b : ℕ) → holds numbers_of b (view is.0).party ≡ holds numbers_of b (view_in k).party + occurrences_in numbers_of b items =
      λ b. ap (holds numbers_of b) (moved_party numbers_of 4096 how n ring Take plan (view_in k) (view is.0) is.1.0 moved.count moved.left items items is.1.1 told.2)
      ∙ holds_take numbers_of b ring told.2.0 moved.count (view_in k).party items (once b).2 in (
        told.0,
        part_of how n ring Take plan (view_in k) (view is.0) is.1.0 moved.count moved.left items items is.1.1 told.2,
        (
          λ b. omega (
            arith,
            fits b,
            more b,
            count_both numbers_of b items cache,
            ap (λ (v : View Number). holds numbers_of b v.party) is.2,
          ),
          single_both numbers_of items cache (all_single items) (all_single cache),
        ),
      )

  module _ {C : Type 0} {K : StoreGhosts C Number} (f : NumberRings) (how : How) (ring : ℕ) (l k m : Local Number 4096 (Option Number) C G H K) where
    -- the same of a try after others
    pub sent_later : (cache items : List Number) (answer : Result Moved Refusal) → IsKept (view_of l) (view_of k)
        → cache_of k ≡ cache → Sent f how ring (cache_of k) items k m answer → Sent f how ring cache items l m answer
    sent_later cache items answer kept same is =
        subst (λ (xs : List Number). Sent f how ring xs items l m answer) same (record {
          seen = is.seen;
          kept = then_kept (view_of l) (view_of k) (view_in is.seen) kept is.kept;
          reply = is.reply;
        })

    pub received_later : (n : ℕ) (answer : Result Moved StartFault) (shown : List Number) → IsKept (view_of l) (view_of k)
        → Received f how ring n k m answer shown → Received f how ring n l m answer shown
    received_later n answer shown kept is = record {
      seen = is.seen;
      kept = then_kept (view_of l) (view_of k) (view_in is.seen) kept is.kept;
      reply = is.reply;
    }

    pub filled_later : (before after : List Number) (moved : Moved) → IsKept (view_of l) (view_of k)
        → Filled f how ring before after k m moved → Filled f how ring before after l m moved
    filled_later before after moved kept is = record {
      shown = is.shown;
      front = is.front;
      count = is.count;
      part = is.part;
      reply = received_later (length before) (Ok moved) is.shown kept is.reply;
      own = is.own;
    }

  -- by bulk they fill it
  pub all_filled : {C : Type 0} {K : StoreGhosts C Number} (f : NumberRings) (ring : ℕ) (before after : List Number)
      (l m : Local Number 4096 (Option Number) C G H K) (moved : Moved) → Filled f by_bulk ring before after l m moved
      → (length after ≡ length before) × Received f by_bulk ring (length before) l m (Ok moved) after
      × AreOwnBuffers numbers_of (view_of m) (after ++ cache_of m)
  all_filled f ring before after l m moved is =
      let all : length is.shown ≡ length before = sym is.count ∙ is.part.1 refl in
      let whole : after ≡ is.shown = whole_shown is.shown before after is.front all in (
        ap length whole ∙ all,
        subst (λ (xs : List Number). Received f by_bulk ring (length before) l m (Ok moved) xs) (sym whole) is.reply,
        subst (λ (xs : List Number). AreOwnBuffers numbers_of (view_of m) (xs ++ cache_of m)) (sym whole) is.own,
      )

  -- the same of a cache whose hand is the same still
  receives_same : (how : How) (ring n : ℕ) (plan : RingPlan) (k o p : Option (CacheHand Number (Option Number) G H))
      (answer : Result Moved StartFault) (shown : List Number) → view_in p ≡ view_in o
      → Receives numbers_of how 4096 ring plan k o n answer shown → Receives numbers_of how 4096 ring plan k p n answer shown
  receives_same how ring n plan k o p (Ok moved) shown same is = (is.0, is.1, same ∙ is.2)
  receives_same how ring n plan k o p (Err why) shown same is = (is.0, is.1, same ∙ is.2)

  sends_same : (how : How) (ring : ℕ) (plan : RingPlan) (k o p : Option (CacheHand Number (Option Number) G H)) (cache items rest : List Number)
      (answer : Result Moved Refusal) → view_in p ≡ view_in o → Sends numbers_of how 4096 ring plan k o cache items answer rest
      → Sends numbers_of how 4096 ring plan k p cache items answer rest
  sends_same how ring plan k o p cache items rest (Ok moved) same is = (is.0, is.1, same ∙ is.2)
  sends_same how ring plan k o p cache items rest (Err (Start why)) same is = (is.0, is.1, same ∙ is.2)
  sends_same how ring plan k o p cache items rest (Err NotYours) same is = (is.0, is.1, same ∙ is.2)

  pub sent_same : {C : Type 0} {K : StoreGhosts C Number} (f : NumberRings) (how : How) (ring : ℕ) (l k m : Local Number 4096 (Option Number) C G H K) (cache items : List Number)
      (answer : Result Moved Refusal) → view_of m ≡ view_of k → Sent f how ring cache items l k answer → Sent f how ring cache items l m answer
  sent_same f how ring l k m cache items answer same is = record {
    seen = is.seen;
    kept = is.kept;
    reply = λ plan there. sends_same how ring plan is.seen (hand_of k) (hand_of m) cache items (unsent_of answer items) answer same
        (is.reply plan there);
  }

  pub received_same : {C : Type 0} {K : StoreGhosts C Number} (f : NumberRings) (how : How) (ring n : ℕ) (l k m : Local Number 4096 (Option Number) C G H K)
      (answer : Result Moved StartFault) (shown : List Number) → view_of m ≡ view_of k → Received f how ring n l k answer shown
      → Received f how ring n l m answer shown
  received_same f how ring n l k m answer shown same is = record {
    seen = is.seen;
    kept = is.kept;
    reply = λ plan there. receives_same how ring n plan is.seen (hand_of k) (hand_of m) answer shown same (is.reply plan there);
  }

  -- the same hand has the same view
  same_view_in : (o p : Option (CacheHand Number (Option Number) G H)) → IsSameIn o p → view_in p ≡ view_in o
  same_view_in None p is = absurd is
  same_view_in (Some k) None is = absurd is
  same_view_in (Some k) (Some m) is = ap (λ s. s.me.0) is

  pub same_view : {C : Type 0} {K : StoreGhosts C Number} (l m : Local Number 4096 (Option Number) C G H K) → HasSameHand l m → view_of m ≡ view_of l
  same_view l m is = same_view_in l.hand m.hand is

-- for puts and takes that are tried again
pub ruleset sent_again = (sent_later, then_kept, view_kept)

pub ruleset received_again = (received_later, filled_later, then_kept, view_kept)
