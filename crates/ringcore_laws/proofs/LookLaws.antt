-- What holds for the looks of all actors along a run: what was looked at is not past its side, and what the last
-- question for room found
use Rattle.std.proofs.Common.{ℕ, ◌<◌, ◌≡◌, ◌≢◌, ◌∙◌, ◌⊎◌, inl, inr, List, length, refl, ap, sym, subst, arith, true, false, Bool}
use Rattle.std.specs.Prelude.{slice_get, slice_set, slice_index_or, Option, Some, None, ◌&&◌, ◌==◌, if◌then◌else◌}
use Rattle.std.proofs.lemmas.Bool.Decides.{nat_tests}
use Rattle.std.proofs.lemmas.Option.{get_or_from_slice_get, slice_get_within}
use Rattle.geom.specs.declared.plan.Mode.{Mode}
use Rattle.geom.specs.declared.plan.Mode.TheVariants.{Multi, Hts}
use Rattle.geom.specs.declared.plan.RingPlan.{RingPlan}
use Rattle.geom.specs.declared.plan.Side.{Side}
use Rattle.geom.specs.Extent.{Extent}
use Rattle.geom.specs.Plan.{mode_of}
use Rattle.geom.proofs.Words.{position_back, range_some}
use Rattle.ringcore_laws.specs.declared.contents.Item.{Item}
use Rattle.ringcore_laws.specs.declared.protocol.Observed.{Observed}
use Rattle.ringcore_laws.specs.declared.protocol.Step.{Step}
use Rattle.ringcore_laws.specs.declared.protocol.Step.TheVariants.{Look, Room, Reserve, SettlePut, SettleTake, Stash, Unstash}
use Rattle.ringcore_laws.specs.declared.protocol.Reply.{Reply}
use Rattle.ringcore_laws.specs.declared.protocol.Reply.TheVariants.{Seen, Granted, Done, Busy, NoSpan}
use Rattle.ringcore_laws.specs.declared.party.Party.{Party}
use Rattle.ringcore_laws.specs.RingSide.{RingSide, side_of}
use Rattle.ringcore_laws.specs.HeadTailRule.{base}
use Rattle.ringcore_laws.specs.Invariant.{Invariant, IsBehind}
use Rattle.ringcore_laws.specs.FreeRings.{FreeRule}
use Rattle.ringcore_laws.specs.Refusals.{is_room_answer}
use Rattle.ringcore_laws.specs.History.{Actor, after_step, is_busy, look_reply, on_ring, other_side, own_word, parties_of, position_of, actor_reply, room_reply}
use Rattle.ringcore_laws.specs.History.{sees, tags, with_tail}
use Rattle.ringcore_laws.proofs.Laws.{same_or_not, same_plan}
use Rattle.ringcore_laws.proofs.Lists.{get_set, get_set_other}
use Rattle.ringcore_laws.proofs.HistoryLaws.{on_true}
use Rattle.ringcore_laws.proofs.Telling.{look_seen_tells, on_some_ring, room_seen_tells}
use Rattle.ringcore_laws.proofs.Changes.{Opens, Closes, changes, grows}

-- the state when the actor last asked for room
pub record HadRoom (plans : List RingPlan) (pool : ℕ) (found : Option (List Actor)) (i : ℕ) (a : Actor) (s : Observed) (tail : ℕ) : Type 0 where
  pub past : List Actor
  pub is : found ≡ Some past
  pub kept : Invariant plans pool past
  pub rule : FreeRule tags plans pool (parties_of past)
  pub behind : IsBehind plans (parties_of past) s
  pub seen : tail ≡ (side_of (parties_of past) s.ring (other_side s.side)).len
  pub me : Actor
  pub at : slice_get past i ≡ Some me
  pub same : me.party ≡ a.party

-- what holds for an actor's look
pub record LookLaw (plans : List RingPlan) (pool : ℕ) (now : List Actor) (found : Option (List Actor)) (i : ℕ) (a : Actor) (s : Observed) : Type 0 where
  pub idle : a.party.span ≡ None
  pub behind : IsBehind plans (parties_of now) s
  pub room : (t : ℕ) → s.tail_seen ≡ Some t → HadRoom plans pool found i a s t

pub record Looks (plans : List RingPlan) (pool : ℕ) (now : List Actor) (found : ℕ → Option (List Actor)) : Type 0 where
  pub each : (i : ℕ) (a : Actor) (s : Observed) → slice_get now i ≡ Some a → a.observed ≡ Some s → LookLaw plans pool now (found i) i a s

pub no_room_answer : (step : Step) → is_room_answer step NoSpan ≡ false
no_room_answer (Look ring side) = refl
no_room_answer (Room ring side) = refl
no_room_answer (Reserve ring side how count) = refl
no_room_answer (SettlePut ring items) = refl
no_room_answer (SettleTake ring count) = refl
no_room_answer (Stash b) = refl
no_room_answer (Unstash b) = refl

-- the position of the word of a side that is free
own_position : (e : Extent) (mode : Mode) (l : RingSide Item) → is_busy mode l ≡ false → position_of e mode (own_word e mode l) ≡ base mode l
own_position e Multi l free = refl
own_position e Hts l free =
    let none : l.open_count ≡ 0 = grind (arith, nat_tests) in
    position_back e l.len l.open_count (omega (arith, range_some e))

module _ (plans : List RingPlan) (pool : ℕ) (actors : List Actor) (found : ℕ → Option (List Actor)) (looks : Looks plans pool actors found)
    (j : ℕ) (me : Actor) (mine : slice_get actors j ≡ Some me) (k : Invariant plans pool actors) (rule : FreeRule tags plans pool (parties_of actors)) where
  abbrev parties : List (Party Item)
  parties = parties_of actors

  lt : j < length actors
  lt = slice_get_within actors j me mine

  at : (d : Actor) → slice_index_or actors j d ≡ me
  at d = get_or_from_slice_get actors j me d mine

  abbrev Change : Actor → Type 0
  Change b = (b.party ≡ me.party) ⊎ (Opens plans pool me b ⊎ Closes plans actors me b)

  still_behind : (b : Actor) → Change b → (s : Observed) → IsBehind plans (parties_of actors) s → IsBehind plans (parties_of (slice_set actors j b)) s
  still_behind b change s behind plan there =
      omega (arith, behind plan there, grows plans pool actors j me lt at k b change s.ring s.side plan there)

  -- an unchanged look, of an actor whose party is unchanged
  lifted : (b : Actor) → Change b → (f : Option (List Actor)) (i : ℕ) (a c : Actor) (s : Observed) → c.party ≡ a.party → LookLaw plans pool actors f i a s
      → LookLaw plans pool (slice_set actors j b) f i c s
  lifted b change f i a c s same law = record {
    idle = ap (λ (p : Party Item). p.span) same ∙ law.idle;
    behind = still_behind b change s law.behind;
    room = λ t is. let q = law.room t is in record {
      past = q.past;
      is = q.is;
      kept = q.kept;
      rule = q.rule;
      behind = q.behind;
      seen = q.seen;
      me = q.me;
      at = q.at;
      same = q.same ∙ sym same;
    };
  }

  -- the actor that stepped, if its look is unchanged
  same_look : (b : Actor) → Change b → b.observed ≡ me.observed → (s : Observed) → b.observed ≡ Some s
      → LookLaw plans pool (slice_set actors j b) (found j) j b s
  same_look b (inl same) kept s seen = lifted b (inl same) (found j) j me b s same (looks.each j me s mine (sym kept ∙ seen))
  same_look b (inr (inl o)) kept s seen = absurd (let u : None ≡ Some s = sym o.look ∙ seen in cc)
  same_look b (inr (inr c)) kept s seen =
      let law = looks.each j me s mine (sym kept ∙ seen) in
      absurd (let u : None ≡ Some c.span = sym law.idle ∙ c.busy in cc)

  -- a new look
  new_look : (ring : ℕ) (side : Side) (w : ℕ) (o : Option RingPlan) → slice_get plans ring ≡ o
      → on_ring o (λ plan. look_reply plan.geometry (mode_of plan side) (side_of parties ring side) me) ≡ Seen w → (s : Observed)
      → Some record { ring = ring; side = side; looked_at = w; tail_seen = None } ≡ Some s
      → LookLaw plans pool (slice_set actors j (after_step me (Look ring side) (Seen w))) (found j) j (after_step me (Look ring side) (Seen w)) s
  new_look ring side w o is right s seen =
      let told =
      on_some_ring o (λ plan. look_reply plan.geometry (mode_of plan side) (side_of parties ring side) me) (Seen w) (λ e. (let u : NoSpan ≡ Seen w = e in cc)) right in
      let look = look_seen_tells told.0.geometry (mode_of told.0 side) (side_of parties ring side) me w told.2 in
      let position : position_of told.0.geometry (mode_of told.0 side) w ≡ base (mode_of told.0 side) (side_of parties ring side) =
      ap (position_of told.0.geometry (mode_of told.0 side)) (sym look.2) ∙ own_position told.0.geometry (mode_of told.0 side) (side_of parties ring side) look.1 in
      subst (λ (v : Observed). LookLaw plans pool (slice_set actors j (after_step me (Look ring side) (Seen w))) (found j) j
      (after_step me (Look ring side) (Seen w)) v)
      (same_plan seen) record {
        idle = look.0;
        behind = still_behind (after_step me (Look ring side) (Seen w)) (inl refl) record { ring = ring; side = side; looked_at = w; tail_seen = None }
            (λ plan there.
            let same : told.0 ≡ plan = same_plan (sym (is ∙ told.1) ∙ there) in
            omega (
              arith,
              ap (λ (v : RingPlan). position_of v.geometry (mode_of v side) w) same,
              ap (λ (v : RingPlan). base (mode_of v side) (side_of parties ring side)) same,
              position,
            ));
        room = λ t none. absurd (let u : None ≡ Some t = none in cc);
      }

  -- a question for room
  new_room : (ring : ℕ) (side : Side) (t : ℕ) (o : Option RingPlan) → slice_get plans ring ≡ o
      → on_ring o (λ plan. room_reply ring side (side_of parties ring (other_side side)) me) ≡ Seen t → (s : Observed)
      → with_tail me.observed t ≡ Some s
      → LookLaw plans pool (slice_set actors j (after_step me (Room ring side) (Seen t))) (Some actors) j (after_step me (Room ring side) (Seen t)) s
  new_room ring side t o is right s seen =
      let told =
      on_some_ring o (λ plan. room_reply ring side (side_of parties ring (other_side side)) me) (Seen t) (λ e. (let u : NoSpan ≡ Seen t = e in cc)) right in
      let room = room_seen_tells ring side (side_of parties ring (other_side side)) me t told.2 in
      by_look me.observed refl room.1 seen room.0 room.2
    where
      by_look : (v : Option Observed) → me.observed ≡ v → sees ring side v ≡ true → with_tail v t ≡ Some s → me.party.span ≡ None
          → (side_of parties ring (other_side side)).len ≡ t
          → LookLaw plans pool (slice_set actors j (after_step me (Room ring side) (Seen t))) (Some actors) j (after_step me (Room ring side) (Seen t)) s
      by_look None looked on with idle len = absurd (let u : false ≡ true = on in cc)
      by_look (Some old) looked on with idle len =
          let law = looks.each j me old mine looked in
          let place = on_true old.ring ring old.side side on in
          let tail : t ≡ (side_of parties old.ring (other_side old.side)).len =
          sym len ∙ (ap (λ r. (side_of parties r (other_side side)).len) place.0 ∙ ap (λ v. (side_of parties old.ring (other_side v)).len) place.1) in
          subst (λ (v : Observed). LookLaw plans pool (slice_set actors j (after_step me (Room ring side) (Seen t))) (Some actors) j
          (after_step me (Room ring side) (Seen t)) v)
          (same_plan with) record {
            idle = idle;
            behind = still_behind (after_step me (Room ring side) (Seen t)) (inl refl)
                record { ring = old.ring; side = old.side; looked_at = old.looked_at; tail_seen = Some t } law.behind;
            room = λ t' same. record {
              past = actors;
              is = refl;
              kept = k;
              rule = rule;
              behind = law.behind;
              seen = sym (same_plan same) ∙ tail;
              me = me;
              at = mine;
              same = refl;
            };
          }

  -- the look of the actor that stepped
  own_look : (step : Step) (reply : Reply) → actor_reply plans pool parties me step ≡ reply → (s : Observed) → (after_step me step reply).observed ≡ Some s
      → LookLaw plans pool (slice_set actors j (after_step me step reply)) (if is_room_answer step reply then Some actors else found j) j
      (after_step me step reply) s
  own_look (Look ring side) (Seen w) right s seen = new_look ring side w (slice_get plans ring) refl right s seen
  own_look (Look ring side) (Busy w) right s seen = absurd (let u : None ≡ Some s = seen in cc)
  own_look (Look ring side) reply right s seen = same_look me (inl refl) refl s seen
  own_look (Room ring side) (Seen t) right s seen = new_room ring side t (slice_get plans ring) refl right s seen
  own_look (Room ring side) reply right s seen = same_look me (inl refl) refl s seen
  own_look (Reserve ring side how count) NoSpan right s seen = same_look me (inl refl) refl s seen
  own_look (Reserve ring side how count) (Granted start n left) right s seen = absurd (let u : None ≡ Some s = seen in cc)
  own_look (Reserve ring side how count) reply right s seen = absurd (let u : None ≡ Some s = seen in cc)
  own_look (SettlePut ring items) (Done n its) right s seen =
      same_look (after_step me (SettlePut ring items) (Done n its)) (changes plans pool actors j me lt at k (SettlePut ring items) (Done n its) right) refl s
      seen
  own_look (SettlePut ring items) reply right s seen = same_look me (inl refl) refl s seen
  own_look (SettleTake ring count) (Done n its) right s seen =
      same_look (after_step me (SettleTake ring count) (Done n its)) (changes plans pool actors j me lt at k (SettleTake ring count) (Done n its) right) refl s
      seen
  own_look (SettleTake ring count) reply right s seen = same_look me (inl refl) refl s seen
  own_look (Stash b) (Seen c) right s seen = same_look (after_step me (Stash b) (Seen c)) (inl refl) refl s seen
  own_look (Stash b) reply right s seen = same_look me (inl refl) refl s seen
  own_look (Unstash b) (Seen c) right s seen = same_look (after_step me (Unstash b) (Seen c)) (inl refl) refl s seen
  own_look (Unstash b) reply right s seen = same_look me (inl refl) refl s seen

  pub looks_after : (step : Step) (reply : Reply) → actor_reply plans pool parties me step ≡ reply
      → Looks plans pool (slice_set actors j (after_step me step reply)) (λ i. if (j == i) && is_room_answer step reply then Some actors else found i)
  looks_after step reply right = record { each = λ i a s here seen. by_actor i a s here seen (same_or_not i j) }
    where
      b : Actor
      b = after_step me step reply

      by_actor : (i : ℕ) (a : Actor) (s : Observed) → slice_get (slice_set actors j (after_step me step reply)) i ≡ Some a → a.observed ≡ Some s
          → (i ≡ j) ⊎ (i ≢ j)
          → LookLaw plans pool (slice_set actors j (after_step me step reply)) (if (j == i) && is_room_answer step reply then Some actors else found i) i a s
      by_actor i a s here seen (inl same) =
          let is : after_step me step reply ≡ a =
          get_set actors j (after_step me step reply) a (ap (slice_get (slice_set actors j (after_step me step reply))) (sym same) ∙ here) in
          let own = own_look step reply right s (ap (λ (v : Actor). v.observed) is ∙ seen) in
          let test : (j == j) ≡ true = grind (arith, nat_tests) in
          subst (λ (v : ℕ). LookLaw plans pool (slice_set actors j (after_step me step reply))
          (if (j == v) && is_room_answer step reply then Some actors else found v) v a s) (sym same)
          (subst (λ (v : Actor). LookLaw plans pool (slice_set actors j (after_step me step reply))
          (if (j == j) && is_room_answer step reply then Some actors else found j) j v s) is
          (subst (λ (t : Bool). LookLaw plans pool (slice_set actors j (after_step me step reply))
          (if t && is_room_answer step reply then Some actors else found j) j (after_step me step reply) s) (sym test) own))
      by_actor i a s here seen (inr apart) =
          let test : (j == i) ≡ false = grind (arith, nat_tests) in
          let old = looks.each i a s (sym (get_set_other actors j i (after_step me step reply) apart) ∙ here) seen in
          subst (λ (t : Bool). LookLaw plans pool (slice_set actors j (after_step me step reply))
          (if t && is_room_answer step reply then Some actors else found i) i a s) (sym test)
          (lifted (after_step me step reply) (changes plans pool actors j me lt at k step reply right) (found i) i a a s refl old)
