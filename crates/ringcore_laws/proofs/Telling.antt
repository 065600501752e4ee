-- What follows from a reply about the state in which it was given
use Rattle.std.proofs.Common.{ℕ, ◌+◌, ◌≤◌, ◌≡◌, ◌≢◌, List, [], length, take, drop, refl, arith, true, false, Bool}
use Rattle.std.specs.Prelude.{nat_lt, Option, Some, None, is_some, not, ◌==◌, ◌-◌, if◌then◌else◌}
use Rattle.std.proofs.lemmas.Bool.Decides.{nat_tests}
use Rattle.geom.specs.declared.plan.How.{How}
use Rattle.geom.specs.declared.plan.How.TheVariants.{Bulk, Burst}
use Rattle.geom.specs.declared.plan.Mode.{Mode}
use Rattle.geom.specs.declared.plan.RingPlan.{RingPlan}
use Rattle.geom.specs.declared.plan.Side.{Side}
use Rattle.geom.specs.declared.plan.Side.TheVariants.{Put, Take}
use Rattle.geom.specs.Extent.{Extent}
use Rattle.geom.specs.Plan.{mode_of, granted}
use Rattle.ringcore_laws.specs.declared.contents.Item.{Item}
use Rattle.ringcore_laws.specs.declared.protocol.Observed.{Observed}
use Rattle.ringcore_laws.specs.declared.protocol.Span.{Span}
use Rattle.ringcore_laws.specs.declared.protocol.Reply.{Reply}
use Rattle.ringcore_laws.specs.declared.protocol.Reply.TheVariants.{Seen, Granted, Done, Busy, Contended, NoRoom, NotYet, Worn, NoSpan, BadCount, NotYours}
use Rattle.ringcore_laws.specs.declared.party.Party.{Party}
use Rattle.ringcore_laws.specs.Party.{is_on}
use Rattle.ringcore_laws.specs.RingSide.{RingSide, side_of, listed}
use Rattle.ringcore_laws.specs.History.{Actor, both_seen, buffers_of_actor, earlier_open, is_bad_reserve, is_bad_settle, is_busy, look_reply, may_put, on_ring}
use Rattle.ringcore_laws.specs.History.{own_word, position_of, put_reply, reserve_reply, reserve_seen, room_by_look, room_reply, seen_on, sees, take_reply}

-- a test, one of whose results can't be the one that was given
pub passed : {X : Type 0} (b : Bool) {x y r : X} → (x ≡ r → ⊥) → (if b then x else y) ≡ r → (b ≡ false) × (y ≡ r)
passed true never h = absurd (never h)
passed false never h = (refl, h)

pub stopped_at : {X : Type 0} (b : Bool) {x y r : X} → (y ≡ r → ⊥) → (if b then x else y) ≡ r → (b ≡ true) × (x ≡ r)
stopped_at true never h = (refl, h)
stopped_at false never h = absurd (never h)

none_of : {X : Type 0} (o : Option X) → is_some o ≡ false → o ≡ None
none_of None h = refl
none_of (Some s) h = absurd (let u : true ≡ false = h in cc)

yes_of : (b : Bool) → not b ≡ false → b ≡ true
yes_of true h = refl
yes_of false h = absurd (let u : true ≡ false = h in cc)

-- a step on no ring is answered NoSpan
pub on_some_ring : (o : Option RingPlan) (reply : RingPlan → Reply) (r : Reply) → NoSpan ≢ r → on_ring o reply ≡ r → (plan : RingPlan) × (o ≡ Some plan)
    × (reply plan ≡ r)
on_some_ring None reply r some h = absurd (some h)
on_some_ring (Some plan) reply r some h = (plan, refl, h)

pub look_seen_tells : (e : Extent) (mode : Mode) (l : RingSide Item) (a : Actor) (w : ℕ) → look_reply e mode l a ≡ Seen w → (a.party.span ≡ None) × (is_busy mode l ≡ false)
    × (own_word e mode l ≡ w)
look_seen_tells e mode l a w h =
    let idle = passed (is_some a.party.span) (λ h'. (let u : NoSpan ≡ Seen w = h' in cc)) h in
    let free = passed (is_busy mode l) (λ h'. (let u : Busy (own_word e mode l) ≡ Seen w = h' in cc)) idle.1 in
    (none_of a.party.span idle.0, free.0, (let u : Seen (own_word e mode l) ≡ Seen w = free.1 in cc))

pub look_busy_tells : (e : Extent) (mode : Mode) (l : RingSide Item) (a : Actor) (w : ℕ) → look_reply e mode l a ≡ Busy w → (a.party.span ≡ None) × (is_busy mode l ≡ true)
look_busy_tells e mode l a w h =
    let idle = passed (is_some a.party.span) (λ h'. (let u : NoSpan ≡ Busy w = h' in cc)) h in
    let busy = stopped_at (is_busy mode l) (λ h'. (let u : Seen (own_word e mode l) ≡ Busy w = h' in cc)) idle.1 in
    (none_of a.party.span idle.0, busy.0)

pub room_seen_tells : (ring : ℕ) (side : Side) (other : RingSide Item) (a : Actor) (t : ℕ) → room_reply ring side other a ≡ Seen t
    → (a.party.span ≡ None) × (sees ring side a.observed ≡ true) × (other.len ≡ t)
room_seen_tells ring side other a t h =
    let idle = passed (is_some a.party.span) (λ e. (let u : NoSpan ≡ Seen t = e in cc)) h in
    let on = stopped_at (sees ring side a.observed) (λ e. (let u : NoSpan ≡ Seen t = e in cc)) idle.1 in
    (none_of a.party.span idle.0, on.0, (let u : Seen other.len ≡ Seen t = on.1 in cc))

-- a Reserve that isn't out of turn: what was seen, and the reply by it
pub record Reserving (plan : RingPlan) (pool ring : ℕ) (side : Side) (how : How) (count : ℕ) (l : RingSide Item) (a : Actor) (reply : Reply) : Type 0 where
  pub idle : a.party.span ≡ None
  pub look : Observed
  pub looked : a.observed ≡ Some look
  pub on : is_on look.ring look.side ring side ≡ true
  pub tail : ℕ
  pub seen : look.tail_seen ≡ Some tail
  pub answer : reserve_seen plan side how count l (buffers_of_actor pool a) (Some (look.looked_at, tail)) ≡ reply

pub reserve_tells : (plan : RingPlan) (pool ring : ℕ) (side : Side) (how : How) (count : ℕ) (l : RingSide Item) (a : Actor) (reply : Reply) → NoSpan ≢ reply
    → reserve_reply plan pool ring side how count l a ≡ reply → Reserving plan pool ring side how count l a reply
reserve_tells plan pool ring side how count l a reply some h =
    let idle = passed (is_some a.party.span) some h in
    by_look a.observed refl idle.1 (none_of a.party.span idle.0)
  where
    by_tail : (s : Observed) → a.observed ≡ Some s → is_on s.ring s.side ring side ≡ true → (o : Option ℕ) → s.tail_seen ≡ o
        → reserve_seen plan side how count l (buffers_of_actor pool a) (both_seen s.looked_at o) ≡ reply → a.party.span ≡ None
        → Reserving plan pool ring side how count l a reply
    by_tail s looked on None seen answer idle = absurd (some answer)
    by_tail s looked on (Some t) seen answer idle = record { idle = idle; look = s; looked = looked; on = on; tail = t; seen = seen; answer = answer }

    by_on : (s : Observed) → a.observed ≡ Some s → (b : Bool) → is_on s.ring s.side ring side ≡ b
        → reserve_seen plan side how count l (buffers_of_actor pool a) (if b then both_seen s.looked_at s.tail_seen else None) ≡ reply → a.party.span ≡ None
        → Reserving plan pool ring side how count l a reply
    by_on s looked true on answer idle = by_tail s looked on s.tail_seen refl answer idle
    by_on s looked false off answer idle = absurd (some answer)

    by_look : (o : Option Observed) → a.observed ≡ o → reserve_seen plan side how count l (buffers_of_actor pool a) (seen_on ring side o) ≡ reply
        → a.party.span ≡ None
        → Reserving plan pool ring side how count l a reply
    by_look None looked answer idle = absurd (some answer)
    by_look (Some s) looked answer idle = by_on s looked (is_on s.ring s.side ring side) refl answer idle

granted_few : (how : How) (count room : ℕ) → granted how count room ≤ count
granted_few Bulk count room = grind (arith, nat_tests)
granted_few Burst count room = omega arith

module _ (plan : RingPlan) (side : Side) (how : How) (count : ℕ) (l : RingSide Item) (had looked tail : ℕ) where
  abbrev room_seen : ℕ
  room_seen = room_by_look side plan.geometry.capacity (position_of plan.geometry (mode_of plan side) looked) tail

  abbrev many : ℕ
  many = granted how count room_seen

  pub granted_tells : (start n left : ℕ) → reserve_seen plan side how count l had (Some (looked, tail)) ≡ Granted start n left
      → (is_bad_reserve side plan.free count had ≡ false) × (n ≤ count)
  granted_tells start n left h =
      let good = passed (is_bad_reserve side plan.free count had) (λ e. (let u : BadCount ≡ Granted start n left = e in cc)) h in
      let some = passed (many == 0) (λ e. (let u : NoRoom room_seen ≡ Granted start n left = e in cc)) good.1 in
      let last = passed (nat_lt plan.geometry.last (position_of plan.geometry (mode_of plan side) looked + many)) (λ e. (let u : Worn ≡ Granted start n left = e in cc)) some.1 in
      let won =
      stopped_at (own_word plan.geometry (mode_of plan side) l == looked) (λ e. (let u : Contended (own_word plan.geometry (mode_of plan side) l) ≡ Granted start n left = e in cc))
      last.1 in
      let same : many ≡ n = (let u : Granted (position_of plan.geometry (mode_of plan side) looked) many (room_seen - many) ≡ Granted start n left = won.1 in cc) in
      (good.0, omega (arith, same, granted_few how count room_seen))

  pub no_room_tells : (room : ℕ) → reserve_seen plan side how count l had (Some (looked, tail)) ≡ NoRoom room
      → (is_bad_reserve side plan.free count had ≡ false) × (granted how count room_seen ≡ 0) × (room_seen ≡ room)
  no_room_tells room h =
      let good = passed (is_bad_reserve side plan.free count had) (λ e. (let u : BadCount ≡ NoRoom room = e in cc)) h in
      let none = stopped_at (many == 0)
      (λ e. not_room (nat_lt plan.geometry.last (position_of plan.geometry (mode_of plan side) looked + many)) (own_word plan.geometry (mode_of plan side) l == looked) e) good.1 in
      (good.0, grind (arith, nat_tests, none.0), (let u : NoRoom room_seen ≡ NoRoom room = none.1 in cc))
    where
      not_room : (b c : Bool) → (if b then Worn else if c then Granted (position_of plan.geometry (mode_of plan side) looked) many (room_seen - many)
          else Contended (own_word plan.geometry (mode_of plan side) l)) ≡ NoRoom room → ⊥
      not_room true c e = (let u : Worn ≡ NoRoom room = e in cc)
      not_room false true e = (let u : Granted (position_of plan.geometry (mode_of plan side) looked) many (room_seen - many) ≡ NoRoom room = e in cc)
      not_room false false e = (let u : Contended (own_word plan.geometry (mode_of plan side) l) ≡ NoRoom room = e in cc)

  pub contended_tells : (word : ℕ) → reserve_seen plan side how count l had (Some (looked, tail)) ≡ Contended word
      → (own_word plan.geometry (mode_of plan side) l ≡ word) × (own_word plan.geometry (mode_of plan side) l ≢ looked)
  contended_tells word h =
      let good = passed (is_bad_reserve side plan.free count had) (λ e. (let u : BadCount ≡ Contended word = e in cc)) h in
      let some = passed (many == 0) (λ e. (let u : NoRoom room_seen ≡ Contended word = e in cc)) good.1 in
      let last = passed (nat_lt plan.geometry.last (position_of plan.geometry (mode_of plan side) looked + many)) (λ e. (let u : Worn ≡ Contended word = e in cc)) some.1 in
      let lost =
      passed (own_word plan.geometry (mode_of plan side) l == looked) (λ e.
      (let u : Granted (position_of plan.geometry (mode_of plan side) looked) many (room_seen - many) ≡ Contended word = e in cc)) last.1 in
      ((let u : Contended (own_word plan.geometry (mode_of plan side) l) ≡ Contended word = lost.1 in cc), grind (arith, nat_tests, lost.0))

-- what a settle that is answered Done, or NotYet, had
pub put_done_tells : (plan : RingPlan) (ring : ℕ) (parties : List (Party Item)) (a : Actor) (items : List Item) (o : Option Span) (n : ℕ) (its : List Item)
    → put_reply plan ring parties a items o ≡ Done n its
    → (s : Span) × (o ≡ Some s) × (is_on s.ring s.side ring Put ≡ true) × (is_bad_settle plan.put (length items) s.count ≡ false)
    × (may_put plan.free a items ≡ true) × (earlier_open ring Put s.start parties ≡ false)
put_done_tells plan ring parties a items None n its h = absurd (let u : NoSpan ≡ Done n its = h in cc)
put_done_tells plan ring parties a items (Some s) n its h =
    let on = passed (not (is_on s.ring s.side ring Put)) (λ e. (let u : NoSpan ≡ Done n its = e in cc)) h in
    let fits = passed (is_bad_settle plan.put (length items) s.count) (λ e. (let u : BadCount ≡ Done n its = e in cc)) on.1 in
    let mine = passed (not (may_put plan.free a items)) (λ e. (let u : NotYours ≡ Done n its = e in cc)) fits.1 in
    let now = passed (earlier_open ring Put s.start parties) (λ e. (let u : NotYet (side_of parties ring Put).len ≡ Done n its = e in cc)) mine.1 in
    (s, refl, yes_of (is_on s.ring s.side ring Put) on.0, fits.0, yes_of (may_put plan.free a items) mine.0, now.0)

pub put_early_tells : (plan : RingPlan) (ring : ℕ) (parties : List (Party Item)) (a : Actor) (items : List Item) (o : Option Span) (tail : ℕ)
    → put_reply plan ring parties a items o ≡ NotYet tail → (s : Span) × (o ≡ Some s) × (is_on s.ring s.side ring Put ≡ true)
    × (earlier_open ring Put s.start parties ≡ true)
put_early_tells plan ring parties a items None tail h = absurd (let u : NoSpan ≡ NotYet tail = h in cc)
put_early_tells plan ring parties a items (Some s) tail h =
    let on = passed (not (is_on s.ring s.side ring Put)) (λ e. (let u : NoSpan ≡ NotYet tail = e in cc)) h in
    let fits = passed (is_bad_settle plan.put (length items) s.count) (λ e. (let u : BadCount ≡ NotYet tail = e in cc)) on.1 in
    let mine = passed (not (may_put plan.free a items)) (λ e. (let u : NotYours ≡ NotYet tail = e in cc)) fits.1 in
    let early = stopped_at (earlier_open ring Put s.start parties) (λ e. (let u : Done (length items) [] ≡ NotYet tail = e in cc)) mine.1 in
    (s, refl, yes_of (is_on s.ring s.side ring Put) on.0, early.0)

pub take_done_tells : (plan : RingPlan) (ring : ℕ) (parties : List (Party Item)) (count : ℕ) (o : Option Span) (n : ℕ) (its : List Item)
    → take_reply plan ring parties count o ≡ Done n its
    → (s : Span) × (o ≡ Some s) × (is_on s.ring s.side ring Take ≡ true) × (is_bad_settle plan.take count s.count ≡ false)
    × (earlier_open ring Take s.start parties ≡ false) × (take count (drop s.start (listed (side_of parties ring Put))) ≡ its)
take_done_tells plan ring parties count None n its h = absurd (let u : NoSpan ≡ Done n its = h in cc)
take_done_tells plan ring parties count (Some s) n its h =
    let on = passed (not (is_on s.ring s.side ring Take)) (λ e. (let u : NoSpan ≡ Done n its = e in cc)) h in
    let fits = passed (is_bad_settle plan.take count s.count) (λ e. (let u : BadCount ≡ Done n its = e in cc)) on.1 in
    let now = passed (earlier_open ring Take s.start parties) (λ e. (let u : NotYet (side_of parties ring Take).len ≡ Done n its = e in cc)) fits.1 in (
      s,
      refl,
      yes_of (is_on s.ring s.side ring Take) on.0,
      fits.0,
      now.0,
      (let u : Done count (take count (drop s.start (listed (side_of parties ring Put)))) ≡ Done n its = now.1 in cc),
    )

pub take_early_tells : (plan : RingPlan) (ring : ℕ) (parties : List (Party Item)) (count : ℕ) (o : Option Span) (tail : ℕ)
    → take_reply plan ring parties count o ≡ NotYet tail → (s : Span) × (o ≡ Some s) × (is_on s.ring s.side ring Take ≡ true)
    × (earlier_open ring Take s.start parties ≡ true)
take_early_tells plan ring parties count None tail h = absurd (let u : NoSpan ≡ NotYet tail = h in cc)
take_early_tells plan ring parties count (Some s) tail h =
    let on = passed (not (is_on s.ring s.side ring Take)) (λ e. (let u : NoSpan ≡ NotYet tail = e in cc)) h in
    let fits = passed (is_bad_settle plan.take count s.count) (λ e. (let u : BadCount ≡ NotYet tail = e in cc)) on.1 in
    let early =
    stopped_at (earlier_open ring Take s.start parties) (λ e.
    (let u : Done count (take count (drop s.start (listed (side_of parties ring Put)))) ≡ NotYet tail = e in cc)) fits.1 in
    (s, refl, yes_of (is_on s.ring s.side ring Take) on.0, early.0)
