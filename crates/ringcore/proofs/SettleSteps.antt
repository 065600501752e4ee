-- A settle: its reply by the tail is the right one, and the machine's lists agree after it
use Rattle.std.proofs.Common.{ℕ, suc, ◌+◌, ◌-◌, ◌<◌, ◌≤◌, ◌≢◌, ◌≡◌, ◌⊎◌, inl, inr, List, [], ◌∷◌, ◌++◌, length, take, drop, refl, ap, sym, subst, ◌∙◌, arith}
use Rattle.std.proofs.Common.{true, false, Bool}
use Rattle.std.specs.Prelude.{slice_get, slice_set, slice_index_or, Option, Some, None, not, ◌&&◌, ◌||◌, ◌==◌, nat_lt, ◌^◌, if◌then◌else◌}
use Rattle.std.specs.List.{list_any, list_all, flat_map}
use Rattle.std.proofs.lemmas.List.{length-set, length-take, length-drop}
use Rattle.std.proofs.lemmas.List.Sums.{sum_by-cons, sum_by-take-le}
use Rattle.std.proofs.lemmas.Bool.Decides.{nat_tests}
use Rattle.geom.specs.declared.plan.Mode.{Mode}
use Rattle.geom.specs.declared.plan.Mode.TheVariants.{Multi, Hts}
use Rattle.geom.specs.declared.plan.Side.{Side}
use Rattle.geom.specs.declared.plan.Side.TheVariants.{Put, Take}
use Rattle.geom.specs.declared.plan.RingPlan.{RingPlan}
use Rattle.ringcore_laws.specs.declared.contents.Item.{Item}
use Rattle.ringcore_laws.specs.declared.protocol.Span.{Span}
use Rattle.ringcore_laws.specs.declared.protocol.Reply.{Reply}
use Rattle.ringcore_laws.specs.declared.protocol.Reply.TheVariants.{Done, NotYet, NoSpan, BadCount, NotYours}
use Rattle.ringcore_laws.specs.declared.party.Party.{Party}
use Rattle.ringcore_laws.specs.declared.party.Settled.{Settled}
use Rattle.ringcore_laws.specs.Party.{is_on, same_side, with_settled}
use Rattle.ringcore_laws.specs.Moves.{settled_by}
use Rattle.ringcore_laws.specs.RingSide.{RingSide, side_of, listed, IsGapless}
use Rattle.ringcore_laws.specs.Sound.{Sound, SoundRing, holds, in_ring, moved, place_count, settled_times, queue, occurrences, occurrences_in}
use Rattle.ringcore_laws.specs.HeadTailRule.{HeadTailRule}
use Rattle.ringcore_laws.specs.Invariant.{Invariant}
use Rattle.ringcore_laws.specs.History.{Actor, tags, parties_of, starts_below, earlier_open, is_held, is_cached, may_put, is_bad_settle, put_reply, take_reply}
use Rattle.ringcore_laws.specs.History.{after_settle_put, after_settle_take, settled_span}
use Rattle.ringcore_laws.proofs.SideLaws.{settles_side_of}
use Rattle.ringcore_laws.proofs.RingLaws.{below_or_not, open_count, held_cases, unsettled_above, length-listed, takes_le_puts}
use Rattle.ringcore_laws.proofs.Laws.{off_ring, off_put, off_take, same_or_not, same_plan, settled_other, times_in_is}
use Rattle.ringcore_laws.proofs.HeadTailLaws.{first_in_line, own_span, range_part}
use Rattle.ringcore_laws.proofs.Queues.{OwnSettled, own_settled, put_queue, take_queue}
use Rattle.ringcore_laws.proofs.HistoryLaws.{parties_set, parties_at, parties_length, parties_unchanged, on_true, and_true, passes, settle_fits}
use Rattle.ringcore_laws.proofs.Lists.{get_set, get_set_other}
use Rattle.std.proofs.lemmas.Option.{slice_get_within}
use Rattle.ringcore_laws.proofs.Telling.{put_done_tells, take_done_tells}
use Rattle.ringcore.proofs.MoveSteps.{entries_put, entries_take}
use Rattle.ringcore.proofs.Steps.{lift, set_same}
use Rattle.ringcore.specs.declared.ring.Words.{Words}
use Rattle.ringcore.specs.declared.ring.Ring.{Ring}
use Rattle.ringcore.specs.declared.member.Member.{Member}
use Rattle.ringcore_laws.specs.declared.protocol.Place.{Place}
use Rattle.ringcore_laws.specs.declared.protocol.Place.TheVariants.{AtRing, Held, Cached, Nowhere}
use Rattle.ringcore.specs.Agree.{EntriesAgree, HandAgrees, WordsAgree, MemberAgrees, RingAgrees, SpansAgree}
use Rattle.ringcore.specs.Changes.{words_moved_to, IsDequeued, IsPublished, NothingSettled, PutResult, SpanSettled, TakeResult, end_at, start_at}
use Rattle.ringcore.specs.Entries.{entry, is_cached_at, is_held_at, may_put_all, times_with, with_each, with_items_at}
use Rattle.ringcore.specs.Replies.{put_answer, take_answer}

-- what may be put, by the entries

held_shape : (i : ℕ) (x : Place) → is_held_at i x ≡ ((times_with i x == 1) && not (is_cached_at i x))
held_shape i (AtRing r p) = refl
held_shape i Nowhere = refl
held_shape i (Held j) = by_test (j == i)
  where
    by_test : (t : Bool) → t ≡ (((if t then 1 else 0) == 1) && true)
    by_test true = refl
    by_test false = refl
held_shape i (Cached j) = by_test (j == i)
  where
    by_test : (t : Bool) → false ≡ (((if t then 1 else 0) == 1) && not t)
    by_test true = refl
    by_test false = refl

cached_shape : (i : ℕ) (x : Place) → is_cached_at i x ≡ ((times_with i x == 1) && is_cached_at i x)
cached_shape i (AtRing r p) = refl
cached_shape i Nowhere = refl
cached_shape i (Held j) = by_test (j == i)
  where
    by_test : (t : Bool) → false ≡ (((if t then 1 else 0) == 1) && false)
    by_test true = refl
    by_test false = refl
cached_shape i (Cached j) = by_test (j == i)
  where
    by_test : (t : Bool) → t ≡ (((if t then 1 else 0) == 1) && t)
    by_test true = refl
    by_test false = refl

pub held_at_is : (pool : ℕ) (places : List Place) (i : ℕ) (a : Actor) (m : Member) → HandAgrees pool places i a m → (b : ℕ)
    → is_held_at i (entry places b) ≡ is_held a b
held_at_is pool places i a m h b =
    held_shape i (entry places b)
    ∙ (ap (λ n. (n == 1) && not (is_cached_at i (entry places b))) (sym (h.held b)) ∙ ap (λ v. (holds tags b a.party == 1) && not v) (sym (h.cached b)))

pub cached_at_is : (pool : ℕ) (places : List Place) (i : ℕ) (a : Actor) (m : Member) → HandAgrees pool places i a m → (b : ℕ)
    → is_cached_at i (entry places b) ≡ ((holds tags b a.party == 1) && is_cached a b)
cached_at_is pool places i a m h b =
    cached_shape i (entry places b)
    ∙ (ap (λ n. (n == 1) && is_cached_at i (entry places b)) (sym (h.held b)) ∙ ap (λ v. (holds tags b a.party == 1) && v) (sym (h.cached b)))

pub may_put_is : (free : Bool) (pool : ℕ) (places : List Place) (i : ℕ) (a : Actor) (m : Member) (items : List Item) → HandAgrees pool places i a m
    → may_put_all free m.number places items ≡ may_put free a items
may_put_is free pool places i a m items h =
    ap (λ v. may_put_all free v places items) h.number
    ∙ ap (λ (f : ℕ → Bool). list_all f (flat_map tags items) && list_all (λ b. occurrences b (flat_map tags items) == 1) (flat_map tags items)
    && (not free || list_all (λ x. length (tags x) == 1) items)) (λ j b. held_at_is pool places i a m h b j)

or_true : (a b : Bool) → (a || b) ≡ true → (a ≡ true) ⊎ (b ≡ true)
or_true true b h = inl refl
or_true false b h = inr h

-- a party that passes is in the list
found : (f : Party Item → Bool) (xs : List (Party Item)) → list_any f xs ≡ true → (j : ℕ) × (j < length xs)
    × ((d : Party Item) → f (slice_index_or xs j d) ≡ true)
found f [] h = absurd (let u : false ≡ true = h in cc)
found f (x ∷ xs) h = elim (or_true (f x) (list_any f xs) h) [
  | inl here ↦ (0, omega arith, λ d. here)
  | inr later ↦ let r = found f xs later in (suc r.0, omega (arith, r.1), λ d. r.2 d)
]

below_tells : (ring : ℕ) (side : Side) (start : ℕ) (o : Option Span) → starts_below ring side start o ≡ true → (s : Span) × (o ≡ Some s)
    × (is_on s.ring s.side ring side ≡ true) × (s.start < start)
below_tells ring side start None h = absurd (let u : false ≡ true = h in cc)
below_tells ring side start (Some s) h = let both = and_true (is_on s.ring s.side ring side) (nat_lt s.start start) h in (s, refl, both.0, less both.1)
  where
    less : nat_lt s.start start ≡ true → s.start < start
    less e = grind (arith, nat_tests)

-- a span is the first exactly if it starts at the tail
pub earlier_is : (plans : List RingPlan) (parties : List (Party Item)) (k : ℕ) (d : Party Item) (s : Span) (plan : RingPlan) → HeadTailRule plans parties
    → IsGapless (side_of parties s.ring s.side)
    → ((p : ℕ) → 0 < (side_of parties s.ring s.side).openers p → (side_of parties s.ring s.side).items_at p ≡ [])
    → k < length parties → (slice_index_or parties k d).span ≡ Some s → slice_get plans s.ring ≡ Some plan
    → earlier_open s.ring s.side s.start parties ≡ not ((side_of parties s.ring s.side).len == s.start)
earlier_is plans parties k d s plan o g unsettled lt busy there = by_test (earlier_open s.ring s.side s.start parties) refl
  where
    l : RingSide Item
    l = side_of parties s.ring s.side

    by_test : (t : Bool) → earlier_open s.ring s.side s.start parties ≡ t → t ≡ not (l.len == s.start)
    by_test false e = let first : s.start ≡ l.len = first_in_line plans parties k d s plan o g unsettled lt busy there e in grind (arith, nat_tests)
    by_test true e =
        let f = found (λ party. starts_below s.ring s.side s.start party.span) parties e in
        let t = below_tells s.ring s.side s.start (slice_index_or parties f.0 d).span (f.2 d) in
        let place = on_true t.0.ring s.ring t.0.side s.side t.2 in
        let own = own_span parties f.0 d t.0 f.1 t.1 in
        let positive = (o.spans f.0 d t.0 f.1 t.1).positive in
        let at : 0 < (side_of parties t.0.ring t.0.side).openers t.0.start =
        elim (held_cases t.0 t.0.start) [
          | inl inside ↦ omega (arith, own.2 t.0.start, inside.2)
          | inr out ↦
              elim out.0 [ inl x ↦ absurd (omega arith) | inr y ↦ absurd (omega (arith, positive)) ]
        ] in
        let same : (side_of parties t.0.ring t.0.side).openers t.0.start ≡ l.openers t.0.start =
        ap (λ (v : ℕ). (side_of parties v t.0.side).openers t.0.start) (sym place.0)
        ∙ ap (λ (v : Side). (side_of parties s.ring v).openers t.0.start) (sym place.1) in
        let above = unsettled_above l g t.0.start (unsettled t.0.start (omega arith)) in
        differ (omega (arith, above, t.3))
      where
        differ : l.len < s.start → true ≡ not (l.len == s.start)
        differ less = grind (arith, nat_tests)

module _ (plans : List RingPlan) (pool : ℕ) (actors : List Actor) (i : ℕ) (a : Actor) (lt : i < length actors)
    (at : (d : Actor) → slice_index_or actors i d ≡ a) (k : Invariant plans pool actors) (m : Member) (h : MemberAgrees a m) where
  here : slice_index_or (parties_of actors) i a.party ≡ a.party
  here = parties_at actors i a lt ∙ ap (λ (v : Actor). v.party) (at a)

  in_parties : i < length (parties_of actors)
  in_parties = omega (arith, parties_length actors)

  -- the answer to a settle of a put is the reply
  pub put_answer_is : (ring tail : ℕ) (plan : RingPlan) (items : List Item) (places : List Place) → HandAgrees pool places i a m
      → slice_get plans ring ≡ Some plan → tail ≡ (side_of (parties_of actors) ring Put).len
      → put_answer plan ring tail m.number places items m.span ≡ put_reply plan ring (parties_of actors) a items a.party.span
  put_answer_is ring tail plan items places hand there e = ap (put_answer plan ring tail m.number places items) h.span ∙ by_span a.party.span refl
    where
      answer : Bool → Bool → Bool → ℕ → Span → Reply
      answer on may earlier tail s =
          if not on then NoSpan else if is_bad_settle plan.put (length items) s.count then BadCount else if not may then NotYours
          else if earlier then NotYet tail else Done (length items) []

      may : may_put_all plan.free m.number places items ≡ may_put plan.free a items
      may = may_put_is plan.free pool places i a m items hand

      by_span : (o : Option Span) → a.party.span ≡ o → put_answer plan ring tail m.number places items o
          ≡ put_reply plan ring (parties_of actors) a items o
      by_span None busy = refl
      by_span (Some s) busy = by_on (is_on s.ring s.side ring Put) refl
        where
          by_on : (t : Bool) → is_on s.ring s.side ring Put ≡ t
              → put_answer plan ring tail m.number places items (Some s) ≡ put_reply plan ring (parties_of actors) a items (Some s)
          by_on false off =
              ap (λ v. answer v (may_put_all plan.free m.number places items) (not (tail == s.start)) tail s) off
              ∙ sym (ap (λ v. answer v (may_put plan.free a items) (earlier_open ring Put s.start (parties_of actors))
              (side_of (parties_of actors) ring Put).len s) off)
          by_on true on =
              ap (λ v. answer (is_on s.ring s.side ring Put) v (not (tail == s.start)) tail s) may
              ∙ (ap (λ v. answer (is_on s.ring s.side ring Put) (may_put plan.free a items) (not (v == s.start)) v s) e
              ∙ ap (λ v. answer (is_on s.ring s.side ring Put) (may_put plan.free a items) v (side_of (parties_of actors) ring Put).len s) (sym first))
            where
              place : (ring ≡ s.ring) × (Put ≡ s.side)
              place = on_true s.ring ring s.side Put on

              span : Span
              span = record { ring = ring; side = Put; start = s.start; count = s.count }

              busy' : (slice_index_or (parties_of actors) i a.party).span ≡ Some span
              busy' = ap (λ (v : Party Item). v.span) here ∙ (busy
                  ∙ ap (λ (v : Span). Some v) (λ j. record { ring = sym place.0 j; side = sym place.1 j; start = s.start; count = s.count }))

              sound : SoundRing plan.geometry (side_of (parties_of actors) ring Put) (side_of (parties_of actors) ring Take)
              sound = k.sound.rings ring plan there

              first : earlier_open ring Put s.start (parties_of actors) ≡ not ((side_of (parties_of actors) ring Put).len == s.start)
              first = earlier_is plans (parties_of actors) i a.party span plan k.ruled sound.published sound.puts_unsettled in_parties busy' there

  -- the answer to a settle of a take is the reply
  pub take_answer_is : (ring tail count : ℕ) (plan : RingPlan) (queued : List Item) → slice_get plans ring ≡ Some plan
      → tail ≡ (side_of (parties_of actors) ring Take).len → queued ≡ queue (parties_of actors) ring
      → take_answer plan ring tail queued count m.span ≡ take_reply plan ring (parties_of actors) count a.party.span
  take_answer_is ring tail count plan queued there e q = ap (take_answer plan ring tail queued count) h.span ∙ by_span a.party.span refl
    where
      parties : List (Party Item)
      parties = parties_of actors

      answer : Bool → Bool → ℕ → List Item → Span → Reply
      answer on earlier tail items s =
          if not on then NoSpan else if is_bad_settle plan.take count s.count then BadCount else if earlier then NotYet tail else Done count items

      by_span : (o : Option Span) → a.party.span ≡ o → take_answer plan ring tail queued count o ≡ take_reply plan ring parties count o
      by_span None busy = refl
      by_span (Some s) busy = by_on (is_on s.ring s.side ring Take) refl
        where
          theirs : List Item
          theirs = take count (drop s.start (listed (side_of parties ring Put)))

          by_on : (t : Bool) → is_on s.ring s.side ring Take ≡ t
              → take_answer plan ring tail queued count (Some s) ≡ take_reply plan ring parties count (Some s)
          by_on false off =
              ap (λ v. answer v (not (tail == s.start)) tail (take count queued) s) off
              ∙ sym (ap (λ v. answer v (earlier_open ring Take s.start parties) (side_of parties ring Take).len theirs s) off)
          by_on true on = by_first (earlier_open ring Take s.start parties) refl
            where
              place : (ring ≡ s.ring) × (Take ≡ s.side)
              place = on_true s.ring ring s.side Take on

              span : Span
              span = record { ring = ring; side = Take; start = s.start; count = s.count }

              busy' : (slice_index_or parties i a.party).span ≡ Some span
              busy' = ap (λ (v : Party Item). v.span) here ∙ (busy
                  ∙ ap (λ (v : Span). Some v) (λ j. record { ring = sym place.0 j; side = sym place.1 j; start = s.start; count = s.count }))

              sound : SoundRing plan.geometry (side_of parties ring Put) (side_of parties ring Take)
              sound = k.sound.rings ring plan there

              first : earlier_open ring Take s.start parties ≡ not ((side_of parties ring Take).len == s.start)
              first = earlier_is plans parties i a.party span plan k.ruled sound.dequeued sound.takes_unsettled in_parties busy' there

              mine : not (tail == s.start) ≡ earlier_open ring Take s.start parties
              mine = ap (λ v. not (v == s.start)) e ∙ sym first

              by_first : (t : Bool) → earlier_open ring Take s.start parties ≡ t
                  → take_answer plan ring tail queued count (Some s) ≡ take_reply plan ring parties count (Some s)
              by_first true late =
                  ap (λ v. answer (is_on s.ring s.side ring Take) v tail (take count queued) s) (mine ∙ late)
                  ∙ (ap (λ v. answer (is_on s.ring s.side ring Take) true v (take count queued) s) e
                  ∙ sym (ap (λ v. answer (is_on s.ring s.side ring Take) v (side_of parties ring Take).len theirs s) late))
              by_first false now =
                  let starts : s.start ≡ (side_of parties ring Take).len =
                  first_in_line plans parties i a.party span plan k.ruled sound.dequeued sound.takes_unsettled in_parties busy' there now in
                  ap (λ v. answer (is_on s.ring s.side ring Take) v tail (take count queued) s) (mine ∙ now)
                  ∙ (ap (λ v. answer (is_on s.ring s.side ring Take) false (side_of parties ring Take).len (take count v) s)
                  (q ∙ ap (λ v. drop v (listed (side_of parties ring Put))) (sym starts))
                  ∙ sym (ap (λ v. answer (is_on s.ring s.side ring Take) v (side_of parties ring Take).len theirs s) now))

-- the own words after the first span of a side is settled
words_settled_agree : (mode : Mode) (before after : RingSide Item) (span : Span) (n : ℕ) (w : Words) → OwnSettled before after span n → span.start ≡ before.len
    → (mode ≡ Multi → n ≡ span.count) → (mode ≡ Hts → span.count ≡ before.open_count)
    → WordsAgree mode before w → WordsAgree mode after (words_moved_to mode w (span.start + n))
words_settled_agree Multi before after span n w o first whole alone h = record {
  tail = omega (arith, o.len);
  multi = λ e. h.multi e ∙ sym (o.whole (whole refl));
  hts = λ e. absurd (let u : Multi ≡ Hts = e in cc);
}
words_settled_agree Hts before after span n w o first whole alone h = record {
  tail = omega (arith, o.len);
  multi = λ e. absurd (let u : Hts ≡ Multi = e in cc);
  hts = λ e. omega (arith, o.len, o.open_count, alone refl);
}

abbrev n_if : Bool → ℕ → ℕ
n_if t n = if t then n else 0

-- the buffers that are left
pub left_after_put : (a : Actor) (span : Span) (items : List Item) (b : ℕ) → span.side ≡ Put
    → holds tags b (with_settled a.party span items) ≡ holds tags b a.party - occurrences_in tags b items
unfolding holds moved
left_after_put a span items b put =
    let e1 = sum_by-cons (settled_times tags Put b) done a.party.settled in
    let e2 = sum_by-cons (settled_times tags Take b) done a.party.settled in
    let v1 : settled_times tags Put b done ≡ occurrences_in tags b items = ap (λ (v : Side). n_if (same_side v Put) (occurrences_in tags b items)) put in
    let v2 : settled_times tags Take b done ≡ 0 = ap (λ (v : Side). n_if (same_side v Take) (occurrences_in tags b items)) put in
    omega arith
  where
    done : Settled Item
    done = record { ring = span.ring; side = span.side; start = span.start; items = items }

pub left_after_take : (a : Actor) (span : Span) (items : List Item) (b : ℕ) → span.side ≡ Take
    → moved tags Put b a.party ≤ occurrences b a.party.given + moved tags Take b a.party
    → holds tags b (with_settled a.party span items) ≡ holds tags b a.party + occurrences_in tags b items
unfolding holds moved
left_after_take a span items b took had =
    let e1 = sum_by-cons (settled_times tags Put b) done a.party.settled in
    let e2 = sum_by-cons (settled_times tags Take b) done a.party.settled in
    let v1 : settled_times tags Put b done ≡ 0 = ap (λ (v : Side). n_if (same_side v Put) (occurrences_in tags b items)) took in
    let v2 : settled_times tags Take b done ≡ occurrences_in tags b items = ap (λ (v : Side). n_if (same_side v Take) (occurrences_in tags b items)) took in
    omega arith
  where
    done : Settled Item
    done = record { ring = span.ring; side = span.side; start = span.start; items = items }

-- the rings after the first span of a side is settled: the own ring, and any other
pub other_ring_settled : (plan : RingPlan) (parties : List (Party Item)) (i : ℕ) (d : Party Item) (span : Span) (items : List Item) (r : ℕ) (x : Ring)
    → i < length parties → (slice_index_or parties i d).span ≡ Some span → r ≢ span.ring
    → RingAgrees plan parties r x → RingAgrees plan (settled_by parties i d span items) r x
other_ring_settled plan parties i d span items r x lt busy apart h =
    record {
      put = subst (λ (v : RingSide Item). WordsAgree plan.put v x.put) (sym put) h.put;
      take = subst (λ (v : RingSide Item). WordsAgree plan.take v x.take) (sym taking) h.take;
      queue = h.queue ∙ sym (ap (λ (v : RingSide Item). drop v.len (listed (side_of (settled_by parties i d span items) r Put))) taking
          ∙ ap (λ (v : RingSide Item). drop (side_of parties r Take).len (listed v)) put);
      capacity = h.capacity;
    }
  where
    put : side_of (settled_by parties i d span items) r Put ≡ side_of parties r Put
    put = settled_other (side_of parties r Put) (side_of (settled_by parties i d span items) r Put) r Put span items
        (settles_side_of parties i d span record { ring = span.ring; side = span.side; start = span.start; items = items } r Put lt busy)
        (off_ring span.ring r span.side Put apart)

    taking : side_of (settled_by parties i d span items) r Take ≡ side_of parties r Take
    taking = settled_other (side_of parties r Take) (side_of (settled_by parties i d span items) r Take) r Take span items
        (settles_side_of parties i d span record { ring = span.ring; side = span.side; start = span.start; items = items } r Take lt busy)
        (off_ring span.ring r span.side Take apart)

other_side_of : (parties : List (Party Item)) (i : ℕ) (d : Party Item) (span : Span) (items : List Item) (side : Side) → i < length parties
    → (slice_index_or parties i d).span ≡ Some span → is_on span.ring span.side span.ring side ≡ false
    → side_of (settled_by parties i d span items) span.ring side ≡ side_of parties span.ring side
other_side_of parties i d span items side lt busy off =
    settled_other (side_of parties span.ring side) (side_of (settled_by parties i d span items) span.ring side) span.ring side span items
    (settles_side_of parties i d span record { ring = span.ring; side = span.side; start = span.start; items = items } span.ring side lt busy) off

pub own_ring_put : (plan : RingPlan) (parties : List (Party Item)) (i : ℕ) (d : Party Item) (ring start count : ℕ) (items : List Item) (x y : Ring)
    → i < length parties → (slice_index_or parties i d).span ≡ Some record { ring = ring; side = Put; start = start; count = count }
    → SoundRing plan.geometry (side_of parties ring Put) (side_of parties ring Take) → start ≡ (side_of parties ring Put).len
    → (plan.put ≡ Multi → length items ≡ count) → (plan.put ≡ Hts → count ≡ (side_of parties ring Put).open_count)
    → RingAgrees plan parties ring x → y.put ≡ words_moved_to plan.put x.put (start + length items) → y.take ≡ x.take → y.queue.items ≡ x.queue.items ++ items
    → y.queue.capacity ≡ x.queue.capacity
    → RingAgrees plan (settled_by parties i d record { ring = ring; side = Put; start = start; count = count } items) ring y
own_ring_put plan parties i d ring start count items x y lt busy sound first whole alone h put taking queued capacity =
    let span : Span = record { ring = ring; side = Put; start = start; count = count } in
    record {
      put = subst (λ (v : Words). WordsAgree plan.put (side_of (settled_by parties i d span items) ring Put) v) (sym put)
          (words_settled_agree plan.put (side_of parties ring Put) (side_of (settled_by parties i d span items) ring Put) span (length items) x.put
          (own_settled parties i d span items lt busy) first whole alone h.put);
      take = subst (λ (v : Words). WordsAgree plan.take (side_of (settled_by parties i d span items) ring Take) v) (sym taking)
          (subst (λ (v : RingSide Item). WordsAgree plan.take v x.take) (sym (other_side_of parties i d span items Take lt busy (off_take ring ring))) h.take);
      queue = queued ∙ (ap (λ v. v ++ items) h.queue ∙ sym (put_queue plan.geometry parties i d ring start count items sound lt busy first));
      capacity = capacity ∙ h.capacity;
    }

pub own_ring_take : (plan : RingPlan) (parties : List (Party Item)) (i : ℕ) (d : Party Item) (ring start count : ℕ) (items : List Item) (x y : Ring)
    → i < length parties → (slice_index_or parties i d).span ≡ Some record { ring = ring; side = Take; start = start; count = count }
    → SoundRing plan.geometry (side_of parties ring Put) (side_of parties ring Take) → start ≡ (side_of parties ring Take).len
    → (plan.take ≡ Multi → length items ≡ count) → (plan.take ≡ Hts → count ≡ (side_of parties ring Take).open_count)
    → RingAgrees plan parties ring x → y.take ≡ words_moved_to plan.take x.take (start + length items) → y.put ≡ x.put
    → y.queue.items ≡ drop (length items) x.queue.items → y.queue.capacity ≡ x.queue.capacity
    → RingAgrees plan (settled_by parties i d record { ring = ring; side = Take; start = start; count = count } items) ring y
own_ring_take plan parties i d ring start count items x y lt busy sound first whole alone h taking put queued capacity =
    let span : Span = record { ring = ring; side = Take; start = start; count = count } in
    record {
      put = subst (λ (v : Words). WordsAgree plan.put (side_of (settled_by parties i d span items) ring Put) v) (sym put)
          (subst (λ (v : RingSide Item). WordsAgree plan.put v x.put) (sym (other_side_of parties i d span items Put lt busy (off_put ring ring))) h.put);
      take = subst (λ (v : Words). WordsAgree plan.take (side_of (settled_by parties i d span items) ring Take) v) (sym taking)
          (words_settled_agree plan.take (side_of parties ring Take) (side_of (settled_by parties i d span items) ring Take) span (length items) x.take
          (own_settled parties i d span items lt busy) first whole alone h.take);
      queue = queued ∙ (ap (drop (length items)) h.queue ∙ sym (take_queue plan.geometry parties i d ring start count items sound lt busy first));
      capacity = capacity ∙ h.capacity;
    }

-- a member whose span was settled
member_settled : (a : Actor) (m n : Member) (span : Span) (items : List Item) → MemberAgrees a m → SpanSettled m n
    → MemberAgrees record { party = with_settled a.party span items; observed = a.observed; cached = a.cached } n
member_settled a m n span items h s = record { span = s.span; observed = s.observed ∙ h.observed }

moved_tail : (mode : Mode) (w : Words) (end : ℕ) → (words_moved_to mode w end).tail ≡ end
moved_tail Multi w end = refl
moved_tail Hts w end = refl

-- a buffer is queued once on a ring, or not
queued_once : (plans : List RingPlan) (pool : ℕ) (parties : List (Party Item)) (ring : ℕ) (plan : RingPlan) (b : ℕ) → Sound tags plans pool parties
    → slice_get plans ring ≡ Some plan → occurrences_in tags b (queue parties ring) ≤ 1
unfolding place_count
queued_once plans pool parties ring plan b sound hp =
    let part = range_part (in_ring tags b parties) 0 (length plans) ring (omega arith) (omega (arith, slice_get_within plans ring plan hp)) in
    elim (below_or_not b pool) [
      | inl lt ↦ omega (arith, part, sound.buffers.one_place b lt)
      | inr le ↦ omega (arith, part, sound.buffers.no_place b le)
    ]

-- each ring after one changed
each_after : (plans : List RingPlan) (rings : List Ring) (before after : List (Party Item)) (ring : ℕ) (plan : RingPlan) (y : Ring)
    → slice_get plans ring ≡ Some plan → RingAgrees plan after ring y
    → ((r : ℕ) (p : RingPlan) (z : Ring) → r ≢ ring → slice_get plans r ≡ Some p → slice_get rings r ≡ Some z → RingAgrees p after r z)
    → (r : ℕ) (p : RingPlan) (z : Ring) → slice_get plans r ≡ Some p → slice_get (slice_set rings ring y) r ≡ Some z → RingAgrees p after r z
each_after plans rings before after ring plan y there own others r p z hp hz = elim (same_or_not r ring) [
  | inl same ↦
      let ep : plan ≡ p = same_plan (sym there ∙ (ap (slice_get plans) (sym same) ∙ hp)) in
      let ez : y ≡ z = get_set rings ring y z (ap (slice_get (slice_set rings ring y)) (sym same) ∙ hz) in
      subst (λ (v : ℕ). RingAgrees p after v z) (sym same) (subst (λ (v : RingPlan). RingAgrees v after ring z) ep
      (subst (λ (v : Ring). RingAgrees plan after ring v) ez own))
  | inr apart ↦ others r p z apart hp (sym (get_set_other rings ring r y apart) ∙ hz)
]

module _ (plans : List RingPlan) (pool : ℕ) (rings : List Ring) (members : List Member) (actors : List Actor) (i : ℕ) (a : Actor) (m n : Member) (ring : ℕ)
    (plan : RingPlan) (x y : Ring)
    (agree : SpansAgree plans rings members actors) (lt : i < length actors) (at : (d : Actor) → slice_index_or actors i d ≡ a)
    (k : Invariant plans pool actors) (h : MemberAgrees a m)
    (hp : slice_get plans ring ≡ Some plan) (hr : slice_get rings ring ≡ Some x)
    (places : List Place) (e : EntriesAgree pool rings places members actors) (ha : slice_get actors i ≡ Some a) (hm : slice_get members i ≡ Some m)
    (small : length places < 2 ^ 64) where
  abbrev parties_now : List (Party Item)
  parties_now = parties_of actors

  -- all rings and actors, and all entries
  abbrev BothAgree : List Place → Actor → Type 0
  BothAgree new_places b =
      SpansAgree plans (slice_set rings ring y) (slice_set members i n) (slice_set actors i b)
      × EntriesAgree pool (slice_set rings ring y) new_places (slice_set members i n) (slice_set actors i b)

  hand : HandAgrees pool places i a m
  hand = e.each_hand i a m ha hm

  stands : slice_index_or parties_now i a.party ≡ a.party
  stands = parties_at actors i a lt ∙ ap (λ (v : Actor). v.party) (at a)

  within : i < length parties_now
  within = omega (arith, parties_length actors)

  -- nothing changed
  unchanged : (new_places : List Place) → NothingSettled m n x y places new_places → BothAgree new_places a
  unchanged new_places nothing = (spans nothing.0 nothing.1, entries nothing)
    where
      entries : NothingSettled m n x y places new_places
          → EntriesAgree pool (slice_set rings ring y) new_places (slice_set members i n) (slice_set actors i a)
      entries same =
          subst (λ (v : List Place). EntriesAgree pool (slice_set rings ring y) v (slice_set members i n) (slice_set actors i a)) (sym same.2)
          (subst (λ (v : List Ring). EntriesAgree pool v places (slice_set members i n) (slice_set actors i a))
          (sym (ap (slice_set rings ring) same.1 ∙ set_same rings ring x hr))
          (subst (λ (v : List Member). EntriesAgree pool rings places v (slice_set actors i a))
          (sym (ap (slice_set members i) same.0 ∙ set_same members i m hm))
          (subst (λ (v : List Actor). EntriesAgree pool rings places members v) (sym (set_same actors i a ha)) e)))

      spans : n ≡ m → y ≡ x → SpansAgree plans (slice_set rings ring y) (slice_set members i n) (slice_set actors i a)
      spans same_m same_x =
          lift plans rings (slice_set rings ring y) members actors i a n agree lt (subst (λ (v : Member). MemberAgrees a v) (sym same_m) h)
          (length-set rings ring y ∙ agree.ring_count)
          (subst (λ (v : List (Party Item)). (r : ℕ) (p : RingPlan) (z : Ring) → slice_get plans r ≡ Some p → slice_get (slice_set rings ring y) r ≡ Some z
          → RingAgrees p v r z) (sym (parties_unchanged actors i a a lt (sym (ap (λ (v : Actor). v.party) (at a)))))
          (each_after plans rings parties_now parties_now ring plan y hp
          (subst (λ (v : Ring). RingAgrees plan parties_now ring v) (sym same_x) (agree.each_ring ring plan x hp hr))
          (λ r p z apart hp' hz. agree.each_ring r p z hp' hz)))

  pub put_agrees : (items : List Item) (reply : Reply) (new_places : List Place) → plan.geometry.last < 2 ^ 63 → reply ≡ put_reply plan ring parties_now a items a.party.span
      → PutResult plan ring m n x y places new_places items reply
      → BothAgree new_places (after_settle_put a items reply)
  put_agrees items (Done c its) new_places low answer r =
      subst (λ (v : Option Span). BothAgree new_places record { party = settled_span a.party v items; observed = a.observed; cached = a.cached })
      (sym is_busy) (
        lift plans rings (slice_set rings ring y) members actors i b n agree lt
            (member_settled a m n span items h did.member) (length-set rings ring y ∙ agree.ring_count)
            (subst (λ (v : List (Party Item)). (r : ℕ) (p : RingPlan) (z : Ring) → slice_get plans r ≡ Some p → slice_get (slice_set rings ring y) r ≡ Some z
            → RingAgrees p v r z) (sym is_new)
            (each_after plans rings parties_now new ring plan y hp
            (own_ring_put plan parties_now i a.party ring s.start s.count items x y within busy sound first fits.1
            (λ hts. ((k.ruled.spans i a.party span within busy).alone plan hp hts).1) agrees put did.taking (did.queue room) did.capacity)
            (λ v p z apart hp' hz. other_ring_settled p parties_now i a.party span items v z within busy apart (agree.each_ring v p z hp' hz)))),
        entries,
      )
    where
      did : IsPublished plan ring m n x y places new_places items
      did = r.done refl

      agrees : RingAgrees plan parties_now ring x
      agrees = agree.each_ring ring plan x hp hr

      tells : (s : Span) × (a.party.span ≡ Some s) × (is_on s.ring s.side ring Put ≡ true) × (is_bad_settle plan.put (length items) s.count ≡ false)
          × (may_put plan.free a items ≡ true) × (earlier_open ring Put s.start parties_now ≡ false)
      tells = put_done_tells plan ring parties_now a items a.party.span c its (sym answer)

      s : Span
      s = tells.0

      place : (ring ≡ s.ring) × (Put ≡ s.side)
      place = on_true s.ring ring s.side Put tells.2

      span : Span
      span = record { ring = ring; side = Put; start = s.start; count = s.count }

      is_busy : a.party.span ≡ Some span
      is_busy = tells.1 ∙ ap (λ (v : Span). Some v) (λ j. record { ring = sym place.0 j; side = sym place.1 j; start = s.start; count = s.count })

      busy : (slice_index_or parties_now i a.party).span ≡ Some span
      busy = ap (λ (v : Party Item). v.span) stands ∙ is_busy

      sound : SoundRing plan.geometry (side_of parties_now ring Put) (side_of parties_now ring Take)
      sound = k.sound.rings ring plan hp

      first : s.start ≡ (side_of parties_now ring Put).len
      first = first_in_line plans parties_now i a.party span plan k.ruled sound.published sound.puts_unsettled within busy hp tells.5

      fits : (length items ≤ s.count) × (plan.put ≡ Multi → length items ≡ s.count)
      fits = settle_fits plan.put (length items) s.count tells.3

      own : s.start + s.count ≤ (side_of parties_now ring Put).reach
      own = (own_span parties_now i a.party span within busy).1

      ends : end_at m.span (length items) ≡ s.start + length items
      ends = ap (λ (v : Option Span). end_at v (length items)) (h.span ∙ is_busy)

      put : y.put ≡ words_moved_to plan.put x.put (s.start + length items)
      put = did.put (omega (arith, ends, fits.0, own, low, (k.ruled.sides ring Put plan hp).last)) ∙ ap (words_moved_to plan.put x.put) ends

      -- the row of slots has room
      room : length x.queue.items + length items ≤ x.queue.capacity
      room =
          omega (
            arith,
            agrees.capacity,
            ap length agrees.queue,
            length-drop (side_of parties_now ring Take).len (listed (side_of parties_now ring Put)),
            length-listed (side_of parties_now ring Put) sound.published,
            takes_le_puts plan.geometry (side_of parties_now ring Put) (side_of parties_now ring Take) sound,
            k.ruled.room ring plan hp,
            own,
            first,
            fits.0,
          )

      b : Actor
      b = record { party = with_settled a.party span items; observed = a.observed; cached = a.cached }

      new : List (Party Item)
      new = settled_by parties_now i a.party span items

      is_new : parties_of (slice_set actors i b) ≡ new
      is_new = parties_set actors i b ∙ ap (λ (v : Party Item). slice_set parties_now i (with_settled v span items)) (sym stands)

      numbers : List ℕ
      numbers = flat_map tags items

      mine : (list_all (is_held a) numbers ≡ true) × (list_all (λ v. occurrences v numbers == 1) numbers ≡ true)
      mine =
          let parts =
          and_true (list_all (is_held a) numbers && list_all (λ v. occurrences v numbers == 1) numbers)
          (not plan.free || list_all (λ v. length (tags v) == 1) items) tells.4 in
          and_true (list_all (is_held a) numbers) (list_all (λ v. occurrences v numbers == 1) numbers) parts.0

      once : (v : ℕ) → occurrences v numbers ≤ 1
      once v = elim (below_or_not 0 (occurrences v numbers)) [
        | inr none ↦ omega (arith, none)
        | inl some ↦ is_one (occurrences v numbers) (passes (λ w. occurrences w numbers == 1) numbers v mine.1 some)
      ]
        where
          is_one : (t : ℕ) → (t == 1) ≡ true → t ≤ 1
          is_one t one = let is : t ≡ 1 = grind (arith, nat_tests) in omega (arith, is)

      starts : x.take.tail + length x.queue.items ≡ s.start
      starts =
          omega (
            arith,
            agrees.take.tail,
            ap length agrees.queue,
            length-drop (side_of parties_now ring Take).len (listed (side_of parties_now ring Put)),
            length-listed (side_of parties_now ring Put) sound.published,
            takes_le_puts plan.geometry (side_of parties_now ring Put) (side_of parties_now ring Take) sound,
            first,
          )

      is_new_places : new_places ≡ with_items_at places ring s.start items
      is_new_places =
          did.places (omega (arith, ends, fits.0, own, low, (k.ruled.sides ring Put plan hp).last))
          ∙ ap (λ v. with_items_at places ring v items) (ap start_at (h.span ∙ is_busy))

      entries : EntriesAgree pool (slice_set rings ring y) new_places (slice_set members i n) (slice_set actors i b)
      entries =
          subst (λ (v : List Place). EntriesAgree pool (slice_set rings ring y) v (slice_set members i n) (slice_set actors i b)) (sym is_new_places)
          (entries_put pool rings places members actors i a b m n ring x y e ha hm hr small did.member.number refl s.start items
          (λ v some. held_at_is pool places i a m hand v ∙ passes (is_held a) numbers v mine.0 some) once starts did.taking (did.queue room) did.counted
          (λ v. left_after_put a span items v refl ∙ ap (λ w. holds tags v a.party - w) (times_in_is tags v items)))
  put_agrees items _ new_places low answer r = unchanged new_places (r.refused refl)

  pub take_agrees : (count : ℕ) (reply : Reply) (new_places : List Place) → plan.geometry.last < 2 ^ 63 → reply ≡ take_reply plan ring parties_now count a.party.span
      → TakeResult plan m n x y places new_places count reply
      → BothAgree new_places (after_settle_take a reply)
  take_agrees count (Done c items) new_places low answer r =
      subst (λ (v : Option Span). BothAgree new_places record { party = settled_span a.party v items; observed = a.observed; cached = a.cached })
      (sym is_busy) (
        lift plans rings (slice_set rings ring y) members actors i b n agree lt
            (member_settled a m n span items h did.member)
            (length-set rings ring y ∙ agree.ring_count)
            (subst (λ (v : List (Party Item)). (r : ℕ) (p : RingPlan) (z : Ring) → slice_get plans r ≡ Some p → slice_get (slice_set rings ring y) r ≡ Some z
            → RingAgrees p v r z) (sym is_new)
            (each_after plans rings parties_now new ring plan y hp
            (own_ring_take plan parties_now i a.party ring s.start s.count items x y within busy sound first (λ multi. many ∙ fits.1 multi)
            (λ hts. ((k.ruled.spans i a.party span within busy).alone plan hp hts).1) agrees taking did.put
            (did.queue ∙ ap (λ v. drop v x.queue.items) (sym many)) did.capacity)
            (λ v p z apart hp' hz. other_ring_settled p parties_now i a.party span items v z within busy apart (agree.each_ring v p z hp' hz)))),
        entries,
      )
    where
      did : IsDequeued plan m n x y places new_places count
      did = r.done refl

      tells : (s : Span) × (a.party.span ≡ Some s) × (is_on s.ring s.side ring Take ≡ true) × (is_bad_settle plan.take count s.count ≡ false)
          × (earlier_open ring Take s.start parties_now ≡ false) × (take count (drop s.start (listed (side_of parties_now ring Put))) ≡ items)
      tells = take_done_tells plan ring parties_now count a.party.span c items (sym answer)

      s : Span
      s = tells.0

      place : (ring ≡ s.ring) × (Take ≡ s.side)
      place = on_true s.ring ring s.side Take tells.2

      span : Span
      span = record { ring = ring; side = Take; start = s.start; count = s.count }

      is_busy : a.party.span ≡ Some span
      is_busy = tells.1 ∙ ap (λ (v : Span). Some v) (λ j. record { ring = sym place.0 j; side = sym place.1 j; start = s.start; count = s.count })

      busy : (slice_index_or parties_now i a.party).span ≡ Some span
      busy = ap (λ (v : Party Item). v.span) stands ∙ is_busy

      sound : SoundRing plan.geometry (side_of parties_now ring Put) (side_of parties_now ring Take)
      sound = k.sound.rings ring plan hp

      agrees : RingAgrees plan parties_now ring x
      agrees = agree.each_ring ring plan x hp hr

      first : s.start ≡ (side_of parties_now ring Take).len
      first = first_in_line plans parties_now i a.party span plan k.ruled sound.dequeued sound.takes_unsettled within busy hp tells.4

      fits : (count ≤ s.count) × (plan.take ≡ Multi → count ≡ s.count)
      fits = settle_fits plan.take count s.count tells.3

      positive : 0 < s.count
      positive = (k.ruled.spans i a.party span within busy).positive

      own : (s.count ≤ (side_of parties_now ring Take).open_count) × (s.start + s.count ≤ (side_of parties_now ring Take).reach)
          × ((p : ℕ) → open_count span p ≤ (side_of parties_now ring Take).openers p)
      own = own_span parties_now i a.party span within busy

      last : 0 < (side_of parties_now ring Take).openers (s.start + (s.count - 1))
      last = elim (held_cases span (s.start + (s.count - 1))) [
        | inl inside ↦ omega (arith, inside.2, own.2 (s.start + (s.count - 1)))
        | inr out ↦ elim out.0 [ inl u ↦ absurd (omega arith) | inr u ↦ absurd (omega (arith, positive)) ]
      ]

      there : s.start + s.count ≤ (side_of parties_now ring Put).len
      there = omega (arith, (sound.takes_are_queued (s.start + (s.count - 1)) last).1, positive)

      is_items : items ≡ take count x.queue.items
      is_items = sym tells.5 ∙ ap (take count) (ap (λ v. drop v (listed (side_of parties_now ring Put))) first ∙ sym agrees.queue)

      many : length items ≡ count
      many = ap length (sym tells.5) ∙ (length-take count (drop s.start (listed (side_of parties_now ring Put)))
          ∙ (let e1 = length-drop s.start (listed (side_of parties_now ring Put)) in let e2 =
          length-listed (side_of parties_now ring Put) sound.published in omega (arith, there, fits.0)))

      ends : end_at m.span count ≡ s.start + count
      ends = ap (λ (v : Option Span). end_at v count) (h.span ∙ is_busy)

      taking : y.take ≡ words_moved_to plan.take x.take (s.start + length items)
      taking = did.taking (omega (arith, ends, fits.0, own.1, low, (k.ruled.sides ring Take plan hp).last))
          ∙ ap (words_moved_to plan.take x.take) (ends ∙ ap (λ v. s.start + v) (sym many))

      b : Actor
      b = record { party = with_settled a.party span items; observed = a.observed; cached = a.cached }

      new : List (Party Item)
      new = settled_by parties_now i a.party span items

      is_new : parties_of (slice_set actors i b) ≡ new
      is_new = parties_set actors i b ∙ ap (λ (v : Party Item). slice_set parties_now i (with_settled v span items)) (sym stands)

      -- no buffer is queued twice
      once : (v : ℕ) → occurrences v (flat_map tags (take count x.queue.items)) ≤ 1
      once v =
          omega (
            arith,
            times_in_is tags v (take count x.queue.items),
            sum_by-take-le (λ w. occurrences v (tags w)) x.queue.items count,
            ap (occurrences_in tags v) agrees.queue,
            queued_once plans pool parties_now ring plan v k.sound hp,
          )

      at_tail : y.take.tail ≡ x.take.tail + length (take count x.queue.items)
      at_tail =
          ap (λ (w : Words). w.tail) taking
          ∙ (moved_tail plan.take x.take (s.start + length items)
          ∙ (let e1 = agrees.take.tail in let e2 = ap length is_items in omega (arith, first)))

      is_new_places : new_places ≡ with_each places (flat_map tags (take count x.queue.items)) (Held i)
      is_new_places = did.places ∙ ap (λ v. with_each places (flat_map tags (take count x.queue.items)) (Held v)) hand.number

      had : (v : ℕ) → moved tags Put v a.party ≤ occurrences v a.party.given + moved tags Take v a.party
      had v =
          subst (λ (w : Party Item). moved tags Put v w ≤ occurrences v w.given + moved tags Take v w) stands
          (k.sound.buffers.never_below_none i a.party v within)

      entries : EntriesAgree pool (slice_set rings ring y) new_places (slice_set members i n) (slice_set actors i b)
      entries =
          subst (λ (v : List Place). EntriesAgree pool (slice_set rings ring y) v (slice_set members i n) (slice_set actors i b)) (sym is_new_places)
          (entries_take pool rings places members actors i a b m n ring x y e ha hm hr small did.member.number refl count once at_tail did.queue did.counted
          (λ v. left_after_take a span items v refl (had v)
          ∙ ap (λ w. holds tags v a.party + w) (times_in_is tags v items ∙ ap (λ w. occurrences v (flat_map tags w)) is_items)))
  take_agrees count _ new_places low answer r = unchanged new_places (r.refused refl)
