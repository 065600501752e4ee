-- Worked cases of what C passes and gets: codes, plans of rings, and what puts and takes are none
use Rattle.std.proofs.Common.{◌≡◌, ◌≢◌, ◌<◌, ◌++◌, ℕ, suc, List, [], ◌∷◌, length, refl, sym, ◌∙◌, inl, inr, Option, Some, None, Ok, Err, true, false, arith, subst, ap}
use Rattle.std.specs.Prelude.{IsSome, pos, neg_ℤ, slice_get}
use Rattle.geom.specs.declared.geometry.GeomFault.TheVariants.{NotPower, TooSmall, TooLarge}
use Rattle.geom.specs.declared.plan.How.{How}
use Rattle.geom.specs.declared.plan.How.TheVariants.{Bulk, Burst}
use Rattle.geom.specs.declared.plan.Mode.TheVariants.{Multi, Hts}
use Rattle.geom.specs.declared.plan.RingPlan.{RingPlan}
use Rattle.geom.specs.declared.plan.Side.{Side}
use Rattle.geom.specs.declared.plan.Side.TheVariants.{Put, Take}
use Rattle.geom.specs.Sizes.{power_above}
use Rattle.ringcore_laws.specs.Party.{with_open, with_settled}
use Rattle.ringcore_laws.specs.declared.protocol.Span.{Span}
use Rattle.fabric_laws.specs.declared.view.View.{View}
use Rattle.fabric.specs.Hands.{rings_of}
use Rattle.fabric.specs.declared.hand.StartFault.TheVariants.{Busy, Contended, NoRoom, Worn, BadCount}
use Rattle.capi.specs.Calls.{Puts, PutsOne, Takes, TakesOne, how_of}
use Rattle.capi.specs.Codes.{code_of}
use Rattle.capi.specs.Finishes.{DoesNotFit}
use Rattle.capi.specs.Members.{Rings}
use Rattle.capi.specs.Plans.{extent_asked, mode_asked, plan_asked}
use Rattle.capi.specs.Leftovers.{RefusesClose}
use Rattle.capi.specs.RingCalls.{SameButLoads, member_view}
use Rattle.capi.specs.Spans.{HasReserved, HasSettled, IsAsked, IsEarly, call_limit, limit_in, limit_of, room_of, start_fault}
use Rattle.capi.specs.declared.rings.fault.Fault.TheVariants as fault
use Rattle.capi.specs.declared.rings.member.Member.{Member}
use Rattle.capi.specs.declared.rings.opening.Asked.{Asked}
use Rattle.capi.specs.declared.rings.word64.Word64.{Word64}

-- a count is itself, a fault is below 0: HK_E_NOROOM, HK_E_PENDING, HK_E_DOUBLE
no_words : code_of (Ok 0) ≡ pos 0
no_words = refl

words : code_of (Ok 32) ≡ pos 32
words = refl

no_room : code_of (Err fault.NoRoom) ≡ neg_ℤ (pos 1)
no_room = refl

pending : code_of (Err fault.Pending) ≡ neg_ℤ (pos 3)
pending = refl

double : code_of (Err fault.Double) ≡ neg_ℤ (pos 26)
double = refl

-- by bulk all or none, by burst as many as possible
all_or_none : how_of true ≡ Bulk
all_or_none = refl

as_many : how_of false ≡ Burst
as_many = refl

-- both modes, and a number that is none
multi : mode_asked 0 ≡ Some Multi
multi = refl

head_tail_sync : mode_asked 1 ≡ Some Hts
head_tail_sync = refl

no_mode : mode_asked 2 ≡ None
no_mode = refl

-- sizes: 8 slots of which one stays empty, for exactly 5 words, and what can't be
eight_slots : extent_asked 0 8 ≡ Ok record { size = 8; capacity = 7; last = 17592186044415; count_bits = 20 }
unfolding power_above
eight_slots = refl

five_words : extent_asked 1 5 ≡ Ok record { size = 8; capacity = 5; last = 17592186044415; count_bits = 20 }
unfolding power_above
five_words = refl

no_power : extent_asked 0 5 ≡ Err NotPower
unfolding power_above
no_power = refl

no_slots : extent_asked 0 0 ≡ Err TooSmall
no_slots = refl

no_capacity : extent_asked 1 0 ≡ Err TooSmall
no_capacity = refl

too_many : extent_asked 1 1048576 ≡ Err TooLarge
unfolding power_above
too_many = refl

neither : extent_asked 2 8 ≡ Err TooSmall
neither = refl

-- plans: each field has its own number, and no ring is a free one
abbrev ring : (size exact put take : ℕ) → Asked
ring size exact put take = record { size = size; exact = exact; put = put; take = take; last = 0; reserved = 0 }

abbrev ending : (put take last reserved : ℕ) → Asked
ending put take last reserved = record { size = 8; exact = 0; put = put; take = take; last = last; reserved = reserved }

many_to_one : plan_asked (ring 8 0 0 1)
    ≡ Some record {
      geometry = record { size = 8; capacity = 7; last = 4503599627370495; count_bits = 12 };
      put = Multi;
      take = Hts;
      free = false;
    }
unfolding power_above
many_to_one = refl

one_to_many : plan_asked (ring 5 1 1 0)
    ≡ Some record {
      geometry = record { size = 8; capacity = 5; last = 4503599627370495; count_bits = 12 };
      put = Hts;
      take = Multi;
      free = false;
    }
unfolding power_above
one_to_many = refl

-- positions: with two multi sides up to 2^63 - 1, or as far as was asked; not beyond what a word has room for
many_to_many : plan_asked (ring 8 0 0 0)
    ≡ Some record {
      geometry = record { size = 8; capacity = 7; last = 9223372036854775807; count_bits = 1 };
      put = Multi;
      take = Multi;
      free = false;
    }
unfolding power_above
many_to_many = refl

short : plan_asked (ending 1 1 99 0)
    ≡ Some record { geometry = record { size = 8; capacity = 7; last = 99; count_bits = 12 }; put = Hts; take = Hts; free = false }
unfolding power_above
short = refl

too_far : plan_asked (ending 1 1 4503599627370496 0) ≡ None
unfolding power_above
too_far = refl

not_yet : plan_asked (ending 0 0 0 1) ≡ None
unfolding power_above
not_yet = refl

bad_size : plan_asked (ring 5 0 0 0) ≡ None
unfolding power_above
bad_size = refl

bad_kind : plan_asked (ring 8 2 0 0) ≡ None
unfolding power_above
bad_kind = refl

bad_put : plan_asked (ring 8 0 2 0) ≡ None
unfolding power_above
bad_put = refl

bad_take : plan_asked (ring 8 0 0 2) ≡ None
unfolding power_above
bad_take = refl

-- each refusal of a start, and the room that it found
starts : (x : ℕ) → (start_fault (Busy x) ≡ fault.Again) × (start_fault (Contended x) ≡ fault.Again)
    × (start_fault (NoRoom x) ≡ fault.NoRoom) × (start_fault Worn ≡ fault.Worn) × (start_fault BadCount ≡ fault.Count)
starts x = (refl, refl, refl, refl, refl)

rooms : (x : ℕ) → (room_of (Busy x) ≡ 0) × (room_of (Contended x) ≡ 0) × (room_of (NoRoom x) ≡ x)
    × (room_of Worn ≡ 0) × (room_of BadCount ≡ 0)
rooms x = (refl, refl, refl, refl, refl)

-- bulk reserves all, burst as many or fewer
all : IsAsked Bulk 8 8
all = refl

not_fewer : IsAsked Bulk 8 7 → ⊥
not_fewer is = absurd (omega (arith, is))

fewer : IsAsked Burst 8 7
fewer = omega arith

not_more : IsAsked Burst 8 9 → ⊥
not_more is = absurd (omega (arith, is))

-- a multi side is finished with all its positions and maybe words behind them, an HTS side with any first part
multi_needs_all : DoesNotFit Multi 7 8
multi_needs_all = omega arith

multi_takes_more : DoesNotFit Multi 9 8 → ⊥
multi_takes_more is = absurd (omega (arith, is))

hts_takes_fewer : DoesNotFit Hts 7 8 → ⊥
hts_takes_fewer is = absurd (omega (arith, is))

hts_needs_no_more : DoesNotFit Hts 9 8
hts_needs_no_more = omega arith

-- how many words a call moves at most
multi_moves_what_a_ring_holds : (f : Rings) (plan : RingPlan) → slice_get (rings_of f) 3 ≡ Some plan → plan.put ≡ Multi → call_limit f 3 Put ≡ 1048575
multi_moves_what_a_ring_holds f plan at multi = ap (λ (o : Option RingPlan). limit_in o Put) at ∙ ap limit_of multi

hts_moves_what_its_word_counts : (f : Rings) (plan : RingPlan) → slice_get (rings_of f) 0 ≡ Some plan → plan.take ≡ Hts → call_limit f 0 Take ≡ 4095
hts_moves_what_its_word_counts f plan at hts = ap (λ (o : Option RingPlan). limit_in o Take) at ∙ ap limit_of hts

no_ring_moves_nothing : limit_in None Put ≡ 0
no_ring_moves_nothing = refl

-- reserved spans that are none: each breaks one field
module _ (f : Rings) (most : ℕ) (how : How) (n ring : ℕ) (side : Side) (v : View Word64) (left : ℕ) (shown : List Word64) (w : View Word64) where
  on_another_ring : (span : Span) → span.ring ≢ ring → HasReserved f most how n ring side v span left shown w → ⊥
  on_another_ring span other is = other is.at.0

  of_the_other_side : (span : Span) → span.side ≢ side → HasReserved f most how n ring side v span left shown w → ⊥
  of_the_other_side span other is = other is.at.1

  not_open : (span : Span) → w.party ≢ with_open v.party span → HasReserved f most how n ring side v span left shown w → ⊥
  not_open span other is = other is.party

  without_positions : (span : Span) → span.count ≡ 0 → HasReserved f most how n ring side v span left shown w → ⊥
  without_positions span none is = absurd (omega (arith, none, is.some))

  longer_than_asked : (span : Span) → n < span.count → HasReserved f most how n ring side v span left shown w → ⊥
  longer_than_asked span more is = absurd (omega (arith, more, is.few))

  too_many_for_a_call : (span : Span) → most < n → HasReserved f most how n ring side v span left shown w → ⊥
  too_many_for_a_call span more is = absurd (omega (arith, more, is.fits))

-- settles that are none, and refusals that are none
module _ (span : Span) (items : List Word64) (v w : View Word64) where
  moves_no_words : w.party ≢ with_settled v.party span items → HasSettled span items v w → ⊥
  moves_no_words other is = other is.party

  changes_the_plans : w.plans ≢ v.plans → HasSettled span items v w → ⊥
  changes_the_plans other is = other is.plans

  changes_the_pool : w.pool ≢ v.pool → HasSettled span items v w → ⊥
  changes_the_pool other is = other is.pool

  changes_the_parts : w.parts ≢ v.parts → HasSettled span items v w → ⊥
  changes_the_parts other is = other is.parts

module _ (f : Rings) (span : Span) (v w : View Word64) where
  found_no_earlier : w.lost ≡ None → IsEarly f span v w → ⊥
  found_no_earlier none is = absurd (let e : ◌≡◌ {A = Option ℕ} None (Some is.tail) = sym none ∙ is.lost in cc)

  found_its_own_start : w.lost ≡ Some span.start → IsEarly f span v w → ⊥
  found_its_own_start own is =
      let e : ◌≡◌ {A = Option ℕ} (Some span.start) (Some is.tail) = sym own ∙ is.lost in
      let same : span.start ≡ is.tail = cc in
      absurd (omega (arith, same, is.below))

-- puts and takes that are none
module _ (f : Rings) (how : How) (v w : View Word64) (a b c d : Word64) where
  -- by a refusal that isn't Pending the array is as it was
  writes_and_refuses : a ≢ c → Takes f how 0 v (a ∷ []) (c ∷ []) 0 w (Err fault.NoRoom) → ⊥
  writes_and_refuses other (inl is) = absurd (let e : fault.NoRoom ≡ fault.Pending = is.0 in cc)
  writes_and_refuses other (inr is) = other (let e : c ∷ [] ≡ a ∷ [] = is.0 in cc)

  -- the places behind the words that were taken are as they were
  writes_past_the_words : b ≢ d → Takes f how 0 v (a ∷ b ∷ []) (c ∷ d ∷ []) 0 w (Ok 1) → ⊥
  writes_past_the_words other is = past is.0 is.1 is.2
    where
      past : (shown : List Word64) → length shown ≡ 1 → c ∷ d ∷ [] ≡ shown ++ b ∷ [] → ⊥
      past [] one e = absurd (let z : 0 ≡ 1 = one in omega (arith, z))
      past (x ∷ []) one e = other (let z : c ∷ d ∷ [] ≡ x ∷ b ∷ [] = e in cc)
      past (x ∷ y ∷ more) one e = absurd (let z : suc (suc (length more)) ≡ 1 = one in omega (arith, z))

  -- a put by bulk that published fewer than the array has
  publishes_a_part : Puts f Bulk 0 v (a ∷ b ∷ []) 0 w (Ok 1) → ⊥
  publishes_a_part is = absurd (omega (arith, is.many, is.reserved.asked))

  -- a put of one word that published two, and a take of one that was refused and wrote
  one_put_of_two : PutsOne f 0 v a w (Ok 2) → ⊥
  one_put_of_two is = absurd (omega (arith, is.3.many, is.3.reserved.asked))

  one_take_writes_and_refuses : a ≢ c → TakesOne f 0 v (a ∷ []) (c ∷ []) w (Err fault.NoRoom) → ⊥
  one_take_writes_and_refuses other (u, left, once, inl is) = absurd (let e : fault.NoRoom ≡ fault.Pending = is.0 in cc)
  one_take_writes_and_refuses other (u, left, once, inr is) = other (let e : c ∷ [] ≡ a ∷ [] = is.0 in cc)

-- a close with a span open isn't refused as shared, and one without isn't refused as open
not_shared : (m : Member) (span : Span) → (member_view m).party.span ≡ Some span → RefusesClose m fault.Shared → ⊥
not_shared m span was (inl (is, _)) = cc
not_shared m span was (inr (_, idle)) = cc

without_a_span : (m : Member) → (member_view m).party.span ≡ None → RefusesClose m fault.Open → ⊥
without_a_span m idle (inl (_, some)) = let e : false ≡ true = subst IsSome idle some in cc
without_a_span m idle (inr (is, _)) = cc

-- a look after which the member has other rings or another span, shows other words, or says something else of its last call
looks_elsewhere : (m u : Member) → u.port.fabric ≢ m.port.fabric → SameButLoads m u → ⊥
looks_elsewhere m u other is = other is.fabric

looks_and_shows : (m u : Member) → u.shown.value ≢ m.shown.value → SameButLoads m u → ⊥
looks_and_shows m u other is = other is.shown

looks_and_opens : (m u : Member) → u.port.hand.span ≢ m.port.hand.span → SameButLoads m u → ⊥
looks_and_opens m u other is = other is.span

looks_and_opens_an_end : (m u : Member) → u.ends ≢ m.ends → SameButLoads m u → ⊥
looks_and_opens_an_end m u other is = other is.ends

looks_and_tells : (m u : Member) → u.left ≢ m.left → SameButLoads m u → ⊥
looks_and_tells m u other is = other is.left
