-- Worked cases of ends, and what is none
use Rattle.std.proofs.Common.{◌≡◌, ◌≢◌, ℕ, List, true, false, refl, sym, ◌∙◌, inl, inr, Ok, Err, arith}
use Rattle.geom.specs.declared.plan.Mode.TheVariants.{Hts, Multi}
use Rattle.geom.specs.declared.plan.Side.{Side}
use Rattle.geom.specs.declared.plan.Side.TheVariants.{Put, Take}
use Rattle.fabric.specs.Places.{place_mode}
use Rattle.fabric.specs.declared.hand.in_place.OpenSpan.TheVariants as open_span
use Rattle.fabric.specs.declared.hand.in_place.Reserved.{Reserved}
use Rattle.capi.specs.Codes.{Outcome}
use Rattle.capi.specs.EndCalls.{ChangesEnd, EndHolds, EndOpens, EndReleases, GivesUpPut, PutsIn, PutsNext, TakesIn, TakesNextWord, state_after}
use Rattle.capi.specs.Ends.{IsEndOf, end_on, with_end}
use Rattle.capi.specs.Finishes.{Settles}
use Rattle.capi.specs.Members.{Rings}
use Rattle.capi.specs.RingCalls.{SameMember}
use Rattle.capi.specs.declared.rings.end.End.{End}
use Rattle.capi.specs.declared.rings.end.Ends.{Ends}
use Rattle.capi.specs.declared.rings.end.EndState.TheVariants.{Closed, Open, Holds}
use Rattle.capi.specs.declared.rings.fault.Fault.{Fault}
use Rattle.capi.specs.declared.rings.fault.Fault.TheVariants as fault
use Rattle.capi.specs.declared.rings.member.Member.{Member}
use Rattle.capi.specs.declared.rings.word64.Word64.{Word64}

done_or_refused : (why : Fault) → ◌≡◌ {A = Outcome} (Ok 1) (Err why) → ⊥
done_or_refused why is = absurd (let e : ◌≡◌ {A = Outcome} (Ok 1) (Err why) = is in cc)

module _ (ring : ℕ) (word : Word64) (m u : Member) where
  -- an end that isn't open puts nothing
  closed : SameMember m u → PutsIn ring word Closed m u (Err fault.NotOpen)
  closed same = (refl, same)

  closed_puts : PutsIn ring word Closed m u (Ok 1) → ⊥
  closed_puts is = done_or_refused fault.NotOpen is.0

  -- neither does one whose hand has a span of another kind, or of another ring
  puts_while_taking : (r : Reserved) → PutsNext ring word (open_span.Take r) m u (Ok 1) → ⊥
  puts_while_taking r is = done_or_refused fault.Open is.0

  puts_elsewhere : (r : Reserved) → r.ring ≢ ring → PutsNext ring word (open_span.Put r) m u (Ok 1) → ⊥
  puts_elsewhere r other (inl is) = done_or_refused fault.Open is.1.0
  puts_elsewhere r other (inr (inl is)) = other is.0
  puts_elsewhere r other (inr (inr is)) = other is.0

module _ (ring : ℕ) (before after : List Word64) (m u : Member) where
  takes_nothing : SameMember m u → after ≡ before → TakesIn ring before after Closed m u (Err fault.NotOpen)
  takes_nothing same kept = (refl, (same, kept))

  closed_takes : TakesIn ring before after Closed m u (Ok 1) → ⊥
  closed_takes is = done_or_refused fault.NotOpen is.0

  takes_while_putting : (r : Reserved) → TakesNextWord ring before after (open_span.Put r) m u (Ok 1) → ⊥
  takes_while_putting r is = done_or_refused fault.Open is.0

-- an end that holds a multi side is none
holds_multi : (f : Rings) (e : End) → e.state ≡ Holds 4 → place_mode e.at Put ≡ Multi → IsEndOf f Put e → ⊥
holds_multi f e holds multi is = absurd (let z : Hts ≡ Multi = sym (is.1 4 holds) ∙ multi in cc)

-- a change of the put side's end is none of the take side's
other_end : (e : Ends) (new : End) → (end_on (with_end e Put new) Take ≡ e.take) × (end_on (with_end e Put new) Put ≡ new)
other_end e new = (refl, refl)

module _ (m u : Member) (e : End) where
  changes_its_hand : u.port.hand ≢ m.port.hand → ChangesEnd Put e m u → ⊥
  changes_its_hand other is = other is.hand

  changes_both_ends : u.ends ≢ with_end m.ends Put e → ChangesEnd Put e m u → ⊥
  changes_both_ends other is = other is.ends

  changes_its_rings : u.port.fabric ≢ m.port.fabric → ChangesEnd Put e m u → ⊥
  changes_its_rings other is = other is.fabric

  changes_what_it_showed : u.shown.value ≢ m.shown.value → ChangesEnd Put e m u → ⊥
  changes_what_it_showed other is = other is.shown

  changes_what_was_left : u.left ≢ m.left → ChangesEnd Put e m u → ⊥
  changes_what_was_left other is = other is.left

-- a finish of a multi side settles the whole span, one of an HTS side as many as it is given, and not fewer
multi_settles_all : Settles Multi 5 3 3
multi_settles_all = (refl, refl)

hts_settles_what_is_given : Settles Hts 2 3 2
hts_settles_what_is_given = (refl, omega (arith))

hts_settles_none_of_one : Settles Hts 1 3 0 → ⊥
hts_settles_none_of_one is = absurd (omega (arith, is.0))

-- an end that holds nothing gives up nothing; one that isn't closed stays open
gives_up_nothing : (ring : ℕ) (m : Member) → SameMember m m → GivesUpPut Open ring open_span.Idle m m (Ok 0)
gives_up_nothing ring m same = (refl, same)

after_a_release : state_after false ≡ Open
after_a_release = refl

after_a_close : state_after true ≡ Closed
after_a_close = refl

zero_or_refused : (why : Fault) → ◌≡◌ {A = Outcome} (Ok 0) (Err why) → ⊥
zero_or_refused why is = absurd (let e : ◌≡◌ {A = Outcome} (Ok 0) (Err why) = is in cc)

module _ (side : Side) (m u : Member) where
  -- an end is opened once, and a closed one neither holds nor is opened by a release
  opens_twice : (ring : ℕ) → (end_on m.ends side).state ≢ Closed → EndOpens side ring m u (Ok 0) → ⊥
  opens_twice ring opened (inl is) = zero_or_refused fault.Ring is.1
  opens_twice ring opened (inr (inl is)) = zero_or_refused fault.Open is.2.0
  opens_twice ring opened (inr (inr is)) = opened is.0

  holds_while_closed : (end_on m.ends side).state ≡ Closed → EndHolds side 4 m u (Ok 0) → ⊥
  holds_while_closed shut (inl is) = zero_or_refused fault.NotOpen is.1
  holds_while_closed shut (inr is) = is.0 shut

  releases_while_closed : (end_on m.ends side).state ≡ Closed → EndReleases side false m u (Ok 0) → ⊥
  releases_while_closed shut (inl is) = zero_or_refused fault.NotOpen is.1
  releases_while_closed shut (inr is) = is.0 shut

  -- no end holds none of its positions, or more than its word has room for
  holds_none : EndHolds side 0 m u (Ok 0) → ⊥
  holds_none (inl is) = zero_or_refused fault.NotOpen is.1
  holds_none (inr (opened, inl is)) = zero_or_refused fault.Mode is.1
  holds_none (inr (opened, inr (hts, inl is))) = zero_or_refused fault.Count is.1
  holds_none (inr (opened, inr (hts, inr is))) = absurd (omega (arith, is.0))

  holds_too_many : EndHolds side 4096 m u (Ok 0) → ⊥
  holds_too_many (inl is) = zero_or_refused fault.NotOpen is.1
  holds_too_many (inr (opened, inl is)) = zero_or_refused fault.Mode is.1
  holds_too_many (inr (opened, inr (hts, inl is))) = zero_or_refused fault.Count is.1
  holds_too_many (inr (opened, inr (hts, inr is))) = absurd (omega (arith, is.1))
