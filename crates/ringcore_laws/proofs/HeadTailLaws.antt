-- Reservations stay in order when a span is reserved after the others and when the first one is settled
use Rattle.std.proofs.Common.{ℕ, zero, suc, ◌+◌, ◌<◌, ◌≤◌, ◌≡◌, ◌⊎◌, inl, inr, List, [], ◌∷◌, length, refl, ap, sym, subst, ◌∙◌, arith, true, false, Bool}
use Rattle.std.specs.Prelude.{slice_get, slice_index_or, Option, Some, None, ◌&&◌, ◌||◌, ◌==◌, nat_lt, if◌then◌else◌}
use Rattle.std.specs.List.{sum_by, list_any, range_with_len}
use Rattle.std.proofs.lemmas.List.{length-set, get_or-set_other, get_or-set_same}
use Rattle.std.proofs.lemmas.List.Sums.{sum_by-cons}
use Rattle.std.proofs.lemmas.Bool.Decides.{nat_tests}
use Rattle.geom.specs.declared.plan.Mode.{Mode}
use Rattle.geom.specs.declared.plan.Mode.TheVariants.{Multi, Hts}
use Rattle.geom.specs.declared.plan.Side.{Side}
use Rattle.geom.specs.declared.plan.Side.TheVariants.{Put, Take}
use Rattle.geom.specs.declared.plan.RingPlan.{RingPlan}
use Rattle.geom.specs.Extent.{Extent, range_of}
use Rattle.geom.specs.Plan.{mode_of}
use Rattle.ringcore_laws.specs.declared.protocol.Span.{Span}
use Rattle.ringcore_laws.specs.declared.party.Party.{Party}
use Rattle.ringcore_laws.specs.declared.party.Settled.{Settled}
use Rattle.ringcore_laws.specs.Party.{is_on, same_side, covers, with_open, with_settled}
use Rattle.ringcore_laws.specs.Moves.{limit, reserved_by, settled_by}
use Rattle.ringcore_laws.specs.RingSide.{RingSide, side_of, IsGapless, party_end, span_at, span_count, span_end, settled_count, settled_end}
use Rattle.ringcore_laws.specs.HeadTailRule.{RuledSide, RuledSpan, HeadTailRule}
use Rattle.ringcore_laws.specs.History.{starts_below}
use Rattle.ringcore_laws.proofs.Lists.{greatest_ge}
use Rattle.ringcore_laws.proofs.SideLaws.{Reserves, reserves, Settles, settles_side_of}
use Rattle.ringcore_laws.proofs.RingLaws.{open_count, held_cases, below_or_not, unsettled_above}
use Rattle.ringcore_laws.proofs.Laws.{on_own, off_ring, same_or_not, reserved_other, settled_other}

pub sum_by_part : {X : Type 0} (f : X → ℕ) (xs : List X) (i : ℕ) (d : X) → i < length xs → f (slice_index_or xs i d) ≤ sum_by f xs
sum_by_part f [] i d lt = absurd (omega arith)
sum_by_part f (x ∷ xs) zero d lt = omega (arith, sum_by-cons f x xs)
sum_by_part f (x ∷ xs) (suc i) d lt = omega (arith, sum_by-cons f x xs, sum_by_part f xs i d (omega arith))

pub range_part : (f : ℕ → ℕ) (a n r : ℕ) → a ≤ r → r < a + n → f r ≤ sum_by f (range_with_len a n)
range_part f a zero r le lt = absurd (omega arith)
range_part f a (suc n) r le lt = elim (below_or_not a r) [
  | inl above ↦ omega (arith, sum_by-cons f a (range_with_len (a + 1) n), range_part f (a + 1) n r (omega arith) (omega arith))
  | inr here ↦ let same : r ≡ a = omega arith in omega (arith, sum_by-cons f a (range_with_len (a + 1) n), ap f same)
]

-- an open span holds a position of a side, or doesn't
pub span_cases : (ring : ℕ) (side : Side) (p : ℕ) (s : Span)
    → ((is_on s.ring s.side ring side ≡ true) × (s.start ≤ p) × (p < s.start + s.count) × (span_at ring side p (Some s) ≡ 1)) ⊎
    (span_at ring side p (Some s) ≡ 0)
span_cases ring side p s = on (is_on s.ring s.side ring side) refl
  where
    on : (b : Bool) → is_on s.ring s.side ring side ≡ b → ((is_on s.ring s.side ring side ≡ true) × (s.start ≤ p) × (p < s.start + s.count)
        × (span_at ring side p (Some s) ≡ 1)) ⊎ (span_at ring side p (Some s) ≡ 0)
    on false e = inr (ap (λ v. if v && covers s p then 1 else 0) e)
    on true e = elim (held_cases s p) [
      | inl inside ↦ inl (e, inside.0, inside.1, ap (λ v. if v && covers s p then 1 else 0) e ∙ inside.2)
      | inr out ↦ inr (ap (λ v. if v && covers s p then 1 else 0) e ∙ out.1)
    ]

-- what follows for the side if a position is reserved
pub span_tells : (ring : ℕ) (side : Side) (p : ℕ) (o : Option Span) → 0 < span_at ring side p o → (p < span_end ring side o) × (0 < span_count ring side o)
span_tells ring side p None h = absurd (omega arith)
span_tells ring side p (Some s) h = elim (span_cases ring side p s) [
  | inl inside ↦
      let e1 : span_end ring side (Some s) ≡ s.start + s.count = ap (λ v. if v then s.start + s.count else 0) inside.0 in
      let e2 : span_count ring side (Some s) ≡ s.count = ap (λ v. if v then s.count else 0) inside.0 in
      (omega (arith, inside.2), omega (arith, inside.1, inside.2))
  | inr out ↦ absurd (omega arith)
]

pub below_not : (ring : ℕ) (side : Side) (start p : ℕ) (o : Option Span) → starts_below ring side start o ≡ false → p < start → span_at ring side p o ≡ 0
below_not ring side start p None none lt = refl
below_not ring side start p (Some s) none lt = elim (span_cases ring side p s) [
  | inl inside ↦ absurd (clash inside.0 inside.1)
  | inr out ↦ out
]
  where
    clash : is_on s.ring s.side ring side ≡ true → s.start ≤ p → ⊥
    clash on le =
        let h1 : nat_lt s.start start ≡ true = grind (arith, nat_tests) in
        let h2 : (is_on s.ring s.side ring side && nat_lt s.start start) ≡ true = ap (λ v. v && nat_lt s.start start) on ∙ h1 in
        let h3 : true ≡ false = sym h2 ∙ none in cc

or_false : (a b : Bool) → (a || b) ≡ false → (a ≡ false) × (b ≡ false)
or_false false b h = (refl, h)
or_false true b h = absurd (let h' : true ≡ false = h in cc)

same_side_or_not : (a b : Side) → (a ≡ b) ⊎ (same_side b a ≡ false)
same_side_or_not Put Put = inl refl
same_side_or_not Put Take = inr refl
same_side_or_not Take Put = inr refl
same_side_or_not Take Take = inl refl

-- a span is on a side, or not
pub on_or_off : (ring r : ℕ) (side s : Side) → ((r ≡ ring) × (s ≡ side)) ⊎ (is_on ring side r s ≡ false)
on_or_off ring r side s = elim (same_or_not r ring) [
  | inl same ↦ elim (same_side_or_not s side) [
    | inl e ↦ inl (same, e)
    | inr off ↦ inr (ap (λ v. (ring == r) && v) off ∙ and_off (ring == r))
  ]
  | inr apart ↦ inr (off_ring ring r side s apart)
]
  where
    and_off : (b : Bool) → (b && false) ≡ false
    and_off true = refl
    and_off false = refl

module _ {I : Type 0} where
  -- a reserved position is before the end of some span
  pub reserved_tells : (parties : List (Party I)) (ring : ℕ) (side : Side) (p : ℕ) → 0 < (side_of parties ring side).openers p
      → (p < (side_of parties ring side).reach) × (0 < (side_of parties ring side).open_count)
  unfolding side_of party_end
  reserved_tells [] ring side p h = absurd (omega arith)
  reserved_tells (x ∷ xs) ring side p h =
      let e1 = sum_by-cons (λ (party : Party I). span_at ring side p party.span) x xs in
      let e2 = sum_by-cons (λ (party : Party I). span_count ring side party.span) x xs in
      elim (below_or_not 0 (span_at ring side p x.span)) [
        | inl own ↦ (omega (arith, (span_tells ring side p x.span own).0), omega (arith, (span_tells ring side p x.span own).1))
        | inr none ↦
            let rest = reserved_tells xs ring side p (omega arith) in
            (omega (arith, rest.0), omega (arith, rest.1))
      ]

  pub nothing_earlier : (parties : List (Party I)) (ring : ℕ) (side : Side) (start p : ℕ)
      → list_any (λ (party : Party I). starts_below ring side start party.span) parties ≡ false → p < start → (side_of parties ring side).openers p ≡ 0
  unfolding side_of
  nothing_earlier [] ring side start p none lt = refl
  nothing_earlier (x ∷ xs) ring side start p none lt =
      let both = or_false (starts_below ring side start x.span) (list_any (λ (party : Party I). starts_below ring side start party.span) xs) none in
      sum_by-cons (λ (party : Party I). span_at ring side p party.span) x xs
      ∙ (ap (λ v. v + sum_by (λ (party : Party I). span_at ring side p party.span) xs) (below_not ring side start p x.span both.0 lt)
      ∙ (zero_plus _ ∙ nothing_earlier xs ring side start p both.1 lt))
    where
      zero_plus : (n : ℕ) → 0 + n ≡ n
      zero_plus n = omega arith

  -- what follows for its side from an open span of a party
  pub own_span : (parties : List (Party I)) (k : ℕ) (d : Party I) (s : Span) → k < length parties → (slice_index_or parties k d).span ≡ Some s
      → (s.count ≤ (side_of parties s.ring s.side).open_count) × (s.start + s.count ≤ (side_of parties s.ring s.side).reach)
      × ((p : ℕ) → open_count s p ≤ (side_of parties s.ring s.side).openers p)
  unfolding side_of party_end
  own_span parties k d s lt busy =
      let on = on_own s.ring s.side in
      let count : span_count s.ring s.side (slice_index_or parties k d).span ≡ s.count =
      ap (span_count s.ring s.side) busy ∙ ap (λ v. if v then s.count else 0) on in
      let end : span_end s.ring s.side (slice_index_or parties k d).span ≡ s.start + s.count =
      ap (span_end s.ring s.side) busy ∙ ap (λ v. if v then s.start + s.count else 0) on in (
        omega (arith, sum_by_part (λ (party : Party I). span_count s.ring s.side party.span) parties k d lt),
        omega (arith, greatest_ge (party_end s.ring s.side) parties k d lt),
        λ p.
            let at : span_at s.ring s.side p (slice_index_or parties k d).span ≡ open_count s p =
            ap (span_at s.ring s.side p) busy ∙ ap (λ v. if v && covers s p then 1 else 0) on in
            omega (arith, sum_by_part (λ (party : Party I). span_at s.ring s.side p party.span) parties k d lt),
      )

  -- where the next span of a side starts
  pub record IsNext (mode : Mode) (l : RingSide I) (start : ℕ) : Type 0 where
    pub multi : mode ≡ Multi → start ≡ l.reach
    pub hts : mode ≡ Hts → (start ≡ l.len) × (l.open_count ≡ 0)

  pub next_above : (parties : List (Party I)) (ring : ℕ) (side : Side) (e : Extent) (mode : Mode) (start : ℕ) → RuledSide e mode (side_of parties ring side)
      → IsNext mode (side_of parties ring side) start
      → ((side_of parties ring side).len ≤ start) × ((p : ℕ) → start ≤ p → (side_of parties ring side).openers p ≡ 0)
  next_above parties ring side e Multi start o n =
      let is = n.multi refl in (
        omega (arith, o.behind),
        λ p le. elim (below_or_not 0 ((side_of parties ring side).openers p)) [
          | inl h ↦
              absurd (omega (arith, (reserved_tells parties ring side p h).0))
          | inr none ↦ omega arith
        ],
      )
  next_above parties ring side e Hts start o n =
      let is = n.hts refl in (
        omega (arith, is.0),
        λ p le. elim (below_or_not 0 ((side_of parties ring side).openers p)) [
          | inl h ↦
              absurd (omega (arith, (reserved_tells parties ring side p h).1, is.1))
          | inr none ↦ omega arith
        ],
      )

  -- the first open span starts where the settled items end
  pub first_in_line : (plans : List RingPlan) (parties : List (Party I)) (k : ℕ) (d : Party I) (s : Span) (plan : RingPlan) → HeadTailRule plans parties
      → IsGapless (side_of parties s.ring s.side)
      → ((p : ℕ) → 0 < (side_of parties s.ring s.side).openers p → (side_of parties s.ring s.side).items_at p ≡ [])
      → k < length parties → (slice_index_or parties k d).span ≡ Some s → slice_get plans s.ring ≡ Some plan
      → list_any (λ (party : Party I). starts_below s.ring s.side s.start party.span) parties ≡ false → s.start ≡ (side_of parties s.ring s.side).len
  first_in_line plans parties k d s plan o g unsettled lt busy there none = by_mode (mode_of plan s.side) refl
    where
      l : RingSide I
      l = side_of parties s.ring s.side

      span : RuledSpan plans parties s
      span = o.spans k d s lt busy

      own : (s.count ≤ l.open_count) × (s.start + s.count ≤ l.reach) × ((p : ℕ) → open_count s p ≤ l.openers p)
      own = own_span parties k d s lt busy

      above : l.len ≤ s.start
      above =
          let at : 0 < l.openers s.start =
          elim (held_cases s s.start) [
            | inl inside ↦ omega (arith, own.2 s.start, inside.2)
            | inr out ↦
                elim out.0 [ inl x ↦ absurd (omega arith) | inr y ↦ absurd (omega (arith, span.positive)) ]
          ] in
          unsettled_above l g s.start (unsettled s.start at)

      by_mode : (mode : Mode) → mode_of plan s.side ≡ mode → s.start ≡ l.len
      by_mode Hts e = (span.alone plan there e).0
      by_mode Multi e = elim (below_or_not l.len s.start) [
        | inl lt ↦
            let covered = (o.sides s.ring s.side plan there).covered e l.len (omega arith) (omega (arith, own.1, span.positive)) in
            absurd (omega (arith, covered, nothing_earlier parties s.ring s.side s.start l.len none lt))
        | inr le ↦ omega (arith, above)
      ]

  -- a side after a reservation: it is the own one, or nothing changes
  pub other_side_reserved : (parties : List (Party I)) (i : ℕ) (d : Party I) (span : Span) (r : ℕ) (side : Side) → i < length parties
      → (slice_index_or parties i d).span ≡ None
      → ((r ≡ span.ring) × (side ≡ span.side)) ⊎ (side_of (reserved_by parties i d span) r side ≡ side_of parties r side)
  other_side_reserved parties i d span r side lt idle = elim (on_or_off span.ring r span.side side) [
    | inl own ↦ inl own
    | inr off ↦ inr (reserved_other (side_of parties r side) (side_of (reserved_by parties i d span) r side) r side span
        (reserves parties i d span r side lt idle) off)
  ]

  pub orderly_reserved : (plans : List RingPlan) (parties : List (Party I)) (i : ℕ) (d : Party I) (span : Span) (plan : RingPlan) → HeadTailRule plans parties
      → i < length parties → (slice_index_or parties i d).span ≡ None
      → slice_get plans span.ring ≡ Some plan → 0 < span.count → span.ring < length plans
      → IsNext (mode_of plan span.side) (side_of parties span.ring span.side) span.start
      → span.start + span.count ≤ plan.geometry.last → span.start + span.count ≤ limit plan.geometry parties span.ring span.side
      → (mode_of plan span.side ≡ Hts → span.count < range_of plan.geometry) → HeadTailRule plans (reserved_by parties i d span)
  orderly_reserved plans parties i d span plan o lt idle there some known next last within small = record {
    sides = λ r side plan' h. elim (other_side_reserved parties i d span r side lt idle) [
      | inl own ↦
          let e : plan' ≡ plan = same_plan' (sym h ∙ (ap (slice_get plans) own.0 ∙ there)) in
          subst (λ (v : ℕ). RuledSide plan'.geometry (mode_of plan' side) (side_of new v side)) (sym own.0)
          (subst (λ (v : Side). RuledSide plan'.geometry (mode_of plan' v) (side_of new span.ring v)) (sym own.1)
          (subst (λ (v : RingPlan). RuledSide v.geometry (mode_of v span.side) (side_of new span.ring span.side)) (sym e) own_side))
      | inr same ↦ subst (λ (v : RingSide I). RuledSide plan'.geometry (mode_of plan' side) v) (sym same) (o.sides r side plan' h)
    ];
    room = λ r plan' h.
        let put = step r Put in
        let taking = step r Take in
        elim (on_or_off span.ring r span.side Put) [
          | inl own ↦
              let e : plan' ≡ plan = same_plan' (sym h ∙ (ap (slice_get plans) own.0 ∙ there)) in
              let fits : span.start + span.count ≤ (side_of parties r Take).len + plan'.geometry.capacity =
              subst (λ (v : ℕ). span.start + span.count ≤ (side_of parties v Take).len + plan'.geometry.capacity) (sym own.0)
              (subst (λ (v : RingPlan). span.start + span.count ≤ (side_of parties span.ring Take).len + v.geometry.capacity) (sym e)
              (subst (λ (v : Side). span.start + span.count ≤ limit plan.geometry parties span.ring v) (sym own.1) within)) in
              omega (arith, o.room r plan' h, put.reach, taking.len, end_le r Put)
          | inr off ↦
              let none : span_end r Put (Some span) ≡ 0 = ap (λ v. if v then span.start + span.count else 0) off in
              omega (arith, o.room r plan' h, put.reach, taking.len)
        ];
    spans = λ k d' s lt' busy. elim (same_or_not k i) [
      | inl same ↦
          let e : Some s ≡ Some span =
          sym busy ∙ (ap (λ (v : ℕ). (slice_index_or new v d').span) same
          ∙ ap (λ (v : Party I). v.span) (get_or-set_same parties i (with_open (slice_index_or parties i d) span) d' lt)) in
          subst (λ (v : Span). RuledSpan plans new v) (sym (same_plan' e)) own_span_ok
      | inr apart ↦
          let old : (slice_index_or parties k d').span ≡ Some s =
          sym (ap (λ (v : Party I). v.span) (get_or-set_other parties i k (with_open (slice_index_or parties i d) span) d' apart)) ∙ busy in
          other_span_ok k d' s (subst (λ (v : ℕ). k < v) (length-set parties i (with_open (slice_index_or parties i d) span)) lt') old
    ];
  }
    where
      same_plan' : {X : Type 0} {a b : X} → Some a ≡ Some b → a ≡ b
      same_plan' h = cc

      new : List (Party I)
      new = reserved_by parties i d span

      step : (r : ℕ) (side : Side) → Reserves (side_of parties r side) (side_of new r side) r side span
      step r side = reserves parties i d span r side lt idle

      end_le : (r : ℕ) (side : Side) → span_end r side (Some span) ≤ span.start + span.count
      end_le r side = elim (on_or_off span.ring r span.side side) [
        | inl own ↦ cond_le (is_on span.ring span.side r side) (span.start + span.count)
        | inr off ↦ cond_le (is_on span.ring span.side r side) (span.start + span.count)
      ]
        where
          cond_le : (b : Bool) (n : ℕ) → (if b then n else 0) ≤ n
          cond_le true n = omega arith
          cond_le false n = omega arith

      old_side : RuledSide plan.geometry (mode_of plan span.side) (side_of parties span.ring span.side)
      old_side = o.sides span.ring span.side plan there

      on : is_on span.ring span.side span.ring span.side ≡ true
      on = on_own span.ring span.side

      end : span_end span.ring span.side (Some span) ≡ span.start + span.count
      end = ap (λ v. if v then span.start + span.count else 0) on

      own_side : RuledSide plan.geometry (mode_of plan span.side) (side_of new span.ring span.side)
      own_side = record {
        behind = omega (arith, old_side.behind, (step span.ring span.side).len, (step span.ring span.side).reach);
        last = omega (arith, old_side.last, (step span.ring span.side).reach, end);
        small = λ hts.
            let counted : span_count span.ring span.side (Some span) ≡ span.count = ap (λ v. if v then span.count else 0) on in
            omega (arith, small hts, (next.hts hts).1, (step span.ring span.side).open_count, counted);
        covered = λ multi p le lt'.
            let at : span_at span.ring span.side p (Some span) ≡ open_count span p = ap (λ v. if v && covers span p then 1 else 0) on in
            let more = (step span.ring span.side).openers p in
            elim (below_or_not p (side_of parties span.ring span.side).reach) [
              | inl before ↦ omega (arith, old_side.covered multi p (omega (arith, (step span.ring span.side).len)) before, more)
              | inr behind ↦ elim (held_cases span p) [
                | inl inside ↦ omega (arith, inside.2, more, at)
                | inr out ↦ elim out.0 [
                  | inl x ↦ absurd (omega (arith, next.multi multi))
                  | inr y ↦ absurd (omega (arith, (step span.ring span.side).reach, end))
                ]
              ]
            ];
      }

      own_span_ok : RuledSpan plans new span
      own_span_ok = record {
        positive = some;
        known = known;
        alone = λ plan' h hts.
            let e : plan' ≡ plan = same_plan' (sym h ∙ there) in
            let n = next.hts (ap (λ (v : RingPlan). mode_of v span.side) (sym e) ∙ hts) in
            let count : span_count span.ring span.side (Some span) ≡ span.count = ap (λ v. if v then span.count else 0) on in
            (omega (arith, n.0, (step span.ring span.side).len), omega (arith, n.1, (step span.ring span.side).open_count, count));
      }

      other_span_ok : (k : ℕ) (d' : Party I) (s : Span) → k < length parties → (slice_index_or parties k d').span ≡ Some s → RuledSpan plans new s
      other_span_ok k d' s lt' busy =
          let old = o.spans k d' s lt' busy in
          record {
            positive = old.positive;
            known = old.known;
            alone = λ plan' h hts. elim (other_side_reserved parties i d span s.ring s.side lt idle) [
              | inl own ↦
                  let e : plan' ≡ plan = same_plan' (sym h ∙ (ap (slice_get plans) own.0 ∙ there)) in
                  let hts' : mode_of plan span.side ≡ Hts = ap (λ (v : RingPlan). mode_of v span.side) (sym e) ∙ (ap (mode_of plan') (sym own.1) ∙ hts) in
                  let alone = old.alone plan' h hts in
                  let empty : (side_of parties s.ring s.side).open_count ≡ 0 =
                  ap (λ (v : ℕ). (side_of parties v s.side).open_count) own.0
                  ∙ (ap (λ (v : Side). (side_of parties span.ring v).open_count) own.1 ∙ (next.hts hts').1) in
                  absurd (omega (arith, old.positive, alone.1))
              | inr same ↦
                  let alone = old.alone plan' h hts in
                  (alone.0 ∙ ap (λ (v : RingSide I). v.len) (sym same), alone.1 ∙ ap (λ (v : RingSide I). v.open_count) (sym same))
            ];
          }

  -- the first open span of a side is settled, on a multi side whole
  pub orderly_settled : (plans : List RingPlan) (parties : List (Party I)) (i : ℕ) (d : Party I) (span : Span) (items : List I) (plan : RingPlan)
      → HeadTailRule plans parties → i < length parties → (slice_index_or parties i d).span ≡ Some span
      → slice_get plans span.ring ≡ Some plan → span.start ≡ (side_of parties span.ring span.side).len → length items ≤ span.count
      → (mode_of plan span.side ≡ Multi → length items ≡ span.count)
      → HeadTailRule plans (settled_by parties i d span items)
  orderly_settled plans parties i d span items plan o lt busy there first fits whole = record {
    sides = λ r side plan' h. elim (on_or_off span.ring r span.side side) [
      | inl own ↦
          let e : plan' ≡ plan = same_plan' (sym h ∙ (ap (slice_get plans) own.0 ∙ there)) in
          subst (λ (v : ℕ). RuledSide plan'.geometry (mode_of plan' side) (side_of new v side)) (sym own.0)
          (subst (λ (v : Side). RuledSide plan'.geometry (mode_of plan' v) (side_of new span.ring v)) (sym own.1)
          (subst (λ (v : RingPlan). RuledSide v.geometry (mode_of v span.side) (side_of new span.ring span.side)) (sym e) own_side))
      | inr off ↦ subst (λ (v : RingSide I). RuledSide plan'.geometry (mode_of plan' side) v) (sym (other r side off)) (o.sides r side plan' h)
    ];
    room = λ r plan' h. omega (arith, o.room r plan' h, (step r Put).reach, (step r Put).own_end, ends r Put, (step r Take).len);
    spans = λ k d' s lt' busy'. elim (same_or_not k i) [
      | inl same ↦
          let e : Some s ≡ None =
          sym busy' ∙ (ap (λ (v : ℕ). (slice_index_or new v d').span) same
          ∙ ap (λ (v : Party I). v.span) (get_or-set_same parties i (with_settled (slice_index_or parties i d) span items) d' lt)) in
          absurd (let f : Some s ≡ None = e in cc)
      | inr apart ↦
          let old : (slice_index_or parties k d').span ≡ Some s =
          sym (ap (λ (v : Party I). v.span) (get_or-set_other parties i k (with_settled (slice_index_or parties i d) span items) d' apart)) ∙ busy' in
          other_span_ok k d' s (subst (λ (v : ℕ). k < v) (length-set parties i (with_settled (slice_index_or parties i d) span items)) lt') old lt' busy'
    ];
  }
    where
      same_plan' : {X : Type 0} {a b : X} → Some a ≡ Some b → a ≡ b
      same_plan' h = cc

      new : List (Party I)
      new = settled_by parties i d span items

      done : Settled I
      done = record { ring = span.ring; side = span.side; start = span.start; items = items }

      step : (r : ℕ) (side : Side) → Settles (side_of parties r side) (side_of new r side) r side span
          record { ring = span.ring; side = span.side; start = span.start; items = items }
      step r side = settles_side_of parties i d span record { ring = span.ring; side = span.side; start = span.start; items = items } r side lt busy

      other : (r : ℕ) (side : Side) → is_on span.ring span.side r side ≡ false → side_of new r side ≡ side_of parties r side
      other r side off = settled_other (side_of parties r side) (side_of new r side) r side span items (step r side) off

      ends : (r : ℕ) (side : Side) → settled_end r side done ≤ span_end r side (Some span)
      ends r side = cond_le (is_on span.ring span.side r side)
        where
          cond_le : (b : Bool) → (if b then span.start + length items else 0) ≤ (if b then span.start + span.count else 0)
          cond_le true = omega arith
          cond_le false = omega arith

      old_side : RuledSide plan.geometry (mode_of plan span.side) (side_of parties span.ring span.side)
      old_side = o.sides span.ring span.side plan there

      on : is_on span.ring span.side span.ring span.side ≡ true
      on = on_own span.ring span.side

      end : settled_end span.ring span.side done ≡ span.start + length items
      end = ap (λ v. if v then span.start + length items else 0) on

      count : settled_count span.ring span.side done ≡ length items
      count = ap (λ v. if v then length items else 0) on

      own_side : RuledSide plan.geometry (mode_of plan span.side) (side_of new span.ring span.side)
      own_side =
          let s = step span.ring span.side in
          let e = ends span.ring span.side in
          record {
            behind = omega (arith, first, s.len, s.new_end, end, count);
            last = omega (arith, old_side.last, s.reach, s.own_end, e);
            small = λ hts. omega (arith, old_side.small hts, s.open_count);
            covered = λ multi p le lt'.
                let at : span_at span.ring span.side p (Some span) ≡ open_count span p = ap (λ v. if v && covers span p then 1 else 0) on in
                let before : p < (side_of parties span.ring span.side).reach = omega (arith, s.reach, s.own_end, e) in
                let all = whole multi in
                let sum = s.len in
                elim (held_cases span p) [
                  | inl inside ↦ absurd (omega (arith, inside.1, count))
                  | inr out ↦ omega (arith, old_side.covered multi p (omega (arith, count)) before, s.openers p, at, out.1)
                ];
          }

      other_span_ok : (k : ℕ) (d' : Party I) (s : Span) → k < length parties → (slice_index_or parties k d').span ≡ Some s → k < length new
          → (slice_index_or new k d').span ≡ Some s → RuledSpan plans new s
      other_span_ok k d' s lt' busy' lt'' busy'' =
          let old = o.spans k d' s lt' busy' in
          record {
            positive = old.positive;
            known = old.known;
            alone = λ plan' h hts. elim (on_or_off span.ring s.ring span.side s.side) [
              | inl own ↦
                  let e : plan' ≡ plan = same_plan' (sym h ∙ (ap (slice_get plans) own.0 ∙ there)) in
                  let hts' : mode_of plan span.side ≡ Hts = ap (λ (v : RingPlan). mode_of v span.side) (sym e) ∙ (ap (mode_of plan') (sym own.1) ∙ hts) in
                  let mine = (o.spans i d span lt busy).alone plan there hts' in
                  let counted : span_count span.ring span.side (Some span) ≡ span.count = ap (λ v. if v then span.count else 0) on in
                  let none : (side_of new span.ring span.side).open_count ≡ 0 = omega (arith, (step span.ring span.side).open_count, mine.1, counted) in
                  let still = (own_span new k d' s lt'' busy'').0 in
                  let same : (side_of new s.ring s.side).open_count ≡ (side_of new span.ring span.side).open_count =
                  ap (λ (v : ℕ). (side_of new v s.side).open_count) own.0 ∙ ap (λ (v : Side). (side_of new span.ring v).open_count) own.1 in
                  absurd (omega (arith, old.positive))
              | inr off ↦
                  let alone = old.alone plan' h hts in (
                    alone.0 ∙ ap (λ (v : RingSide I). v.len) (sym (other s.ring s.side off)),
                    alone.1
                        ∙ ap (λ (v : RingSide I). v.open_count) (sym (other s.ring s.side off)),
                  )
            ];
          }
