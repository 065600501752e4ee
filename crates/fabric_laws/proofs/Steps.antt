-- A consistent fabric, put together again after one hand's view changed
use Rattle.std.proofs.Common.{◌≡◌, ℕ, ◌+◌, ◌-◌, ◌*◌, ◌<◌, ◌≤◌, inl, inr, List, length, set, get_or, sym, refl, ap, ◌∙◌, subst, arith}
use Rattle.std.specs.Prelude.{slice_get, slice_index_or, Option, Some}
use mathlib.Core.Option.{some}
use lib.ListN.{get_elem?}
use lib.Seq.{set-get_or}
use Rattle.std.specs.List.{sum_by}
use Rattle.atomic_table.specs.Table.{State}
use Rattle.atomic_table.proofs.Lists.{at_set}
use Rattle.geom.specs.declared.plan.Mode.{Mode}
use Rattle.geom.specs.declared.plan.Mode.TheVariants.{Multi, Hts}
use Rattle.geom.specs.declared.plan.Side.{Side}
use Rattle.geom.specs.declared.plan.Side.TheVariants.{Put, Take}
use Rattle.geom.specs.declared.plan.RingPlan.{RingPlan}
use Rattle.geom.specs.Extent.{Extent, range_of}
use Rattle.geom.proofs.Words.{position_back}
use Rattle.geom.specs.Plan.{mode_of}
use Rattle.ringcore_laws.specs.declared.party.Party.{Party}
use Rattle.ringcore_laws.specs.declared.protocol.Span.{Span}
use Rattle.ringcore_laws.specs.RingSide.{RingSide, side_of}
use Rattle.ringcore_laws.specs.Sound.{Sound, SoundRing, holds, moved, occurrences, place_count}
use Rattle.ringcore_laws.specs.HeadTailRule.{HeadTailRule, RuledSide, base}
use Rattle.ringcore_laws.specs.FreeRings.{FreeRule}
use Rattle.ringcore_laws.specs.History.{own_word, position_of}
use Rattle.ringcore_laws.proofs.RingLaws.{below_or_not, held_cases, length-listed, takes_le_puts}
use Rattle.ringcore_laws.proofs.Laws.{element}
use Rattle.ringcore_laws.proofs.HeadTailLaws.{own_span, sum_by_part}
use Rattle.fabric_laws.specs.declared.view.View.{View}
use Rattle.fabric_laws.specs.Rule.{IsFitting, AreWords, AtHome, IsConsistent, IsSpent, IsTrueView, all_parts, parties_of_views}
use Rattle.fabric_laws.specs.Kinds.{IsHeldOnce}
use Rattle.fabric_laws.specs.Words.{own_at, slot_count}
use Rattle.fabric_laws.proofs.Truths.{IsWithin}
use Rattle.fabric_laws.proofs.Views.{parties_same, party_here, party_within, sum_by_at}

abbrev pub St : Type 0 → Type 0
St T = State (Option T) (View T)

-- the position that an own word shows
pub position_base : {I : Type 0} (e : Extent) (mode : Mode) (l : RingSide I) → (mode ≡ Hts → l.open_count < range_of e)
    → position_of e mode (own_word e mode l) ≡ base mode l
position_base e Multi l small = refl
position_base e Hts l small = position_back e l.len l.open_count (small refl)

pub base_low : {I : Type 0} (e : Extent) (mode : Mode) (l : RingSide I) → RuledSide e mode l → (l.len ≤ base mode l) × (base mode l ≤ l.reach)
base_low e Multi l k = (k.behind, omega arith)
base_low e Hts l k = (omega arith, k.behind)

module _ {T : Type 0} (tags : T → List ℕ) (plans : List RingPlan) (pool : ℕ) where
  -- what holds for the hands' parts and for what they know
  pub record Told (views : List (View T)) : Type 0 where
    pub told : (id : ℕ) (v : View T) → get_elem? views id ≡ some v → 0 < v.parts → (v.plans ≡ plans) × (v.pool ≡ pool)
    pub spent : (id : ℕ) (v : View T) → get_elem? views id ≡ some v → v.parts ≡ 0 → IsSpent v
    pub parts : sum_by (λ (v : View T). v.parts) views ≡ all_parts

  -- a fabric whose hands are these parties is consistent
  pub built : (s : St T) (ps : List (Party T)) → parties_of_views s.views ≡ ps → IsFitting plans pool → Sound tags plans pool ps → HeadTailRule plans ps
      → FreeRule tags plans pool ps
      → length s.words ≡ 64 * length plans → AreWords plans s.words ps → length s.homes ≡ slot_count plans
      → ((r : ℕ) (plan : RingPlan) → slice_get plans r ≡ Some plan → AtHome plans s.homes (side_of ps r Put) (side_of ps r Take) r plan)
      → ((id : ℕ) (v : View T) → get_elem? s.views id ≡ some v → IsTrueView plans ps v) → Told s.views → IsConsistent tags plans pool s
  built s ps same fitting sound ruled free word_count words home_count homes views told = record {
    fitting = fitting;
    sound = subst (Sound tags plans pool) (sym same) sound;
    ruled = subst (HeadTailRule plans) (sym same) ruled;
    free = subst (FreeRule tags plans pool) (sym same) free;
    word_count = word_count;
    words = subst (AreWords plans s.words) (sym same) words;
    home_count = home_count;
    homes = λ r plan at. subst (λ (v : List (Party T)). AtHome plans s.homes (side_of v r Put) (side_of v r Take) r plan) (sym same) (homes r plan at);
    views = λ id v here. subst (λ (p : List (Party T)). IsTrueView plans p v) (sym same) (views id v here);
    told = told.told;
    spent = told.spent;
    parts = told.parts;
  }

  module _ (s : St T) (c : IsConsistent tags plans pool s) where
    abbrev parties : List (Party T)
    parties = parties_of_views s.views

    -- a hand's view changes, but not its parts
    pub told_on : (id : ℕ) (v w : View T) → get_elem? s.views id ≡ some v → 0 < v.parts → w.parts ≡ v.parts → w.plans ≡ v.plans → w.pool ≡ v.pool
        → Told (set s.views id w)
    told_on id v w here alive same_parts same_plans same_pool = record {
      told = λ j u at pos. elim (at_set s.views id j w u at) [
        | inl own ↦
            let is : u ≡ w = sym own.1 in
            let k = c.told id v here alive in
            (ap (λ (z : View T). z.plans) is ∙ (same_plans ∙ k.0), ap (λ (z : View T). z.pool) is ∙ (same_pool ∙ k.1))
        | inr old ↦ c.told j u old.1 pos
      ];
      spent = λ j u at none. elim (at_set s.views id j w u at) [
        | inl own ↦ absurd (let e : w.parts ≡ u.parts = ap (λ (z : View T). z.parts) own.1 in omega arith)
        | inr old ↦ c.spent j u old.1 none
      ];
      parts = omega (arith, sum_by_at (λ (u : View T). u.parts) s.views id v w here, c.parts);
    }

    -- nor the party that it is: everything else is unchanged
    pub stays : (i id : ℕ) (v w : View T) → get_elem? s.views id ≡ some v → 0 < v.parts → w.party ≡ v.party → w.parts ≡ v.parts → w.plans ≡ v.plans
        → w.pool ≡ v.pool
        → IsTrueView plans parties w → IsConsistent tags plans pool
        record { words = set s.words i (get_or s.words i 0); homes = s.homes; views = set s.views id w }
    stays i id v w here alive same_party same_parts same_plans same_pool new =
        subst (λ (ws : List ℕ). IsConsistent tags plans pool record { words = ws; homes = s.homes; views = set s.views id w }) (sym (set-get_or s.words i 0))
        (built record { words = s.words; homes = s.homes; views = set s.views id w } parties (parties_same s.views id v w here same_party)
        c.fitting c.sound c.ruled c.free c.word_count c.words c.home_count c.homes
        (λ j u at. elim (at_set s.views id j w u at) [ inl own ↦ subst (IsTrueView plans parties) own.1 new | inr old ↦ c.views j u old.1 ])
        (told_on id v w here alive same_parts same_plans same_pool))

    module _ (r : ℕ) (plan : RingPlan) (at : slice_get plans r ≡ Some plan) where
      pub ring_sound : SoundRing plan.geometry (side_of parties r Put) (side_of parties r Take)
      ring_sound = c.sound.rings r plan at

      pub side_ruled : (side : Side) → RuledSide plan.geometry (mode_of plan side) (side_of parties r side)
      side_ruled side = c.ruled.sides r side plan at

      -- the own word, and the position that it shows
      pub word_is : (side : Side) → get_or s.words (own_at r side) 0 ≡ own_word plan.geometry (mode_of plan side) (side_of parties r side)
      word_is side = c.words.own r side plan at

      pub position_is : (side : Side) → position_of plan.geometry (mode_of plan side) (get_or s.words (own_at r side) 0) ≡ base (mode_of plan side) (side_of parties r side)
      position_is side =
          ap (position_of plan.geometry (mode_of plan side)) (word_is side) ∙ position_base plan.geometry (mode_of plan side) (side_of parties r side) (side_ruled side).small

      -- what open takes hold is published
      pub takes_within : (p : ℕ) → 0 < (side_of parties r Take).openers p → p < (side_of parties r Put).len
      takes_within p held = (ring_sound.takes_are_queued p held).1

      pub take_base : base plan.take (side_of parties r Take) ≤ (side_of parties r Put).len
      take_base = by_mode plan.take refl
        where
          low : (side_of parties r Take).len ≤ (side_of parties r Put).len
          low = takes_le_puts plan.geometry (side_of parties r Put) (side_of parties r Take) ring_sound

          by_mode : (m : Mode) → plan.take ≡ m → base m (side_of parties r Take) ≤ (side_of parties r Put).len
          by_mode Hts e = low
          by_mode Multi e = elim (below_or_not (side_of parties r Take).len (side_of parties r Take).reach) [
            | inl more ↦
                let last : ℕ = (side_of parties r Take).reach - 1 in
                let held = (side_ruled Take).covered e last (omega arith) (omega arith) in
                omega (arith, takes_within last held)
            | inr none ↦ omega (arith, low)
          ]

    -- an open take span is within what is published
    pub span_within : (id : ℕ) (u : View T) → get_elem? s.views id ≡ some u → (span : Span) → u.party.span ≡ Some span → span.side ≡ Take
        → IsWithin plans parties span
    span_within id u here span busy taking =
        let lt = party_within s.views id u here in
        let busy' : (slice_index_or parties id u.party).span ≡ Some span = ap (λ (p : Party T). p.span) (party_here s.views id u u.party here) ∙ busy in
        let ruled = c.ruled.spans id u.party span lt busy' in
        let plan = element plans span.ring ruled.known in
        let last : ℕ = span.start + span.count - 1 in
        let own = (own_span parties id u.party span lt busy').2 last in
        let held : 0 < (side_of parties span.ring span.side).openers last = elim (held_cases span last) [
          | inl inside ↦ omega (arith, own, inside.2)
          | inr out ↦ elim out.0 [ inl x ↦ absurd (omega (arith, ruled.positive)) | inr y ↦ absurd (omega (arith, ruled.positive)) ]
        ] in
        let held' : 0 < (side_of parties span.ring Take).openers last = subst (λ (v : Side). 0 < (side_of parties span.ring v).openers last) taking held in
        record {
          plan = plan.0;
          there = plan.1;
          published =
              omega (
                arith,
                takes_within span.ring plan.0 plan.1 last held',
                ruled.positive,
                length-listed (side_of parties span.ring Put) (ring_sound span.ring plan.0 plan.1).published,
              );
        }

    -- each buffer of the pool is the hand's at most once, and no other number is
    pub held_once : (id : ℕ) (u : View T) → get_elem? s.views id ≡ some u → IsHeldOnce tags pool u.party
    unfolding place_count
    held_once id u here b =
        let mine = party_here s.views id u u.party here in
        let part = sum_by_part (holds tags b) parties id u.party (party_within s.views id u here) in
        let own : holds tags b (slice_index_or parties id u.party) ≡ holds tags b u.party = ap (holds tags b) mine in (
          elim (below_or_not b pool) [
            | inl lt ↦ omega (arith, c.sound.buffers.one_place b lt)
            | inr le ↦ omega (arith, c.sound.buffers.no_place b le)
          ],
          λ le. omega (arith, c.sound.buffers.no_place b le),
          subst (λ (p : Party T). moved tags Put b p ≤ occurrences b p.given + moved tags Take b p) mine
              (c.sound.buffers.never_below_none id u.party b (party_within s.views id u here)),
        )
