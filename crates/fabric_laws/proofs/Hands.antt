-- A fabric stays consistent when a hand is split in two, and when two hands are made one
use Rattle.std.proofs.Common.{◌≡◌, ℕ, zero, suc, ◌+◌, ◌-◌, ◌/◌, ◌<◌, ◌≢◌, ◌⊎◌, inl, inr, List, [], ◌∷◌, ◌++◌, length, set, sym, refl, ap, ◌∙◌, subst, arith}
use Rattle.std.proofs.Common.{append-nil}
use Rattle.std.specs.Prelude.{slice_get, slice_index_or, slice_set, Some, None}
use mathlib.Core.Option.{some, some-ne-none}
use lib.ListN.{get_elem?}
use Rattle.std.proofs.lemmas.List.Sums.{sum_by-append}
use Rattle.atomic_table.specs.Table.{Joins, Splits}
use Rattle.atomic_table.proofs.Lists.{at_set, at_snoc, set_else}
use Rattle.geom.specs.declared.plan.Side.{Side}
use Rattle.geom.specs.declared.plan.Side.TheVariants.{Put, Take}
use Rattle.geom.specs.declared.plan.RingPlan.{RingPlan}
use Rattle.geom.specs.Plan.{mode_of}
use Rattle.ringcore_laws.specs.declared.party.Party.{Party}
use Rattle.ringcore_laws.specs.Party.{joined, newcomer}
use Rattle.ringcore_laws.specs.RingSide.{RingSide, party_count, listed, settled_count, side_of}
use Rattle.ringcore_laws.specs.HeadTailRule.{base}
use Rattle.ringcore_laws.specs.History.{own_word}
use Rattle.ringcore_laws.proofs.Lists.{sum_by_joined}
use Rattle.ringcore_laws.proofs.SideLaws.{side_of_newcomer}
use Rattle.ringcore_laws.proofs.Laws.{joined_by, joined_keeps, joined_sides, newcomer_keeps}
use Rattle.ringcore_laws.proofs.HandLaws.{orderly_joined, orderly_newcomer}
use Rattle.ringcore_laws.proofs.FreeKept.{free_joined, free_newcomer}
use Rattle.fabric_laws.specs.declared.view.View.{View}
use Rattle.fabric_laws.specs.Rule.{AreWords, AtHome, IsConsistent, IsSpent, IsTrueView, parties_of_views}
use Rattle.fabric_laws.specs.Changes.{both, kept, spent, split_off}
use Rattle.fabric_laws.proofs.Steps.{St, Told, built, span_within}
use Rattle.fabric_laws.proofs.Truths.{GoOn, observed_on, true_on}
use Rattle.fabric_laws.proofs.Views.{parties_push, parties_same, parties_set, party_here, party_within, sum_by_at}

module _ {T : Type 0} (tags : T → List ℕ) (plans : List RingPlan) (pool : ℕ) (s : St T) (c : IsConsistent tags plans pool s) where
  abbrev parties : List (Party T)
  parties = parties_of_views s.views

  -- if the sides of the rings are as they were, so are words and homes
  module _ (after : List (Party T)) (same : (r : ℕ) (plan : RingPlan) (side : Side) → slice_get plans r ≡ Some plan
      → side_of after r side ≡ side_of parties r side) where
    words_as : AreWords plans s.words after
    words_as = record {
      own = λ r side plan at. c.words.own r side plan at ∙ ap (own_word plan.geometry (mode_of plan side)) (sym (same r plan side at));
      tail = λ r side plan at multi. c.words.tail r side plan at multi ∙ ap (λ (l : RingSide T). l.len) (sym (same r plan side at));
    }

    homes_as : (r : ℕ) (plan : RingPlan) → slice_get plans r ≡ Some plan → AtHome plans s.homes (side_of after r Put) (side_of after r Take) r plan
    homes_as r plan at =
        subst (λ (l : RingSide T). AtHome plans s.homes l (side_of after r Take) r plan) (sym (same r plan Put at))
        (subst (λ (l : RingSide T). AtHome plans s.homes (side_of parties r Put) l r plan) (sym (same r plan Take at)) (c.homes r plan at))

    goes_as : ((r : ℕ) (side : Side) → (side_of after r side).len ≡ (side_of parties r side).len) → GoOn plans parties after
    goes_as len = record {
      len = λ r side. omega (arith, len r side);
      base = λ r side plan at. omega (arith, ap (base (mode_of plan side)) (same r plan side at));
      more = λ r plan at. ([], ap (λ (l : RingSide T). listed l) (same r plan Put at) ∙ sym (append-nil (listed (side_of parties r Put))));
    }

  -- 1. Split

  module _ (id : ℕ) (v : View T) (here : get_elem? s.views id ≡ some v) (alive : 0 < v.parts) where
    abbrev split_views : List (View T)
    split_views = set s.views id (kept v) ++ split_off v ∷ []

    split_told : Told tags plans pool split_views
    split_told =
        let k = c.told id v here alive in
        record {
          told = λ j u at pos. elim (at_snoc (set s.views id (kept v)) (split_off v) u j at) [
            | inl old ↦ elim (at_set s.views id j (kept v) u old) [
              | inl own ↦ (ap (λ (z : View T). z.plans) (sym own.1) ∙ k.0, ap (λ (z : View T). z.pool) (sym own.1) ∙ k.1)
              | inr other ↦ c.told j u other.1 pos
            ]
            | inr new ↦ (ap (λ (z : View T). z.plans) (sym new) ∙ k.0, ap (λ (z : View T). z.pool) (sym new) ∙ k.1)
          ];
          spent = λ j u at none. elim (at_snoc (set s.views id (kept v)) (split_off v) u j at) [
            | inl old ↦ elim (at_set s.views id j (kept v) u old) [
              | inl own ↦ absurd (let e : v.parts - v.parts / 2 ≡ u.parts = ap (λ (z : View T). z.parts) own.1 in omega arith)
              | inr other ↦ c.spent j u other.1 none
            ]
            | inr new ↦ subst IsSpent new record { party = refl; observed = refl }
          ];
          parts = omega (
            arith,
            sum_by-append (λ (u : View T). u.parts) (set s.views id (kept v)) (split_off v ∷ []),
            sum_by_at (λ (u : View T). u.parts) s.views id v (kept v) here,
            c.parts,
          );
        }

    split_stays : IsConsistent tags plans pool record { words = s.words; homes = s.homes; views = split_views }
    split_stays =
        let same : (r : ℕ) (plan : RingPlan) (side : Side) → slice_get plans r ≡ Some plan
        → side_of (parties ++ newcomer [] ∷ []) r side ≡ side_of parties r side =
        λ r plan side at. side_of_newcomer parties [] r side in
        let on = goes_as (parties ++ newcomer [] ∷ []) same (λ r side. ap (λ (l : RingSide T). l.len) (side_of_newcomer parties [] r side)) in
        built tags plans pool record { words = s.words; homes = s.homes; views = split_views } (parties ++ newcomer [] ∷ [])
        (parties_push (set s.views id (kept v)) (split_off v) ∙ ap (λ ps. ps ++ newcomer [] ∷ []) (parties_same s.views id v (kept v) here refl))
        c.fitting
        (newcomer_keeps tags plans pool parties c.sound)
        (orderly_newcomer plans parties c.ruled)
        (free_newcomer tags plans pool parties c.free)
        c.word_count
        (words_as (parties ++ newcomer [] ∷ []) same)
        c.home_count
        (homes_as (parties ++ newcomer [] ∷ []) same)
        (λ j u at. elim (at_snoc (set s.views id (kept v)) (split_off v) u j at) [
          | inl old ↦ elim (at_set s.views id j (kept v) u old) [
            | inl own ↦
                let k = c.views id v here in
                subst (IsTrueView plans (parties ++ newcomer [] ∷ [])) own.1
                (true_on plans parties (parties ++ newcomer [] ∷ []) (kept v) on (span_within tags plans pool s c id v here)
                record { observed = k.observed; shown = k.shown; ends = k.ends })
            | inr other ↦ true_on plans parties (parties ++ newcomer [] ∷ []) u on (span_within tags plans pool s c j u other.1) (c.views j u other.1)
          ]
          | inr new ↦ subst (IsTrueView plans (parties ++ newcomer [] ∷ [])) new record {
            observed = λ o e. absurd (let u : None ≡ Some o = e in cc);
            shown = λ span e. absurd (let u : None ≡ Some span = e in cc);
            ends = λ j x e. absurd (some-ne-none x (sym e));
          }
        ])
        split_told

  -- 2. Join

  module _ (id : ℕ) (v : View T) (here : get_elem? s.views id ≡ some v) (alive : 0 < v.parts) (idle : v.party.span ≡ None)
      (j : ℕ) (w : View T) (there : get_elem? s.views j ≡ some w) (apart : j ≢ id) (idle' : w.party.span ≡ None) where
    abbrev one : List (View T)
    one = set s.views id (both v w)

    there' : get_elem? one j ≡ some w
    there' = set_else s.views id j (both v w) apart ∙ there

    abbrev joined_views : List (View T)
    joined_views = set one j spent

    at_i : id < length parties
    at_i = party_within s.views id v here

    at_j : j < length parties
    at_j = party_within s.views j w there

    mine : slice_index_or parties id v.party ≡ v.party
    mine = party_here s.views id v v.party here

    theirs : slice_index_or parties j v.party ≡ w.party
    theirs = party_here s.views j w v.party there

    free_i : (slice_index_or parties id v.party).span ≡ None
    free_i = ap (λ (p : Party T). p.span) mine ∙ idle

    free_j : (slice_index_or parties j v.party).span ≡ None
    free_j = ap (λ (p : Party T). p.span) theirs ∙ idle'

    abbrev after : List (Party T)
    after = joined_by tags parties id j v.party

    same : (r : ℕ) (plan : RingPlan) (side : Side) → slice_get plans r ≡ Some plan → side_of after r side ≡ side_of parties r side
    same r plan side at = joined_sides tags plans pool parties id j v.party r plan side c.sound at at_i at_j apart free_i free_j

    same_len : (r : ℕ) (side : Side) → (side_of after r side).len ≡ (side_of parties r side).len
    unfolding side_of party_count
    same_len r side =
        let a = slice_index_or parties id v.party in
        let b = slice_index_or parties j v.party in
        sum_by_joined (party_count r side) parties id j (joined a b) (newcomer []) v.party at_i at_j apart
        (sum_by-append (settled_count r side) a.settled b.settled) refl

    on : GoOn plans parties after
    on = goes_as after same same_len

    parties_after : parties_of_views joined_views ≡ after
    parties_after =
        parties_set one j spent
        ∙ ap (λ ps. slice_set ps j (newcomer [])) (parties_set s.views id (both v w) ∙ (λ k. slice_set parties id (joined (sym mine k) (sym theirs k))))

    both_true : IsTrueView plans after (both v w)
    both_true =
        let k = c.views id v here in
        let l = c.views j w there in
        record {
          observed = λ o e. observed_on plans parties after o on (k.observed o e);
          shown = λ span e. absurd (let u : None ≡ Some span = e in cc);
          ends = λ n x e. elim (in_either v.party.settled w.party.settled n x e) [
            | inl first ↦ omega (arith, k.ends first.0 x first.1, on.len x.ring x.side)
            | inr second ↦ omega (arith, l.ends second.0 x second.1, on.len x.ring x.side)
          ];
        }
      where
        in_either : {X : Type 0} (xs ys : List X) (n : ℕ) (x : X) → get_elem? (xs ++ ys) n ≡ some x
            → ((m : ℕ) × (get_elem? xs m ≡ some x)) ⊎ ((m : ℕ) × (get_elem? ys m ≡ some x))
        in_either [] ys n x e = inr (n, e)
        in_either (z ∷ xs) ys zero x e = inl (zero, e)
        in_either (z ∷ xs) ys (suc n) x e = elim (in_either xs ys n x e) [ inl f ↦ inl (suc f.0, f.1) | inr g ↦ inr g ]

    join_told : Told tags plans pool joined_views
    join_told =
        let k = c.told id v here alive in
        record {
          told = λ n u at pos. elim (at_set one j n spent u at) [
            | inl gone ↦ absurd (let e : 0 ≡ u.parts = ap (λ (z : View T). z.parts) gone.1 in omega arith)
            | inr left ↦ elim (at_set s.views id n (both v w) u left.1) [
              | inl own ↦ (ap (λ (z : View T). z.plans) (sym own.1) ∙ k.0, ap (λ (z : View T). z.pool) (sym own.1) ∙ k.1)
              | inr other ↦ c.told n u other.1 pos
            ]
          ];
          spent = λ n u at none. elim (at_set one j n spent u at) [
            | inl gone ↦ subst IsSpent gone.1 record { party = refl; observed = refl }
            | inr left ↦ elim (at_set s.views id n (both v w) u left.1) [
              | inl own ↦ absurd (let e : v.parts + w.parts ≡ u.parts = ap (λ (z : View T). z.parts) own.1 in omega arith)
              | inr other ↦ c.spent n u other.1 none
            ]
          ];
          parts = omega (
            arith,
            sum_by_at (λ (u : View T). u.parts) s.views id v (both v w) here,
            sum_by_at (λ (u : View T). u.parts) one j w spent there',
            c.parts,
          );
        }

    join_stays : IsConsistent tags plans pool record { words = s.words; homes = s.homes; views = joined_views }
    join_stays =
        built tags plans pool record { words = s.words; homes = s.homes; views = joined_views } after parties_after
        c.fitting
        (joined_keeps tags plans pool parties id j v.party c.sound at_i at_j apart free_i free_j)
        (orderly_joined tags plans pool parties id j v.party c.sound c.ruled at_i at_j apart free_i free_j)
        (free_joined tags plans pool parties c.free id j v.party c.sound at_i at_j apart free_i free_j)
        c.word_count
        (words_as after same)
        c.home_count
        (homes_as after same)
        (λ n u at. elim (at_set one j n spent u at) [
          | inl gone ↦ subst (IsTrueView plans after) gone.1 record {
            observed = λ o e. absurd (let z : None ≡ Some o = e in cc);
            shown = λ span e. absurd (let z : None ≡ Some span = e in cc);
            ends = λ m x e. absurd (some-ne-none x (sym e));
          }
          | inr left ↦ elim (at_set s.views id n (both v w) u left.1) [
            | inl own ↦ subst (IsTrueView plans after) own.1 both_true
            | inr other ↦ true_on plans parties after u on (span_within tags plans pool s c n u other.1) (c.views n u other.1)
          ]
        ])
        join_told

module _ {T : Type 0} (tags : T → List ℕ) (plans : List RingPlan) (pool : ℕ) where
  pub splits : (id : ℕ) (v : View T) → 0 < v.parts → Splits (IsConsistent tags plans pool) id v (kept v) (split_off v)
  splits id v alive s c here = split_stays tags plans pool s c id v here alive

  pub joins : (id : ℕ) (v : View T) (j : ℕ) (w : View T) → 0 < v.parts → v.party.span ≡ None → w.party.span ≡ None
      → Joins (IsConsistent tags plans pool) id v j w (both v w) spent
  joins id v j w alive idle idle' s c here apart there =
      join_stays tags plans pool s c id v here alive idle j w (sym (set_else s.views id j (both v w) apart) ∙ there) apart idle'
