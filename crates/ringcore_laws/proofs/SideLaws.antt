-- How the sides of the rings change when one party reserves or settles, a newcomer comes, or two parties become one
use Rattle.std.proofs.Common.{ℕ, ◌+◌, ◌<◌, ◌≤◌, ◌≢◌, ◌≡◌, max, List, [], ◌∷◌, ◌++◌, length, refl, ap, sym, ◌∙◌, arith}
use Rattle.std.specs.Prelude.{slice_index_or, slice_set, Some, None}
use Rattle.std.specs.List.{sum_by}
use Rattle.std.proofs.lemmas.List.{append-nil, length-set, get_or-set_same, nil_from_length}
use Rattle.std.proofs.lemmas.List.Concat.{flat_map-append}
use Rattle.std.proofs.lemmas.List.Sums.{sum_by-set, sum_by-append, sum_by-cons}
use Rattle.geom.specs.declared.plan.Side.{Side}
use Rattle.ringcore_laws.specs.declared.protocol.Span.{Span}
use Rattle.ringcore_laws.specs.declared.party.Party.{Party}
use Rattle.ringcore_laws.specs.declared.party.Settled.{Settled}
use Rattle.ringcore_laws.specs.Party.{newcomer, joined}
use Rattle.ringcore_laws.specs.RingSide.{RingSide, side_of, party_items, party_count, party_end, span_at, span_count, span_end, settled_at, settled_count}
use Rattle.ringcore_laws.specs.RingSide.{settled_end, greatest}
use Rattle.ringcore_laws.proofs.Lists.{flat_map-set_same, flat_map-set_only, flat_map_part, flat_map_joined, sum_by_joined, greatest_ge, greatest-set}
use Rattle.ringcore_laws.proofs.Lists.{greatest-append, greatest_joined}

module _ {I : Type 0} where
  -- one party reserves a span: nothing is settled, and the span's positions are reserved once more
  pub record Reserves (before after : RingSide I) (ring : ℕ) (side : Side) (span : Span) : Type 0 where
    pub items_at : (p : ℕ) → after.items_at p ≡ before.items_at p
    pub len : after.len ≡ before.len
    pub openers : (p : ℕ) → after.openers p ≡ before.openers p + span_at ring side p (Some span)
    pub open_count : after.open_count ≡ before.open_count + span_count ring side (Some span)
    pub reach : after.reach ≡ max before.reach (span_end ring side (Some span))

  pub reserves : (parties : List (Party I)) (i : ℕ) (d : Party I) (span : Span) (ring : ℕ) (side : Side) → i < length parties
      → (slice_index_or parties i d).span ≡ None
      → Reserves (side_of parties ring side) (side_of (slice_set parties i (record (slice_index_or parties i d) { span = Some span })) ring side) ring side span
  unfolding side_of party_items party_count party_end
  reserves parties i d span ring side lt idle = record {
    items_at = λ p. flat_map-set_same (party_items ring side p) parties i after d lt refl;
    len = let h = sum_by-set (party_count ring side) parties i after d lt in omega arith;
    openers = λ p.
        let h = sum_by-set (λ (party : Party I). span_at ring side p party.span) parties i after d lt in
        let none : span_at ring side p (slice_index_or parties i d).span ≡ 0 = ap (span_at ring side p) idle in
        omega arith;
    open_count =
        let h = sum_by-set (λ (party : Party I). span_count ring side party.span) parties i after d lt in
        let none : span_count ring side (slice_index_or parties i d).span ≡ 0 = ap (span_count ring side) idle in
        omega arith;
    reach =
        let h = greatest-set (party_end ring side) parties i after d lt in
        let none : span_end ring side (slice_index_or parties i d).span ≡ 0 = ap (span_end ring side) idle in
        let old = greatest_ge (party_end ring side) parties i d lt in
        let new = greatest_ge (party_end ring side) (slice_set parties i after) i d (rw length-set lt) in
        let same : party_end ring side (slice_index_or (slice_set parties i after) i d) ≡ party_end ring side after =
        ap (party_end ring side) (get_or-set_same parties i after d lt) in
        omega arith;
  }
    where
      after : Party I
      after = record (slice_index_or parties i d) { span = Some span }

  -- a party's open span is settled with these items
  abbrev pub settles : Party I → Settled I → Party I
  settles party s = record { given = party.given; settled = s ∷ party.settled; span = None }

  -- one party settles its span
  pub record Settles (before after : RingSide I) (ring : ℕ) (side : Side) (span : Span) (s : Settled I) : Type 0 where
    pub elsewhere : (p : ℕ) → settled_at ring side p s ≡ [] → after.items_at p ≡ before.items_at p
    pub here : (p : ℕ) → before.items_at p ≡ [] → after.items_at p ≡ settled_at ring side p s
    pub len : after.len ≡ before.len + settled_count ring side s
    pub openers : (p : ℕ) → after.openers p + span_at ring side p (Some span) ≡ before.openers p
    pub open_count : after.open_count + span_count ring side (Some span) ≡ before.open_count
    pub reach : max after.reach (span_end ring side (Some span)) ≡ max before.reach (settled_end ring side s)
    pub own_end : span_end ring side (Some span) ≤ before.reach
    pub new_end : settled_end ring side s ≤ after.reach

  pub settles_side_of : (parties : List (Party I)) (i : ℕ) (d : Party I) (span : Span) (s : Settled I) (ring : ℕ) (side : Side) → i < length parties
      → (slice_index_or parties i d).span ≡ Some span
      → Settles (side_of parties ring side) (side_of (slice_set parties i (settles (slice_index_or parties i d) s)) ring side) ring side span s
  unfolding side_of party_items party_count party_end
  settles_side_of parties i d span s ring side lt busy = record {
    elsewhere = λ p e. flat_map-set_same (party_items ring side p) parties i after d lt (ap (λ v. v ++ party_items ring side p (slice_index_or parties i d)) e);
    here = λ p e.
        let part = flat_map_part (party_items ring side p) parties i d lt in
        let none : party_items ring side p (slice_index_or parties i d) ≡ [] = nil_from_length _ (omega (arith, ap length e)) in
        flat_map-set_only (party_items ring side p) parties i after lt (ap length e)
        ∙ (ap (λ v. settled_at ring side p s ++ v) none ∙ append-nil (settled_at ring side p s));
    len = let h =
        sum_by-set (party_count ring side) parties i after d lt in omega (arith, sum_by-cons (settled_count ring side) s (slice_index_or parties i d).settled);
    openers = λ p.
        let h = sum_by-set (λ (party : Party I). span_at ring side p party.span) parties i after d lt in
        let own : span_at ring side p (slice_index_or parties i d).span ≡ span_at ring side p (Some span) = ap (span_at ring side p) busy in
        omega arith;
    open_count =
        let h = sum_by-set (λ (party : Party I). span_count ring side party.span) parties i after d lt in
        let own : span_count ring side (slice_index_or parties i d).span ≡ span_count ring side (Some span) = ap (span_count ring side) busy in
        omega arith;
    reach =
        let h = greatest-set (party_end ring side) parties i after d lt in
        let own : span_end ring side (slice_index_or parties i d).span ≡ span_end ring side (Some span) = ap (span_end ring side) busy in
        let old = greatest_ge (party_end ring side) parties i d lt in
        let new = greatest_ge (party_end ring side) (slice_set parties i after) i d (rw length-set lt) in
        let same : party_end ring side (slice_index_or (slice_set parties i after) i d) ≡ party_end ring side after =
        ap (party_end ring side) (get_or-set_same parties i after d lt) in
        omega arith;
    own_end =
        let own : span_end ring side (slice_index_or parties i d).span ≡ span_end ring side (Some span) = ap (span_end ring side) busy in
        omega (arith, greatest_ge (party_end ring side) parties i d lt);
    new_end =
        let same : party_end ring side (slice_index_or (slice_set parties i after) i d) ≡ party_end ring side after =
        ap (party_end ring side) (get_or-set_same parties i after d lt) in
        omega (arith, greatest_ge (party_end ring side) (slice_set parties i after) i d (rw length-set lt));
  }
    where
      after : Party I
      after = settles (slice_index_or parties i d) s

  -- a party without spans and buffers changes nothing
  pub side_of_newcomer : (parties : List (Party I)) (given : List ℕ) (ring : ℕ) (side : Side)
      → side_of (parties ++ newcomer given ∷ []) ring side ≡ side_of parties ring side
  unfolding side_of party_items party_count party_end
  side_of_newcomer parties given ring side = λ i. record {
    items_at = λ p. (flat_map-append (party_items ring side p) parties (newcomer given ∷ []) ∙ append-nil _) i;
    len = len i;
    openers = λ p. openers p i;
    open_count = open_count i;
    reach = reach i;
  }
    where
      len : sum_by (party_count ring side) (parties ++ newcomer given ∷ []) ≡ sum_by (party_count ring side) parties
      len = omega (arith, sum_by-append (party_count ring side) parties (newcomer given ∷ []))

      openers : (p : ℕ) → sum_by (λ (party : Party I). span_at ring side p party.span) (parties ++ newcomer given ∷ [])
          ≡ sum_by (λ (party : Party I). span_at ring side p party.span) parties
      openers p = omega (arith, sum_by-append (λ (party : Party I). span_at ring side p party.span) parties (newcomer given ∷ []))

      open_count : sum_by (λ (party : Party I). span_count ring side party.span) (parties ++ newcomer given ∷ [])
          ≡ sum_by (λ (party : Party I). span_count ring side party.span) parties
      open_count = omega (arith, sum_by-append (λ (party : Party I). span_count ring side party.span) parties (newcomer given ∷ []))

      reach : greatest (party_end ring side) (parties ++ newcomer given ∷ []) ≡ greatest (party_end ring side) parties
      reach = omega (arith, greatest-append (party_end ring side) parties (newcomer given ∷ []))

  pub side_of_together : (parties : List (Party I)) (i j : ℕ) (d : Party I) (ring : ℕ) (side : Side) → i < length parties → j < length parties → j ≢ i
      → (slice_index_or parties i d).span ≡ None → (slice_index_or parties j d).span ≡ None → ((p : ℕ) → length ((side_of parties ring side).items_at p) ≤ 1)
      → side_of (slice_set (slice_set parties i (joined (slice_index_or parties i d) (slice_index_or parties j d))) j (newcomer [])) ring side
      ≡ side_of parties ring side
  unfolding side_of party_items party_count party_end
  side_of_together parties i j d ring side at_i at_j apart idle_i idle_j one = λ k. record {
    items_at =
        λ p. flat_map_joined (party_items ring side p) parties i j both nobody d at_i at_j apart (flat_map-append (settled_at ring side p) a.settled b.settled)
        refl (one p) k;
    len = sum_by_joined (party_count ring side) parties i j both nobody d at_i at_j apart (sum_by-append (settled_count ring side) a.settled b.settled) refl k;
    openers = λ p.
        sum_by_joined (λ (party : Party I). span_at ring side p party.span) parties i j both nobody d at_i at_j apart
        (sym (ap (λ v. span_at ring side p a.span + v) (ap (span_at ring side p) idle_j) ∙ ap (λ v. v + 0) (ap (span_at ring side p) idle_i))) refl k;
    open_count =
        sum_by_joined (λ (party : Party I). span_count ring side party.span) parties i j both nobody d at_i at_j apart
        (sym (ap (λ v. span_count ring side a.span + v) (ap (span_count ring side) idle_j) ∙ ap (λ v. v + 0) (ap (span_count ring side) idle_i))) refl k;
    reach = greatest_joined (party_end ring side) parties i j both nobody d at_i at_j apart ends refl k;
  }
    where
      a : Party I
      a = slice_index_or parties i d

      b : Party I
      b = slice_index_or parties j d

      both : Party I
      both = joined a b

      nobody : Party I
      nobody = newcomer []

      ends : party_end ring side both ≡ max (party_end ring side a) (party_end ring side b)
      ends =
          let h = greatest-append (settled_end ring side) a.settled b.settled in
          let e1 : span_end ring side a.span ≡ 0 = ap (span_end ring side) idle_i in
          let e2 : span_end ring side b.span ≡ 0 = ap (span_end ring side) idle_j in
          omega arith
