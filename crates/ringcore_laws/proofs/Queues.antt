-- How a ring's queue and words change when the first span of a side is settled
use Rattle.std.proofs.Common.{ℕ, ◌+◌, ◌<◌, ◌≡◌, List, ◌++◌, length, drop, ap, sym, ◌∙◌, arith, true}
use Rattle.std.specs.Prelude.{slice_index_or, Some, if◌then◌else◌}
use Rattle.std.proofs.lemmas.List.{drop-append-le, drop-drop}
use Rattle.geom.specs.declared.plan.Side.{Side}
use Rattle.geom.specs.declared.plan.Side.TheVariants.{Put, Take}
use Rattle.geom.specs.Extent.{Extent}
use Rattle.ringcore_laws.specs.declared.protocol.Span.{Span}
use Rattle.ringcore_laws.specs.declared.party.Party.{Party}
use Rattle.ringcore_laws.specs.declared.party.Settled.{Settled}
use Rattle.ringcore_laws.specs.Party.{is_on}
use Rattle.ringcore_laws.specs.Moves.{settled_by}
use Rattle.ringcore_laws.specs.RingSide.{RingSide, side_of, listed, span_count, span_end, settled_count, settled_end}
use Rattle.ringcore_laws.specs.Sound.{SoundRing, queue}
use Rattle.ringcore_laws.proofs.SideLaws.{Settles, settles_side_of}
use Rattle.ringcore_laws.proofs.RingLaws.{length-listed, listed_settled, takes_le_puts}
use Rattle.ringcore_laws.proofs.Laws.{on_own, off_put, off_take, settled_own, settled_other}

module _ {I : Type 0} where
  -- what was put on the ring, once a put is settled
  pub put_listed : (e : Extent) (parties : List (Party I)) (i : ℕ) (d : Party I) (ring start count : ℕ) (items : List I)
      → SoundRing e (side_of parties ring Put) (side_of parties ring Take)
      → i < length parties → (slice_index_or parties i d).span ≡ Some record { ring = ring; side = Put; start = start; count = count }
      → start ≡ (side_of parties ring Put).len
      → listed (side_of (settled_by parties i d record { ring = ring; side = Put; start = start; count = count } items) ring Put)
      ≡ listed (side_of parties ring Put) ++ items
  put_listed e parties i d ring start count items s lt busy first =
      let span : Span = record { ring = ring; side = Put; start = start; count = count } in
      let before = side_of parties ring Put in
      let after = side_of (settled_by parties i d span items) ring Put in
      let step = settles_side_of parties i d span record { ring = ring; side = Put; start = start; items = items } ring Put lt busy in
      ap (λ (v : RingSide I). listed v) (settled_own before after span items s.published first step)
      ∙ listed_settled before span items after.reach s.published first

  pub put_queue : (e : Extent) (parties : List (Party I)) (i : ℕ) (d : Party I) (ring start count : ℕ) (items : List I)
      → SoundRing e (side_of parties ring Put) (side_of parties ring Take)
      → i < length parties → (slice_index_or parties i d).span ≡ Some record { ring = ring; side = Put; start = start; count = count }
      → start ≡ (side_of parties ring Put).len
      → queue (settled_by parties i d record { ring = ring; side = Put; start = start; count = count } items) ring ≡ queue parties ring ++ items
  put_queue e parties i d ring start count items s lt busy first =
      let opposite = settled_other (side_of parties ring Take) (side_of after ring Take) ring Take span items (step Take) (off_take ring ring) in
      ap (λ (v : RingSide I). drop v.len (listed (side_of after ring Put))) opposite
      ∙ (ap (drop (side_of parties ring Take).len) (put_listed e parties i d ring start count items s lt busy first)
      ∙ drop-append-le (side_of parties ring Take).len (listed (side_of parties ring Put)) items
      (omega (arith, length-listed (side_of parties ring Put) s.published, takes_le_puts e (side_of parties ring Put) (side_of parties ring Take) s)))
    where
      span : Span
      span = record { ring = ring; side = Put; start = start; count = count }

      after : List (Party I)
      after = settled_by parties i d span items

      step : (side : Side) → Settles (side_of parties ring side) (side_of after ring side) ring side span
          record { ring = ring; side = Put; start = start; items = items }
      step side = settles_side_of parties i d span record { ring = ring; side = Put; start = start; items = items } ring side lt busy

  pub take_queue : (e : Extent) (parties : List (Party I)) (i : ℕ) (d : Party I) (ring start count : ℕ) (items : List I)
      → SoundRing e (side_of parties ring Put) (side_of parties ring Take)
      → i < length parties → (slice_index_or parties i d).span ≡ Some record { ring = ring; side = Take; start = start; count = count }
      → start ≡ (side_of parties ring Take).len
      → queue (settled_by parties i d record { ring = ring; side = Take; start = start; count = count } items) ring ≡ drop (length items) (queue parties ring)
  take_queue e parties i d ring start count items s lt busy first =
      let opposite = settled_other (side_of parties ring Put) (side_of after ring Put) ring Put span items (step Put) (off_put ring ring) in
      let own = settled_own (side_of parties ring Take) (side_of after ring Take) span items s.dequeued first (step Take) in
      ap (λ (v : RingSide I). drop (side_of after ring Take).len (listed v)) opposite
      ∙ (ap (λ (v : RingSide I). drop v.len (listed (side_of parties ring Put))) own
      ∙ sym (drop-drop (length items) (side_of parties ring Take).len (listed (side_of parties ring Put))))
    where
      span : Span
      span = record { ring = ring; side = Take; start = start; count = count }

      after : List (Party I)
      after = settled_by parties i d span items

      step : (side : Side) → Settles (side_of parties ring side) (side_of after ring side) ring side span
          record { ring = ring; side = Take; start = start; items = items }
      step side = settles_side_of parties i d span record { ring = ring; side = Take; start = start; items = items } ring side lt busy

  -- the own side's numbers after the settle: where it ends, and, if it was settled whole, that its reach is unchanged
  pub record OwnSettled (before after : RingSide I) (span : Span) (n : ℕ) : Type 0 where
    pub len : after.len ≡ before.len + n
    pub open_count : after.open_count + span.count ≡ before.open_count
    pub whole : n ≡ span.count → after.reach ≡ before.reach

  pub own_settled : (parties : List (Party I)) (i : ℕ) (d : Party I) (span : Span) (items : List I) → i < length parties
      → (slice_index_or parties i d).span ≡ Some span
      → OwnSettled (side_of parties span.ring span.side) (side_of (settled_by parties i d span items) span.ring span.side) span (length items)
  own_settled parties i d span items lt busy = record {
    len = omega (arith, s.len, count);
    open_count = omega (arith, s.open_count, open_count);
    whole = λ all. omega (arith, s.reach, s.own_end, s.new_end, end, ends);
  }
    where
      done : Settled I
      done = record { ring = span.ring; side = span.side; start = span.start; items = items }

      s : Settles (side_of parties span.ring span.side) (side_of (settled_by parties i d span items) span.ring span.side) span.ring span.side span
          record { ring = span.ring; side = span.side; start = span.start; items = items }
      s = settles_side_of parties i d span record { ring = span.ring; side = span.side; start = span.start; items = items } span.ring span.side lt busy

      on : is_on span.ring span.side span.ring span.side ≡ true
      on = on_own span.ring span.side

      count : settled_count span.ring span.side done ≡ length items
      count = ap (λ v. if v then length items else 0) on

      open_count : span_count span.ring span.side (Some span) ≡ span.count
      open_count = ap (λ v. if v then span.count else 0) on

      end : settled_end span.ring span.side done ≡ span.start + length items
      end = ap (λ v. if v then span.start + length items else 0) on

      ends : span_end span.ring span.side (Some span) ≡ span.start + span.count
      ends = ap (λ v. if v then span.start + span.count else 0) on
