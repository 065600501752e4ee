-- What a refusal states about the spans of all hands
use Rattle.std.specs.Prelude.{ℕ, ◌+◌, ◌-◌, ◌<◌, ◌≤◌, ◌≡◌, ◌≢◌, List, slice_index, Option, Some}
use mathlib.Core.Option.{some}
use lib.ListN.{get_elem?}
use Rattle.atomic_table.specs.Table.{Me, State, Step}
use Rattle.geom.specs.declared.plan.Side.{Side}
use Rattle.geom.specs.declared.plan.Side.TheVariants.{Put, Take}
use Rattle.geom.specs.declared.plan.RingPlan.{RingPlan}
use Rattle.geom.specs.Plan.{mode_of}
use Rattle.ringcore_laws.specs.declared.protocol.Span.{Span}
use Rattle.ringcore_laws.specs.RingSide.{side_of}
use Rattle.ringcore_laws.specs.History.{other_side, own_word, position_of}
use Rattle.fabric_laws.specs.declared.view.View.{View}
use Rattle.fabric_laws.specs.Rule.{IsConsistent, parties_of_views}
use Rattle.fabric_laws.specs.Words.{own_at, settled_word_at, tail_at}

module _ {T : Type 0} where
  -- the room that there is on a side
  abbrev pub room_on : RingPlan → List (View T) → ℕ → Side → ℕ
  room_on plan views ring Put =
      plan.geometry.capacity + (side_of (parties_of_views views) ring Take).len
      - (side_of (parties_of_views views) ring Put).reach
  room_on plan views ring Take =
      (side_of (parties_of_views views) ring Put).len - (side_of (parties_of_views views) ring Take).reach

  -- another hand's span of a side is open
  abbrev pub IsTaken : List (View T) → ℕ → ℕ → Side → Type 0
  IsTaken views id ring side =
      (j : ℕ) × (other : View T) × (span : Span) × (j ≢ id) × (get_elem? views j ≡ some other)
      × (other.party.span ≡ Some span) × (span.ring ≡ ring) × (span.side ≡ side)

  -- a span of the same side with a lower start is open
  abbrev pub HasEarlier : List (View T) → Span → Type 0
  HasEarlier views own =
      (j : ℕ) × (other : View T) × (span : Span) × (get_elem? views j ≡ some other)
      × (other.party.span ≡ Some span) × (span.ring ≡ own.ring) × (span.side ≡ own.side) × (span.start < own.start)

module _ {T : Type 0} (tags : T → List ℕ) where
  -- a moment at which a step may have been made: everything is consistent, the hand has this view, and this word is x
  pub record Was (v : View T) (word x : ℕ) : Type 0 where
    pub state : State (Option T) (View T)
    pub id : ℕ
    pub consistent : IsConsistent tags v.plans v.pool state
    pub here : get_elem? state.views id ≡ some v
    pub found : slice_index state.words word ≡ x

  -- what a hand learns from a kind of step, and a moment at which it may have found its word
  abbrev pub and_was : (Step (Option T) → Me (Option T) (View T) → ℕ → Me (Option T) (View T) → Type 0)
      → Step (Option T) → Me (Option T) (View T) → ℕ → Me (Option T) (View T) → Type 0
  and_was tells st m x m' = tells st m x m' × Was m.0 st.word x

  -- the word was x, and in every state that this view and this word fit, this holds: at every moment at which a step
  -- may have found it so
  pub record Found (v : View T) (word x : ℕ) (holds : List (View T) → ℕ → Type 0) : Type 0 where
    pub was : Was v word x
    pub always : (any : Was v word x) → holds any.state.views any.id

  -- Busy: the own word was x, and another hand's span of the side was open
  abbrev pub WasTaken : ℕ → Side → View T → ℕ → Type 0
  WasTaken ring side v x = Found v (own_at ring side) x (λ views id. IsTaken views id ring side)

  -- Contended: the own word was x, as the spans of all hands made it
  abbrev pub WasMade : ℕ → Side → RingPlan → View T → ℕ → Type 0
  WasMade ring side plan v x = Found v (own_at ring side) x
      (λ views id. x ≡ own_word plan.geometry (mode_of plan side) (side_of (parties_of_views views) ring side))

  -- NoRoom: the other side was settled up to `tail`, and there was room for at most this many
  abbrev pub HadAtMost : ℕ → Side → RingPlan → View T → ℕ → ℕ → Type 0
  HadAtMost ring side plan v tail left =
      let other = other_side side in
      (x : ℕ) × (position_of plan.geometry (mode_of plan other) x ≡ tail)
      × Found v (settled_word_at (mode_of plan other) ring other) x (λ views id. room_on plan views ring side ≤ left)

  -- NotYet: the tail was x, and an earlier span of the side was open
  abbrev pub WasEarlier : Span → View T → ℕ → Type 0
  WasEarlier span v x = Found v (tail_at span.ring span.side) x (λ views id. HasEarlier views span)
