-- What calls on rings leave of a hand that has no open span
use Rattle.std.specs.Prelude.{◌≡◌, ℕ, ◌⊎◌, ◌++◌, Bool, true, false, List, [], ◌∷◌, length, take, drop, Ok, Err}
use Rattle.geom.specs.declared.plan.How.{How}
use Rattle.geom.specs.declared.plan.How.TheVariants.{Bulk, Burst}
use Rattle.geom.specs.declared.plan.Mode.TheVariants.{Hts}
use Rattle.geom.specs.declared.plan.Side.{Side}
use Rattle.geom.specs.declared.plan.Side.TheVariants.{Put, Take}
use Rattle.ringcore_laws.specs.declared.protocol.Span.{Span}
use Rattle.fabric_laws.specs.declared.view.View.{View}
use Rattle.fabric.specs.AtOnce.{IsLoaded}
use Rattle.fabric.specs.declared.hand.StartFault.{StartFault}
use Rattle.capi.specs.Codes.{Outcome}
use Rattle.capi.specs.Members.{Rings}
use Rattle.capi.specs.Spans.{HasReserved, HasSettled, IsEarly, WasRefused, call_limit, limit_of, room_of, start_fault}
use Rattle.capi.specs.declared.rings.fault.Fault.{Fault}
use Rattle.capi.specs.declared.rings.fault.Fault.TheVariants as fault
use Rattle.capi.specs.declared.rings.word64.Word64.{Word64}

-- how a call with this flag takes a count
abbrev pub how_of : Bool → How
how_of true = Bulk
how_of false = Burst

-- a word that is passed by value
abbrev pub word_of : ℕ → Word64
word_of bits = record { bits = bits }

-- calls that move at most `most` words
module _ (f : Rings) (most : ℕ) (how : How) (n ring : ℕ) (side : Side) (v : View Word64) where
  -- a span of the side was reserved and settled: of a take with the words that it showed
  pub record Moves (count left : ℕ) (shown words : List Word64) (w : View Word64) : Type 0 where
    pub span : Span
    pub opened : View Word64
    pub reserved : HasReserved f most how n ring side v span left shown opened
    pub many : span.count ≡ count
    pub settled : HasSettled span words opened w

  -- a span of the side was reserved, and is open: an earlier one isn't settled yet
  pub record Waits (left : ℕ) (shown : List Word64) (w : View Word64) : Type 0 where
    pub span : Span
    pub opened : View Word64
    pub reserved : HasReserved f most how n ring side v span left shown opened
    pub early : IsEarly f span opened w

  -- nothing was reserved, for this reason
  pub record Refuses (why : Fault) (left : ℕ) (w : View Word64) : Type 0 where
    pub reason : StartFault
    pub named : why ≡ start_fault reason
    pub found : left ≡ room_of reason
    pub refused : WasRefused f most how n ring side v reason w

module _ (f : Rings) (how : How) (ring : ℕ) (v : View Word64) where
  -- A put: the first words of the array were published, or none was
  abbrev pub Puts : List Word64 → ℕ → View Word64 → Outcome → Type 0
  Puts words left w (Ok count) = Moves f (call_limit f ring Put) how (length words) ring Put v count left [] (take count words) w
  Puts words left w (Err why) =
      ((why ≡ fault.Pending) × Waits f (call_limit f ring Put) how (length words) ring Put v left [] w)
      ⊎ Refuses f (call_limit f ring Put) how (length words) ring Put v why left w

  -- A take: the words are at the front of the array, and its other places are unchanged
  abbrev pub Takes : List Word64 → List Word64 → ℕ → View Word64 → Outcome → Type 0
  Takes before after left w (Ok count) = (shown : List Word64) × (length shown ≡ count)
      × (after ≡ shown ++ drop count before) × Moves f (call_limit f ring Take) how (length before) ring Take v count left shown shown w
  Takes before after left w (Err why) =
      ((why ≡ fault.Pending) × (shown : List Word64) × (after ≡ shown ++ drop (length shown) before)
      × Waits f (call_limit f ring Take) how (length before) ring Take v left shown w)
      ⊎ ((after ≡ before) × Refuses f (call_limit f ring Take) how (length before) ring Take v why left w)

-- A put and a take of one word by bulk, which don't say how many more positions are free, or words queued. An exchange
-- that was lost counts as a load
module _ (f : Rings) (ring : ℕ) (v : View Word64) where
  abbrev pub PutsOne : Word64 → View Word64 → Outcome → Type 0
  PutsOne word w outcome = (u : View Word64) × (left : ℕ) × IsLoaded v u × Puts f Bulk ring u (word ∷ []) left w outcome

  abbrev pub TakesOne : List Word64 → List Word64 → View Word64 → Outcome → Type 0
  TakesOne before after w outcome =
      (u : View Word64) × (left : ℕ) × IsLoaded v u × Takes f Bulk ring u before after left w outcome

-- a span of the side was reserved, and stays open
pub record Opens (f : Rings) (how : How) (n ring : ℕ) (side : Side) (v : View Word64) (count left : ℕ)
    (shown : List Word64) (w : View Word64) : Type 0 where
  pub span : Span
  pub reserved : HasReserved f (limit_of Hts) how n ring side v span left shown w
  pub many : span.count ≡ count

module _ (f : Rings) (how : How) (ring : ℕ) (v : View Word64) where
  abbrev pub PeeksPut : ℕ → ℕ → View Word64 → Outcome → Type 0
  PeeksPut n left w (Ok count) = Opens f how n ring Put v count left [] w
  PeeksPut n left w (Err why) = Refuses f (limit_of Hts) how n ring Put v why left w

  abbrev pub PeeksTake : List Word64 → List Word64 → ℕ → View Word64 → Outcome → Type 0
  PeeksTake before after left w (Ok count) = (shown : List Word64) × (length shown ≡ count)
      × (after ≡ shown ++ drop count before) × Opens f how (length before) ring Take v count left shown w
  PeeksTake before after left w (Err why) = (after ≡ before) × Refuses f (limit_of Hts) how (length before) ring Take v why left w
