-- A publisher as its callers see it.
use Rattle.std.specs.Prelude.{◌≡◌, Option, Some, None, List, All}
use Rattle.live_value.specs.declared.past.Past.{Past}
use Rattle.live_value.specs.declared.line.Line.{Line}
use Rattle.live_value.specs.Lanes.{is_some}
use Rattle.live_value.specs.Lines.{IsShown}

pub record Publishing (T : Type 0) : Type 0 where
  -- what was published, oldest first
  pub seen : Past T
  -- the value before the last, which readers may still have
  pub behind : Option T

abbrev pub content : {X T : Type 0} → (X → T) → Option X → Option T
content value None = None
content value (Some x) = Some (value x)

pub record IsPublisher {X T : Type 0} (value : X
    → T) (published : Past T) (shown : X) (old : Option X) (lines : List (Line T)) : Type 0 where
  pub last : published.latest ≡ value shown
  pub each : All (IsShown published (is_some old)) lines
