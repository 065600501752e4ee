-- The readers' lanes, compared with what was published.
use Rattle.std.specs.Prelude.{◌≡◌, Bool, true, false}
use Rattle.live_value.specs.declared.past.Past.{Past}
use Rattle.live_value.specs.declared.line.Line.{Line}
use Rattle.live_value.specs.Pasts.{followed}

-- nothing is left to be done for the reader: it is shown all, and the value before the last is back from it
pub record IsDone {T : Type 0} (line : Line T) : Type 0 where
  pub shown : line.is_late ≡ false
  pub back : line.showing.owed ≡ false

-- a reader was shown all that was published, or it is late: all but the last, and it owes nothing. All are done unless a
-- value is behind
pub record IsShown {T : Type 0} (published : Past T) (behind : Bool) (line : Line T) : Type 0 where
  pub all : line.is_late ≡ false → line.showing.seen ≡ published
  pub late : line.is_late ≡ true → (followed line.showing.seen published.latest ≡ published) × (line.showing.owed ≡ false)
  pub none : behind ≡ false → IsDone line
