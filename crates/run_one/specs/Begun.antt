-- What the parts of a run require at its start: of the reader, of the settings, and of the writers
use Rattle.std.specs.Prelude.{◌≡◌, ◌≤◌, ℕ, List, [], length, map, vec_len, Option, None}
use Rattle.pcapio.specs.Counted.{told, failures_of}
use Rattle.pcapio.specs.Reader.{order_of, rest, source_of, state_of}
use Rattle.pcapio.specs.declared.counted.Counted.{Counted}
use Rattle.pcapio.specs.declared.reader.Reader.{Reader}
use Rattle.pcapio.specs.declared.reader_state.ReaderState.TheVariants.{Between}
use Rattle.pcapio_laws.specs.declared.format.Resolution.{Resolution}
use Rattle.settings.specs.declared.read.Settings.{Settings}
use Rattle.stages_laws.specs.Input.{Input, IsInput}
use Rattle.stages_laws.specs.Output.{Forwarding}
use Rattle.run_one.specs.Ports.{AreFresh, devices_of}
use Rattle.run_one.specs.Whole.{forwarding_by}
use Rattle.run_one.specs.declared.ports.Outputs.{Outputs}

-- the reader is before the first of these records, and its device had failed this often
pub record HasInput {R : Type 0} (remaining : R → Option (List ℕ)) (reader : Reader R) (records : Option Input)
    (count : ℕ) : Type 0 where
  pub input : IsInput (order_of reader) (rest remaining reader) records
  pub between : state_of reader ≡ Between
  pub failures : failures_of (source_of reader) ≡ count

-- these are the bytes of a segment, what becomes of a frame, and how many ports there are
pub record GoesBy (settings : Settings) (bytes : ℕ) (forwarding : Forwarding) (count : ℕ) : Type 0 where
  pub room : settings.room ≡ bytes
  pub rules : forwarding_by settings ≡ forwarding
  pub ports : vec_len settings.ports.sources ≡ count

-- nothing has been written yet, and each writer has a file header to write; the emptied list has room for all their
-- devices
pub record AreReady {W : Type 0} (contents : W → Option (List ℕ)) (outputs : Outputs W) (spare : List (Counted W))
    (space : ℕ) (begun : List (Option (List ℕ))) (counts : List ℕ) (resolution : Resolution) : Type 0 where
  pub before : map (told contents) (devices_of outputs.writers.items) ≡ begun
  pub failures : map failures_of (devices_of outputs.writers.items) ≡ counts
  pub fresh : AreFresh contents resolution outputs.writers.items
  pub well : outputs.failed ≡ None
  pub many : vec_len outputs.writers ≡ length begun
  pub empty : spare ≡ []
  pub room : vec_len outputs.writers ≤ space
