-- The words for how much of a request has to be granted
use Rattle.std.specs.Prelude.{Option, Some, None, if◌then◌else◌, codes}
use Rattle.std.specs.Str.{bytes_eq}
use Rattle.geom.specs.declared.plan.How.{How}
use Rattle.geom.specs.declared.plan.How.TheVariants.{Bulk, Burst}
use Rattle.command_file.specs.Text.{Bytes}

-- `bulk` or `burst`
abbrev pub how_of : Bytes → Option How
how_of word =
    if bytes_eq word (codes "bulk") then Some Bulk else (if bytes_eq word (codes "burst") then Some Burst else None)
