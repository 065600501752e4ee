-- The entries of a first level, in either of its forms.
use Rattle.std.specs.Prelude.{List}
use Rattle.lpm.specs.TableEntry.{TableEntry}
use Rattle.lpm.specs.declared.first_level.FirstLevel.{FirstLevel}
use Rattle.lpm.specs.declared.first_level.FirstLevel.TheVariants as form

abbrev pub entries_in : FirstLevel → List TableEntry
entries_in (form.Whole entries) = entries.items
entries_in (form.Sparse blocks) = blocks
