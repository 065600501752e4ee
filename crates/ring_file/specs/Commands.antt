-- The commands of a ring file: the forms of a line
use Rattle.std.specs.Prelude.{ℕ, ◌&&◌, nat_le, Bool, List, [], ◌∷◌, drop, Option, Some, None, if◌then◌else◌, codes}
use Rattle.std.specs.Option.{option_map}
use Rattle.std.specs.List.{list_all}
use Rattle.std.specs.Str.{bytes_eq}
use Rattle.geom.specs.declared.plan.How.{How}
use Rattle.command_file.specs.Text.{Bytes, len_is_1_to, number_of}
use Rattle.command_file.specs.Hows.{how_of}
use Rattle.ring_file.specs.declared.command.Command.{Command}
use Rattle.ring_file.specs.declared.command.Command.TheVariants.{Power, Exact, Put, Take, Count}

-- a visible byte: ASCII without controls and space
abbrev pub is_graphic : ℕ → Bool
is_graphic b = nat_le 33 b && nat_le b 126

-- an item: a word of 1 to 32 bytes, each from 0x21 to 0x7e
abbrev pub is_item : Bytes → Bool
is_item word = len_is_1_to 32 word && list_all is_graphic word

-- `ring power N` or `ring exact N`, by the words after `ring`
abbrev pub sized_of : Bytes → List Bytes → Option Command
sized_of word (n ∷ []) =
    if bytes_eq word (codes "power") then option_map Power (number_of n)
    else (if bytes_eq word (codes "exact") then option_map Exact (number_of n) else None)
sized_of word _ = None

-- `put HOW ITEM..`, by the words after `put`
abbrev pub put_of : Bytes → List Bytes → Option Command
put_of word items = if list_all is_item items then option_map Put (how_of word) else None

abbrev pub take_by : Option How → Option ℕ → Option Command
take_by (Some how) (Some n) = Some (Take how n)
take_by _ _ = None

-- `take HOW N`, by the words after `take`
abbrev pub take_of : Bytes → List Bytes → Option Command
take_of word (n ∷ []) = take_by (how_of word) (number_of n)
take_of word _ = None

-- a command of two words or more
abbrev pub longer_of : Bytes → Bytes → List Bytes → Option Command
longer_of verb second rest =
    if bytes_eq verb (codes "ring") then sized_of second rest
    else (if bytes_eq verb (codes "put") then put_of second rest
    else (if bytes_eq verb (codes "take") then take_of second rest else None))

-- the command of a line with these words, if it has one of the forms
--   ring power N    ring exact N    put HOW ITEM..    take HOW N    count
abbrev pub command_of : List Bytes → Option Command
command_of [] = None
command_of (verb ∷ []) = if bytes_eq verb (codes "count") then Some Count else None
command_of (verb ∷ second ∷ rest) = longer_of verb second rest

-- the items that a `put` names: the words after the first two
abbrev pub items_named : List Bytes → List Bytes
items_named words = drop 2 words
