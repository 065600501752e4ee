-- The tree of a text, and the values in it.
use Rattle.std.specs.Prelude.{String, ℕ, pos, ◌==◌, ◌&&◌, Bool, List, [], ◌∷◌, map, slice_index, Option, Some, None}
use Rattle.std.specs.Prelude.{option_and_then, if◌then◌else◌}
use Rattle.std.specs.Borrow.{Bor}
use Rattle.std.specs.BTreeMap.{BTreeMap}
use Rattle.std.specs.declared.alloc.Global.{Global}
use Rattle.toml.specs.Data.{Data, integer, Items, no_items, item, Members, get_member, as_str, as_table, as_array}
use Rattle.toml.specs.View.{table_view}
use Rattle.toml.specs.Parse.{parse_document}
use Rattle.toml.specs.declared.value.Value.{Value}
use Rattle.settings.specs.Lists.{each_of}
use Rattle.settings.specs.Texts.{Bytes}

infixl 10 ◌>>=◌
abbrev ◌>>=◌ : {A B : Type 0} → Option A → (A → Option B) → Option B
o >>= f = option_and_then f o

-- the text begins with a byte order mark
abbrev pub has_mark : Bytes → Bool
has_mark text = (slice_index text 0 == 0xEF && slice_index text 1 == 0xBB) && slice_index text 2 == 0xBF

-- the tree of a TOML document without a byte order mark
abbrev pub tree_of : Bytes → Option Members
tree_of text = if has_mark text then None else parse_document text

-- an integer that isn't negative
abbrev pub natural_of : Data → Option ℕ
natural_of (integer (pos n)) = Some n
natural_of _ = None

abbrev pub list_of : Items → List Data
list_of no_items = []
list_of (item d ds) = d ∷ list_of ds

-- the tables of an array of tables
abbrev pub tables_of : Data → Option (List Members)
tables_of d = do
  items ← as_array d
  each_of as_table (list_of items)

-- the text at a key
abbrev pub text_at : Bytes → Members → Option Bytes
text_at key table = do
  d ← get_member key table
  as_str d

-- what tables of the code represent
abbrev pub tables_view : List (Bor (BTreeMap (String Global) Value)) → List Members
tables_view tables = map (λ t. table_view t.now) tables
