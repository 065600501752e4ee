-- A bounded queue as contracts see it, and how its slots hold it
use Rattle.std.specs.Prelude.{ℕ, ◌≡◌, ◌-◌, ◌<◌, ◌≤◌, List, ◌++◌, length, take, drop, map, replicate, Option, Some, None}
use Rattle.std.specs.List.{flat_map}
use Rattle.std.specs.Option.{option_to_list}
use Rattle.geom.specs.Extent.{Extent, IsExtent}

-- its capacity, and its items, oldest first
pub record Fifo (T : Type 0) : Type 0 where
  pub capacity : ℕ
  pub items : List T

-- the slots from k on, wrapping at the end
abbrev pub slots_from : {A : Type 0} → ℕ → List A → List A
slots_from k slots = drop k slots ++ take k slots

-- the items in the slots from k on, wrapping at the end
abbrev pub queued : {T : Type 0} → ℕ → List (Option T) → List T
queued k slots = flat_map option_to_list (slots_from k slots)

-- the slots from the front on are the items, one each, and then nothing
pub record IsLaidOut {T : Type 0} (e : Extent) (slots : List (Option T)) (front count : ℕ) : Type 0 where
  pub extent : IsExtent e
  pub sized : length slots ≡ e.size
  pub within : front < e.size
  pub bounded : count ≤ e.capacity
  pub counted : length (queued front slots) ≡ count
  pub laid : slots_from front slots ≡ map Some (queued front slots) ++ replicate (e.size - count) None
