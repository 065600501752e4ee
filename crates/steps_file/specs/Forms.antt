-- The forms of the lines of a steps file
use Rattle.std.specs.Prelude.{ℕ, ◌==◌, nat_le, Bool, true, false, List, [], ◌∷◌, length, Option, Some, None, Result, Ok}
use Rattle.std.specs.Prelude.{Err, if◌then◌else◌, codes}
use Rattle.std.specs.Option.{option_map}
use Rattle.std.specs.List.{slice_split}
use Rattle.std.specs.Str.{bytes_eq}
use Rattle.geom.specs.Extent.{Extent}
use Rattle.geom.specs.Sizes.{power_gives, exact_gives}
use Rattle.geom.specs.declared.geometry.GeomFault.{GeomFault}
use Rattle.geom.specs.declared.plan.How.{How}
use Rattle.geom.specs.declared.plan.Mode.{Mode}
use Rattle.geom.specs.declared.plan.Mode.TheVariants.{Multi, Hts}
use Rattle.geom.specs.declared.plan.Side.{Side}
use Rattle.geom.specs.declared.plan.Side.TheVariants.{Put, Take}
use Rattle.geom.specs.declared.plan.RingPlan.{RingPlan}
use Rattle.ringcore_laws.specs.declared.contents.Item.{Item}
use Rattle.ringcore_laws.specs.declared.contents.Item.TheVariants.{Word, Buffers}
use Rattle.ringcore_laws.specs.declared.protocol.Step.{Step}
use Rattle.ringcore_laws.specs.declared.protocol.Step.TheVariants.{Look, Room, Reserve, SettlePut, SettleTake, Stash}
use Rattle.ringcore_laws.specs.declared.protocol.Step.TheVariants.{Unstash}
use Rattle.command_file.specs.Text.{Bytes, number_of}
use Rattle.command_file.specs.Hows.{how_of}
use Rattle.steps_file.specs.declared.command.PlanLine.{PlanLine}
use Rattle.steps_file.specs.declared.command.PlanLine.TheVariants.{Ring, Actors, Give}
use Rattle.steps_file.specs.declared.command.Command.{Command}
use Rattle.steps_file.specs.declared.command.Command.TheVariants.{Plan, Act, Ask}

-- 1. Words

-- `multi` or `hts`
abbrev pub mode_named : Bytes → Option Mode
mode_named word =
    if bytes_eq word (codes "multi") then Some Multi else (if bytes_eq word (codes "hts") then Some Hts else None)

-- `put` or `take`
abbrev pub side_named : Bytes → Option Side
side_named word =
    if bytes_eq word (codes "put") then Some Put else (if bytes_eq word (codes "take") then Some Take else None)

-- the results of f for each word, if it has one for all of them
abbrev pub with_first : {A : Type 0} → Option A → Option (List A) → Option (List A)
with_first (Some x) (Some xs) = Some (x ∷ xs)
with_first _ _ = None

abbrev pub each_of : {A : Type 0} → (Bytes → Option A) → List Bytes → Option (List A)
each_of f [] = Some []
each_of f (word ∷ words) = with_first (f word) (each_of f words)

-- `N+M+..`: the numbers between the signs, up to 64
abbrev pub signs_part : Bytes → List Bytes
signs_part digits = slice_split (λ b. b == 43) digits

abbrev pub buffers_of : Bytes → Option Item
buffers_of digits =
    if nat_le (length (signs_part digits)) 64 then option_map Buffers (each_of number_of (signs_part digits))
    else None

-- an item: `xN` is a word, `bN+M+..` carries these buffers
abbrev pub item_of : Bytes → Option Item
item_of [] = None
item_of (b ∷ digits) =
    if b == 120 then option_map Word (number_of digits)
    else (if b == 98 then buffers_of digits else None)

-- 2. Plan lines

abbrev pub accepted : Result Extent GeomFault → Option Extent
accepted (Ok e) = Some e
accepted (Err fault) = None

abbrev pub geometry_for : Bytes → Option ℕ → Option Extent
geometry_for word None = None
geometry_for word (Some n) =
    if bytes_eq word (codes "power") then accepted (power_gives n)
    else (if bytes_eq word (codes "exact") then accepted (exact_gives n) else None)

abbrev pub ring_with : Extent → Bool → Option Mode → Option Mode → Option RingPlan
ring_with e free (Some put) (Some take) = Some record { geometry = e; put = put; take = take; free = free }
ring_with e free _ _ = None

-- `MODE` for both sides or one for the put side and one for the take side, and then optionally `free`
abbrev pub ring_by : Extent → List Bytes → Option RingPlan
ring_by e [] = None
ring_by e (mode ∷ []) = ring_with e false (mode_named mode) (mode_named mode)
ring_by e (mode ∷ second ∷ []) =
    if bytes_eq second (codes "free") then ring_with e true (mode_named mode) (mode_named mode)
    else ring_with e false (mode_named mode) (mode_named second)
ring_by e (put ∷ take ∷ last ∷ []) =
    if bytes_eq last (codes "free") then ring_with e true (mode_named put) (mode_named take) else None
ring_by e _ = None

abbrev pub ring_of : Option Extent → List Bytes → Option PlanLine
ring_of None words = None
ring_of (Some e) words = option_map Ring (ring_by e words)

-- `ring power N MODE..` or `ring exact N MODE..`, by the words after `ring`; an invalid size has no form
abbrev pub ring_line : List Bytes → Option PlanLine
ring_line (kind ∷ n ∷ modes) = ring_of (geometry_for kind (number_of n)) modes
ring_line _ = None

-- `actors N`, by the words after `actors`
abbrev pub actors_line : List Bytes → Option PlanLine
actors_line (n ∷ []) = option_map Actors (number_of n)
actors_line _ = None

abbrev pub give_by : Option ℕ → Option (List ℕ) → Option PlanLine
give_by (Some actor) (Some buffers) = Some (Give actor buffers)
give_by _ _ = None

-- `give A B..`, by the words after `give`; there is at least one buffer
abbrev pub give_line : List Bytes → Option PlanLine
give_line [] = None
give_line (actor ∷ buffers) =
    if length buffers == 0 then None else give_by (number_of actor) (each_of number_of buffers)

-- 3. Step lines

abbrev pub look_by : Option ℕ → Option Side → Option Step
look_by (Some ring) (Some side) = Some (Look ring side)
look_by _ _ = None

abbrev pub room_by : Option ℕ → Option Side → Option Step
room_by (Some ring) (Some side) = Some (Room ring side)
room_by _ _ = None

abbrev pub reserve_by : Option ℕ → Option Side → Option How → Option ℕ → Option Step
reserve_by (Some ring) (Some side) (Some how) (Some n) = Some (Reserve ring side how n)
reserve_by _ _ _ _ = None

abbrev pub settle_put_by : Option ℕ → Option (List Item) → Option Step
settle_put_by (Some ring) (Some items) = Some (SettlePut ring items)
settle_put_by _ _ = None

abbrev pub settle_take_by : Option ℕ → Option ℕ → Option Step
settle_take_by (Some ring) (Some n) = Some (SettleTake ring n)
settle_take_by _ _ = None

-- `R SIDE`
abbrev pub look_of : List Bytes → Option Step
look_of (ring ∷ side ∷ []) = look_by (number_of ring) (side_named side)
look_of _ = None

abbrev pub room_of : List Bytes → Option Step
room_of (ring ∷ side ∷ []) = room_by (number_of ring) (side_named side)
room_of _ = None

-- `R SIDE HOW N`
abbrev pub reserve_of : List Bytes → Option Step
reserve_of (ring ∷ side ∷ how ∷ n ∷ []) =
    reserve_by (number_of ring) (side_named side) (how_of how) (number_of n)
reserve_of _ = None

-- one number
abbrev pub only_number : List Bytes → Option ℕ
only_number (n ∷ []) = number_of n
only_number _ = None

-- `R put ITEM..` or `R take N`
abbrev pub settle_of : List Bytes → Option Step
settle_of (ring ∷ side ∷ rest) =
    if bytes_eq side (codes "put") then settle_put_by (number_of ring) (each_of item_of rest)
    else (if bytes_eq side (codes "take") then settle_take_by (number_of ring) (only_number rest) else None)
settle_of _ = None

-- the local steps
abbrev pub local_of : Bytes → List Bytes → Option Step
local_of verb rest =
    if bytes_eq verb (codes "stash") then option_map Stash (only_number rest)
    else (if bytes_eq verb (codes "unstash") then option_map Unstash (only_number rest) else None)

-- the steps on a span, and the local ones
abbrev pub span_step_of : Bytes → List Bytes → Option Step
span_step_of verb rest =
    if bytes_eq verb (codes "reserve") then reserve_of rest
    else (if bytes_eq verb (codes "settle") then settle_of rest else local_of verb rest)

-- the step in a verb and the words after it
abbrev pub step_of : Bytes → List Bytes → Option Step
step_of verb rest =
    if bytes_eq verb (codes "look") then look_of rest
    else (if bytes_eq verb (codes "room") then room_of rest else span_step_of verb rest)

abbrev pub act_by : Option ℕ → Option Step → Option Command
act_by (Some actor) (Some step) = Some (Act actor step)
act_by _ _ = None

-- `A VERB ..`
abbrev pub act_of : Bytes → List Bytes → Option Command
act_of actor [] = None
act_of actor (verb ∷ rest) = act_by (number_of actor) (step_of verb rest)

-- lines of an actor, and `place B`
abbrev pub actor_form_of : Bytes → List Bytes → Option Command
actor_form_of first rest =
    if bytes_eq first (codes "give") then option_map Plan (give_line rest)
    else (if bytes_eq first (codes "place") then option_map Ask (only_number rest) else act_of first rest)

-- the command of a line with these words, if they have one of the forms
--   ring KIND N MODE [MODE] [free]    actors N    give A B..
--   A look R SIDE    A room R SIDE    A reserve R SIDE HOW N    A settle R put ITEM..    A settle R take N
--   A stash B    A unstash B    place B
abbrev pub form_of : List Bytes → Option Command
form_of [] = None
form_of (first ∷ rest) =
    if bytes_eq first (codes "ring") then option_map Plan (ring_line rest)
    else (if bytes_eq first (codes "actors") then option_map Plan (actors_line rest) else actor_form_of first rest)
