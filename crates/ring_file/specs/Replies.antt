-- The replies to the commands of a ring file
use Rattle.std.specs.Prelude.{ℕ, ◌-◌, List, [], ◌∷◌, ◌++◌, length, take, drop, Option, Some, None, Result, Ok, Err}
use Rattle.std.specs.Prelude.{codes, decimal, is_some}
use Rattle.std.specs.Borrow.{Bor}
use Rattle.std.specs.Option.{option_map}
use Rattle.std.specs.List.{flat_map}
use Rattle.geom.specs.Extent.{Extent}
use Rattle.geom.specs.Sizes.{power_gives, exact_gives}
use Rattle.geom.specs.Plan.{granted}
use Rattle.geom.specs.declared.plan.How.{How}
use Rattle.geom.specs.declared.geometry.GeomFault.{GeomFault}
use Rattle.geom.specs.declared.geometry.GeomFault.TheVariants.{NotPower, TooSmall, TooLarge}
use Rattle.ringcore.specs.Fifo.{Fifo}
use Rattle.command_file.specs.Text.{Bytes, texts}
use Rattle.command_file.specs.Files.{Kind}
use Rattle.ring_file.specs.Commands.{command_of, items_named}
use Rattle.ring_file.specs.declared.command.Command.{Command}
use Rattle.ring_file.specs.declared.command.Command.TheVariants.{Power, Exact, Put, Take, Count}

-- the current ring, if there is one
abbrev pub RingState : Type 0
RingState = Option (Fifo Bytes)

-- a ring that holds words of the file, as the ring of these words
abbrev pub ring_contents : Fifo (Bor Bytes) → Fifo Bytes
ring_contents ring = record { capacity = ring.capacity; items = texts ring.items }

abbrev pub contents : Option (Fifo (Bor Bytes)) → RingState
contents ring = option_map ring_contents ring

-- a new ring if the size is valid; otherwise the previous ring stays
abbrev pub made : Result Extent GeomFault → RingState → RingState
made (Ok e) state = Some record { capacity = e.capacity; items = [] }
made (Err fault) state = state

-- how many items a put or a take moves
abbrev pub put_count : Fifo Bytes → How → List Bytes → ℕ
put_count ring how items = granted how (length items) (ring.capacity - length ring.items)

abbrev pub take_count : Fifo Bytes → How → ℕ → ℕ
take_count ring how n = granted how n (length ring.items)

abbrev pub after_put : Fifo Bytes → How → List Bytes → Fifo Bytes
after_put ring how items = record ring { items = ring.items ++ take (put_count ring how items) items }

abbrev pub after_take : Fifo Bytes → How → ℕ → Fifo Bytes
after_take ring how n = record ring { items = drop (take_count ring how n) ring.items }

-- the ring after a command, with the items that the command names
abbrev pub ring_past : RingState → Command → List Bytes → RingState
ring_past state (Power n) items = made (power_gives n) state
ring_past state (Exact n) items = made (exact_gives n) state
ring_past (Some ring) (Put how) items = Some (after_put ring how items)
ring_past (Some ring) (Take how n) items = Some (after_take ring how n)
ring_past (Some ring) Count items = Some ring
ring_past None command items = None

abbrev pub made_text : Result Extent GeomFault → Bytes
made_text (Ok e) = codes "ring size " ++ decimal e.size ++ codes " capacity " ++ decimal e.capacity
made_text (Err NotPower) = codes "refused 1 NotPower"
made_text (Err TooSmall) = codes "refused 2 TooSmall"
made_text (Err TooLarge) = codes "refused 3 TooLarge"

-- items, each after a space
abbrev pub words_text : List Bytes → Bytes
words_text items = flat_map (λ item. 32 ∷ item) items

abbrev pub put_text : Fifo Bytes → How → List Bytes → Bytes
put_text ring how items =
    codes "put " ++ decimal (put_count ring how items) ++ codes " left "
    ++ decimal (ring.capacity - length (after_put ring how items).items)

abbrev pub take_text : Fifo Bytes → How → ℕ → Bytes
take_text ring how n =
    codes "take " ++ decimal (take_count ring how n) ++ codes " left "
    ++ decimal (length (after_take ring how n).items)
    ++ words_text (take (take_count ring how n) ring.items)

abbrev pub count_text : Fifo Bytes → Bytes
count_text ring =
    codes "count " ++ decimal (length ring.items) ++ codes " free " ++ decimal (ring.capacity - length ring.items)

-- the reply to a command, without its end of line
abbrev pub command_text : RingState → Command → List Bytes → Bytes
command_text state (Power n) items = made_text (power_gives n)
command_text state (Exact n) items = made_text (exact_gives n)
command_text (Some ring) (Put how) items = put_text ring how items
command_text (Some ring) (Take how n) items = take_text ring how n
command_text (Some ring) Count items = count_text ring
command_text None command items = codes "no ring"

-- what a line with these words adds to the replies, and the state after it
abbrev pub told : RingState → List Bytes → Option Command → Bytes
told state words (Some command) = command_text state command (items_named words) ++ codes "\n"
told state words None = []

abbrev pub done : RingState → List Bytes → Option Command → RingState
done state words (Some command) = ring_past state command (items_named words)
done state words None = state

-- how a ring file is answered: a line is allowed if it has the form of a command
abbrev pub ring_file : Kind RingState
ring_file =
    record {
      opening = None;
      admits = λ state words. is_some (command_of words);
      answer = λ state words. told state words (command_of words);
      follow = λ state words. done state words (command_of words);
    }
