-- What calls on reorder windows do
use Rattle.std.specs.Prelude.{◌≡◌, ℕ, ◌<◌, ◌≤◌, ◌⊎◌, IsTrue, List, [], ◌∷◌, drop, length, take, Option, None, Some, Ok, Err}
use Rattle.std.specs.FinMap as map
use Rattle.reorder.specs.declared.fault.InsertFault.{InsertFault}
use Rattle.reorder.specs.declared.fault.InsertFault.TheVariants.{Late, Early, Double}
use Rattle.reorder.specs.Waiting.{IsFree, Waiting, after_next, empty_window, end_of, with_number}
use Rattle.capi.specs.Codes.{Outcome}
use Rattle.capi.specs.Handles.{HasWindow}
use Rattle.capi.specs.declared.object.Object.{Object}
use Rattle.capi.specs.declared.rings.fault.Fault.{Fault}
use Rattle.capi.specs.declared.rings.fault.Fault.TheVariants as fault

-- the fault for one of the window's own
abbrev pub window_fault : InsertFault → Fault
window_fault Late = fault.Late
window_fault Early = fault.Early
window_fault Double = fault.Double

-- a window that can't be, or there was no memory
abbrev pub RefusesWindow : ℕ → Fault → Type 0
RefusesWindow size why = ((why ≡ fault.Plan) × ((size ≡ 0) ⊎ (65536 < size))) ⊎ (why ≡ fault.Memory)

-- a new window is in the handle, which was empty
abbrev pub OpensWindow : Outcome → ℕ → Option Object → Option Object → Type 0
OpensWindow (Ok count) size old new =
    (count ≡ 0) × (old ≡ None) × (0 < size) × (size ≤ 65536) × HasWindow new (λ w. w ≡ empty_window size)
OpensWindow (Err why) size old new = (new ≡ old) × ((why ≡ fault.Used) ⊎ (old ≡ None) × RefusesWindow size why)

-- why a word isn't inserted
abbrev pub RefusesInsert : Waiting ℕ → ℕ → InsertFault → Type 0
RefusesInsert w number Late = number < w.next
RefusesInsert w number Early = end_of w ≤ number
RefusesInsert w number Double = IsTrue (map.contains_key w.held number)

-- the word waits under its number, or the window is as it was
abbrev pub Inserts : Outcome → ℕ → ℕ → Waiting ℕ → Waiting ℕ → Type 0
Inserts (Ok count) number word w u = (count ≡ 0) × IsFree w number × (u ≡ with_number w number word)
Inserts (Err why) number word w u =
    (u ≡ w) × (reason : InsertFault) × (why ≡ window_fault reason) × RefusesInsert w number reason

-- these words leave the window, one after the other, each in its turn
abbrev pub Leave : List ℕ → Waiting ℕ → Waiting ℕ → Type 0
Leave [] w u = u ≡ w
Leave (x ∷ xs) w u = (map.get w.held w.next ≡ Some x) × Leave xs (after_next w) u

-- the words whose turn it was are at the front of the array, and the places after them are unchanged: as many words as
-- it has places, or up to a number that hasn't arrived
abbrev pub Drains : Outcome → ℕ → List ℕ → List ℕ → Waiting ℕ → Waiting ℕ → Type 0
Drains (Ok count) most before after w u =
    (count ≤ length before) × (length after ≡ length before) × (drop count after ≡ drop count before)
    × Leave (take count after) w u × ((count ≡ length before) ⊎ (map.get u.held u.next ≡ None))
Drains (Err why) most before after w u =
    (why ≡ fault.Count) × (most < length before) × (after ≡ before) × (u ≡ w)
