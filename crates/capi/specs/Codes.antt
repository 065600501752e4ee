-- The numbers that calls return to C
use Rattle.std.specs.Prelude.{◌≡◌, ℕ, ℤ, pos, neg_ℤ, Result, Ok, Err}
use Rattle.capi.specs.declared.rings.fault.Fault.{Fault}
use Rattle.capi.specs.declared.rings.fault.Fault.TheVariants as fault

-- a fault's number
abbrev pub number_of : Fault → ℕ
number_of fault.NoRoom = 1
number_of fault.Again = 2
number_of fault.Pending = 3
number_of fault.Open = 4
number_of fault.NotOpen = 5
number_of fault.Ring = 6
number_of fault.Count = 7
number_of fault.Mode = 8
number_of fault.Empty = 9
number_of fault.Kind = 10
number_of fault.Used = 11
number_of fault.Shared = 12
number_of fault.Memory = 13
number_of fault.Plan = 14
number_of fault.Worn = 15
number_of fault.Parts = 16
number_of fault.NotYours = 17
number_of fault.Depth = 20
number_of fault.Hop = 21
number_of fault.Groups = 22
number_of fault.NoRoute = 23
number_of fault.Late = 24
number_of fault.Early = 25
number_of fault.Double = 26

-- what a call returns
abbrev pub Outcome : Type 0
Outcome = Result ℕ Fault

-- the count, or the fault's number below 0
abbrev pub code_of : Outcome → ℤ
code_of (Ok count) = pos count
code_of (Err why) = neg_ℤ (pos (number_of why))

-- the code is that of this outcome
abbrev pub Answers : ℤ → (Outcome → Type 0) → Type 0
Answers code holds = (outcome : Outcome) × (code ≡ code_of outcome) × holds outcome
