-- Worked rows of the faults of a run, computed by the definitions.
use Rattle.std.proofs.Common.{◌≡◌, ℕ, List, [], ◌∷◌, map, refl}
use Rattle.pcapio.specs.declared.counted.Counted.{Counted}
use Rattle.pcapio_laws.specs.declared.fault.CapFault.{CapFault}
use Rattle.run_one.specs.declared.fault.RunFault.TheVariants.{Memory, Thread, Read, Write, Capture, Window, Worn}
use Rattle.run_one.specs.Failing.{HidesNoPort}
use Rattle.run_one.specs.Faults.{number_of, lowest_of, fault_of_input}

numbers : map number_of (Memory ∷ Thread ∷ Read ∷ Write 9 ∷ Capture CapFault.NotPcap ∷ Window ∷ Worn ∷ []) ≡ 1 ∷ 2 ∷ 3 ∷ 4 ∷ 5 ∷ 6 ∷ 7 ∷ []
numbers = refl

-- together with the fault of port 9
beside_a_port : map (lowest_of 9) (Memory ∷ Thread ∷ Read ∷ Capture CapFault.BadRecord ∷ Window ∷ Worn ∷ [])
    ≡ Memory ∷ Thread ∷ Read ∷ Write 9 ∷ Write 9 ∷ Write 9 ∷ []
beside_a_port = refl

of_inputs : map fault_of_input (CapFault.NotPcap ∷ CapFault.BadVersion ∷ CapFault.BadLink ∷ CapFault.BadRecord ∷ CapFault.Read ∷ CapFault.Memory ∷ [])
    ≡ Capture CapFault.NotPcap ∷ Capture CapFault.BadVersion ∷ Capture CapFault.BadLink ∷ Capture CapFault.BadRecord ∷ Read ∷ Memory ∷ []
of_inputs = refl

-- the only port of a run, whose device failed so often
abbrev port : ℕ → List (Counted (Unit {0}))
port failures = record { device = tt; failures = failures } ∷ []

-- a fault of memory may hide that a port failed, and one of the window may not
hidden : HidesNoPort (0 ∷ []) (port 1) Memory
hidden = tt

not_hidden : HidesNoPort (0 ∷ []) (port 1) Window → ⊥
not_hidden none = let e : 1 ≡ 0 = none 0 (record { device = tt; failures = 1 }) 0 refl refl in absurd (cc e)
