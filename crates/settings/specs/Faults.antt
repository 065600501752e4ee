-- Faults: their numbers, and the result of a function that may run out of memory, compared with a definition.
use Rattle.std.specs.Prelude.{◌≡◌, ℕ, List, [], ◌∷◌, Option, ok_or, Result, Ok, Err}
use Rattle.settings.specs.declared.fault.SettingsFault.{SettingsFault}
use Rattle.settings.specs.declared.fault.SettingsFault.TheVariants.{NotToml, Missing, BadValue, BadRoute, TooFewBuffers}
use Rattle.settings.specs.declared.fault.SettingsFault.TheVariants.{Memory}

abbrev pub number_of : SettingsFault → ℕ
number_of NotToml = 1
number_of (Missing key) = 2
number_of (BadValue key) = 3
number_of (BadRoute n) = 4
number_of TooFewBuffers = 5
number_of Memory = 6

infixl 10 ◌>>=◌
abbrev pub ◌>>=◌ : {A B : Type 0} → Result A SettingsFault → (A → Result B SettingsFault) → Result B SettingsFault
(Ok x) >>= f = f x
(Err fault) >>= f = Err fault

-- the fault is the one that a definition gives, unless memory ran out
abbrev pub Fails : {B : Type 0} → SettingsFault → Result B SettingsFault → Type 0
Fails NotToml read = read ≡ Err NotToml
Fails (Missing key) read = read ≡ Err (Missing key)
Fails (BadValue key) read = read ≡ Err (BadValue key)
Fails (BadRoute n) read = read ≡ Err (BadRoute n)
Fails TooFewBuffers read = read ≡ Err TooFewBuffers
Fails Memory read = Unit {0}

-- the result, seen by `shown`, is what a definition gives, unless memory ran out
abbrev pub Gives : {A B : Type 0} → (A → B) → Result A SettingsFault → Result B SettingsFault → Type 0
Gives shown (Ok x) read = read ≡ Ok (shown x)
Gives shown (Err fault) read = Fails fault read

-- a value, or the fault
abbrev pub value_or : {A : Type 0} → SettingsFault → Option A → Result A SettingsFault
value_or fault o = ok_or o fault

-- the results of f for each element, or its first fault
abbrev pub each_ok : {A B : Type 0} → (A → Result B SettingsFault) → List A → Result (List B) SettingsFault
each_ok f [] = Ok []
each_ok f (x ∷ xs) = do
  y ← f x
  ys ← each_ok f xs
  Ok (y ∷ ys)
