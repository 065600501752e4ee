-- The error numbers: the same for both kinds, so that a number means the same wherever it is printed.
use Rattle.std.specs.Prelude.{ℕ}
use Rattle.mbuf.specs.declared.fault.ChainFault.{ChainFault}
use Rattle.mbuf.specs.declared.fault.DeckFault.{DeckFault}

abbrev pub number_of : ChainFault → ℕ
number_of ChainFault.NoHeadroom = 1
number_of ChainFault.NoTailroom = 2
number_of ChainFault.TooShort = 3
number_of ChainFault.TooManySegments = 4

abbrev pub deck_number_of : DeckFault → ℕ
deck_number_of DeckFault.NoTailroom = 2
deck_number_of DeckFault.TooShort = 3
deck_number_of DeckFault.NoSuchShare = 5
deck_number_of DeckFault.Memory = 6
deck_number_of DeckFault.NoId = 7
