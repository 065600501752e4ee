-- Numbers that are all allowed.
use Rattle.settings.specs.declared.key.Key.TheVariants.{Buffers, Headroom, Room, Cache, Burst, Ring, Bits, Groups}
use Rattle.settings.specs.declared.numbers.Numbers.{Numbers}
use Rattle.settings.specs.Keys.{Allows}

pub record AreAllowed (numbers : Numbers) : Type 0 where
  pub buffers : Allows Buffers numbers.buffers
  pub headroom : Allows Headroom numbers.headroom
  pub room : Allows Room numbers.room
  pub cache : Allows Cache numbers.cache
  pub burst : Allows Burst numbers.burst
  pub ring : Allows Ring numbers.ring
  pub bits : Allows Bits numbers.bits
  pub groups : Allows Groups numbers.groups
