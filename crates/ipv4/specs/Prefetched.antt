-- Lookups that are made before their frames are judged.
use Rattle.std.specs.Prelude.{◌≡◌, map}
use Rattle.lpm.specs.Prefixes.{Members}
use Rattle.lpm.specs.Match.{lookup_in}
use Rattle.ipv4.specs.declared.prefetched.Lookups.{Lookups}
use Rattle.ipv4.specs.declared.prefetched.Prefetched.{Prefetched}

-- the lookup returned what the table says of the address
abbrev pub IsPrefetched : Members → Prefetched → Type 0
IsPrefetched routes earlier = earlier.hop ≡ lookup_in routes earlier.address

-- the lookups returned what the table says of the addresses
abbrev pub AreLookedUp : Members → Lookups → Type 0
AreLookedUp routes lookups = lookups.hops ≡ map (lookup_in routes) lookups.addresses
