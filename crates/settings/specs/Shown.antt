-- What the values of the code represent.
use Rattle.std.specs.Prelude.{Vec}
use Rattle.std.specs.declared.alloc.Global.{Global}
use Rattle.lpm.specs.Routes.{Routes}
use Rattle.ipv4.specs.declared.Hop.{Hop}
use Rattle.ipv4.specs.declared.Ports.{Ports}
use Rattle.settings.specs.declared.numbers.Numbers.{Numbers}
use Rattle.settings.specs.Routing.{Routed}
use Rattle.settings.specs.Settings.{Content}

-- the members of a table and the hops that their numbers refer to
abbrev pub routed_in : Routes → Vec Hop Global → Routed
routed_in table hops = record { members = table.members; hops = hops.items }

-- the content with these parts
abbrev pub content_in : Numbers → Routes → Ports → Content
content_in numbers table ports =
    record { numbers = numbers; sources = ports.sources.items; routes = routed_in table ports.hops }
