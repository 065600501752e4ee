-- What a change does.
use Rattle.live_routes.specs.Forwarding.{Forwarding, with_route, without_route, without_routes, with_hop, with_port}
use Rattle.live_routes.specs.declared.change.Change.{Change}
use Rattle.live_routes.specs.declared.change.Change.TheVariants.{Add, Remove, Clear, SetHop, SetPort}

abbrev pub applied : {H P : Type 0} → Forwarding H P → Change H P → Forwarding H P
applied f (Add address depth hop) = with_route f address depth hop
applied f (Remove address depth) = without_route f address depth
applied f Clear = without_routes f
applied f (SetHop number hop) = with_hop f number hop
applied f (SetPort number port) = with_port f number port
