-- The faults of the route table among those of the writer.
use Rattle.lpm.specs.declared.fault.RouteFault.{RouteFault}
use Rattle.lpm.specs.declared.fault.RouteFault.TheVariants as table
use Rattle.live_routes.specs.declared.fault.LiveFault.{LiveFault}
use Rattle.live_routes.specs.declared.fault.LiveFault.TheVariants as live

abbrev pub fault_of : RouteFault → LiveFault
fault_of table.BadDepth = live.BadDepth
fault_of table.BadHop = live.BadHop
fault_of table.NoGroup = live.NoGroup
fault_of table.Memory = live.Memory
fault_of table.NoRoute = live.NoRoute
