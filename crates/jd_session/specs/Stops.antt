-- The stops that faults make, and the ends that stops make.
use Rattle.jd_world.specs.declared.fabric.FabricFault.{FabricFault}
use Rattle.jd_world.specs.declared.fabric.FabricFault.TheVariants as fault
use Rattle.jd_node.specs.declared.fault.NodeFault.{NodeFault}
use Rattle.jd_node.specs.declared.fault.NodeFault.TheVariants as node
use Rattle.jd_session.specs.declared.stop.End.{End}
use Rattle.jd_session.specs.declared.stop.End.TheVariants as end
use Rattle.jd_session.specs.declared.stop.Stop.{Stop}
use Rattle.jd_session.specs.declared.stop.Stop.TheVariants.{Write, Fabric, Limit, OutOfMemory}

abbrev pub stopped_by : FabricFault → Stop
stopped_by fault.Failed = Fabric
stopped_by fault.Limit = Limit
stopped_by fault.OutOfMemory = OutOfMemory

abbrev pub stopped_by_node : NodeFault → Stop
stopped_by_node node.Limit = Limit
stopped_by_node node.OutOfMemory = OutOfMemory

abbrev pub ended_by : Stop → End
ended_by Write = end.Write
ended_by Fabric = end.Fabric
ended_by Limit = end.Limit
ended_by OutOfMemory = end.OutOfMemory
