-- The program's wires may move to another thread, as the driver shows of its wires.
use denote.Param.Send.{sendable}
use Rattle.dsql_mem.proofs.Crossing.{MemWire-send}
use Rattle.sqlrun.proofs.main.Goals as goal

pub sqlrun-status-requires-send-F-Wire : goal.sqlrun-status-requires-send-F-Wire
sqlrun-status-requires-send-F-Wire g c κs = search (sendable, MemWire-send) depth 20
