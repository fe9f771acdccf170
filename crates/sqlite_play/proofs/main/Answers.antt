-- The program's wires may move to another thread, as the driver shows of its wires.
use denote.Param.Send.{sendable}
use Rattle.sqlite_driver.proofs.Crossing.{SqliteWire-send}
use Rattle.sqlite_play.proofs.main.Goals as goal

pub sqlrun-status-requires-send-F-Wire : goal.sqlrun-status-requires-send-F-Wire
sqlrun-status-requires-send-F-Wire g c κs = search (sendable, SqliteWire-send) depth 20
