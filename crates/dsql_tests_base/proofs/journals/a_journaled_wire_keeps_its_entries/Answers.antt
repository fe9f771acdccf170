-- The wire may move to another thread, as its crate shows.
use denote.Param.Send.{sendable}
use Rattle.dsql_mem.proofs.Crossing.{MemWire-send}
use Rattle.dsql_tests_base.proofs.journals.a_journaled_wire_keeps_its_entries.Goals as goal

pub connect-requires-send-F-Wire : goal.connect-requires-send-F-Wire
connect-requires-send-F-Wire g c κs = search (sendable, MemWire-send) depth 20

pub shut-entries-requires-send-F-Wire : goal.shut-entries-requires-send-F-Wire
shut-entries-requires-send-F-Wire g c κs = search (sendable, MemWire-send) depth 20
