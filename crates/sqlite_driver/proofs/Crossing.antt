-- A wire may move to another thread. Each of its parts may, and the toolchain shows that of all parts except a file's
-- record of calls. That record is for proofs alone and owns nothing.
use denote.RattleType.{RattleType}
use denote.Param.Send.{IsSend, owning_send, sendable}
use Rattle.std.specs.declared.alloc.Global.{Global}
use Rattle.std.specs.declared.clone.Clone as Clone
use Rattle.std.specs.contracts.impls.GlobalAllocator.TheImpl.{ghosts}
use Rattle.std.proofs.Crossing.{crosses}
use Rattle.std.proofs.fs.File.TheSendSync as opened
use Rattle.sqlite_std_file.specs.contracts.record.Record as Record
use Rattle.sqlite_std_file.specs.contracts.host.Host as Host
use Rattle.sqlite_disk.proofs.modelled.Modelled.TheSendSync as modelled
use Rattle.sqlite_store.proofs.store.FileStore.TheSendSync as stored
use Rattle.sqlite_trees.proofs.memory.MemStore.TheSendSync as kept
use Rattle.sqlite.proofs.connection.Connection.TheSendSync as connected
use Rattle.sqlite_driver.specs.contracts.connection.SqliteConnection as SqliteConnection
use Rattle.sqlite_driver.specs.contracts.database.Database as Database
use Rattle.dsql_driver_session.proofs.session.Session.TheSendSync as session
use Rattle.dsql_driver.proofs.wire.Planned.TheSendSync as fault
use Rattle.dsql_mem_plans.specs.contracts.roll.Roll as Roll
use Rattle.dsql_mem_plans.specs.contracts.wire_log.WireLog as WireLog
use Rattle.dsql_mem_plans.proofs.log.Log.TheSendSync as log
use Rattle.dsql_mem_plans.proofs.roll.Roll.TheLaws.TheKnot as roll
use Rattle.sqlite_driver.specs.contracts.planned_session.PlannedSession as PlannedSession
use Rattle.sqlite_driver.specs.contracts.wire.SqliteWire as SqliteWire

Record-send : IsSend Record.the_row
Record-send = owning_send Record.the_type (search sendable, tt) (λ d. tt) (λ k x w. tt)

Host-send : IsSend Host.the_row
Host-send = search (sendable, opened.the_field_send, Record-send) depth 20

SqliteConnection-send : IsSend SqliteConnection.the_field.row
SqliteConnection-send = search (sendable, connected.the_send, stored.the_send, modelled.the_send, kept.the_send, Host-send) depth 20

Database-send : IsSend Database.the_row
Database-send = let c = SqliteConnection-send in search sendable depth 20

Roll-send : IsSend Roll.the_row
Roll-send = search (sendable, crosses, roll.crosses, log.the_field_send) depth 20

WireLog-send : IsSend WireLog.the_row
WireLog-send = let r = Roll-send in search (sendable, crosses, log.the_field_send, fault.the_field_send) depth 20

PlannedSession-send : IsSend PlannedSession.the_row
PlannedSession-send = let s = session.the_send in let w = WireLog-send in search sendable depth 20

-- A wire may move to another thread if the runtime's handle in it may.
pub SqliteWire-send : (R : RattleType) → (cloned : Clone.Ghosts Global) → IsSend R → IsSend (SqliteWire.the_row R ghosts cloned)
SqliteWire-send R cloned s = let d = Database-send in let p = PlannedSession-send in search (sendable, crosses) depth 20
