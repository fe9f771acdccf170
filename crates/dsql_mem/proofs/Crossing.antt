-- A wire may move to another thread. Each of its parts may, and the toolchain shows that of one part after the other.
use denote.RattleType.{RattleType}
use denote.Param.Send.{IsSend, sendable}
use Rattle.std.specs.declared.alloc.Global.{Global}
use Rattle.std.specs.declared.clone.Clone as Clone
use Rattle.std.specs.contracts.impls.GlobalAllocator.TheImpl.{ghosts}
use Rattle.std.proofs.Crossing.{crosses}
use Rattle.dsql_driver.proofs.wire.Planned.TheSendSync as fault
use Rattle.dsql_driver_session.proofs.session.Session.TheSendSync as session
use Rattle.dsql_mem_plans.specs.contracts.roll.Roll as Roll
use Rattle.dsql_mem_plans.specs.contracts.wire_log.WireLog as WireLog
use Rattle.dsql_mem_plans.proofs.log.Log.TheSendSync as log
use Rattle.dsql_mem_plans.proofs.roll.Roll.TheLaws.TheKnot as roll
use Rattle.dsql_mem_session.proofs.undo.Undo.TheSendSync as undo
use Rattle.dsql_mem_store.proofs.store.Store.TheSendSync as store
use Rattle.dsql_mem.specs.contracts.connection.Connection as Connection
use Rattle.dsql_mem.specs.contracts.wire.MemWire as MemWire

Roll-send : IsSend Roll.the_row
Roll-send = search (sendable, crosses, roll.crosses, log.the_field_send) depth 20

WireLog-send : IsSend WireLog.the_row
WireLog-send = let r = Roll-send in search (sendable, crosses, log.the_field_send, fault.the_field_send) depth 20

Connection-send : IsSend Connection.the_row
Connection-send = let w = WireLog-send in search (sendable, session.the_send, undo.the_send) depth 20

-- A wire may move to another thread if the runtime's handle in it may.
pub MemWire-send : (R : RattleType) → (cloned : Clone.Ghosts Global) → IsSend R → IsSend (MemWire.the_row R ghosts cloned)
MemWire-send R cloned s = let c = Connection-send in search (sendable, crosses, store.the_send) depth 20
