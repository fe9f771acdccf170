use Rattle.std.proofs.Common.{◌≡◌, ◌≢◌, ap, sym, ◌∙◌, Option}
use Rattle.std.specs.Prelude.{IfOk, OnOk, Result, Ok, Err}
use Rattle.dsql_history.specs.scan.Rows.{RowScan, row_of}
use Rattle.dsql_history.specs.scan.declared.fault.RowFault.{RowFault}
use Rattle.dsql_history.specs.scan.declared.fault.RowFault.TheVariants.{Memory}
use Rattle.dsql_history.specs.declared.reply.Reply.{Reply}
use Rattle.dsql_history.specs.Readers.Decisions.{told_row}
use Rattle.dsql_engine_calls.specs.declared.no_room.NoRoom.{NoRoom}
use Rattle.dsql_engine_effects.proofs.deciding.row_reply.Goals as goal

fault_known : (result : Result (Option Reply) NoRoom) (fault : RowFault) (row : RowScan) → (fault ≢ Memory → row ≡ Err fault) → IfOk result (λ reply. reply ≡ told_row (Err fault)) → OnOk result (fault ≢ Memory)
    → IfOk result (λ reply. reply ≡ told_row row)
fault_known (Ok reply) fault row answer told known = told ∙ ap told_row (sym (answer known))
fault_known (Err none) fault row answer told known = tt

pub returns-in-Err : goal.returns-in-Err
returns-in-Err c =
    fault_known c.row_fault.result c.in-Err.fault (row_of c.args.values.now c.args.dests.now) (λ known. c.in-Err.ensures.answer known) c.row_fault.ensures.reply c.row_fault.ensures.memory
