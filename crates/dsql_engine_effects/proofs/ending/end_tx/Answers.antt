use Rattle.dsql_engine_effects.proofs.EndedRows.{calls_then, rows_then}
use Rattle.dsql_engine_effects.proofs.ending.end_tx.Goals as goal

pub returns-in-Some-clause-calls : goal.returns-in-Some-clause-calls
returns-in-Some-clause-calls c =
    rw c.in-Some.is
    (calls_then c.in-Some.it c.args.call c.args.txs.now.txs c.args.rows.now.rows c.end_alone-ended.result c.args.calls.now.items c.note_tx_end.new.calls.items _ c.end_alone-ended.ensures.ended c.note_tx_end.ensures.items c.end_rows_in.ensures.calls)

pub returns-in-Some-clause-rows : goal.returns-in-Some-clause-rows
returns-in-Some-clause-rows c =
    rw c.in-Some.is (rows_then c.in-Some.it c.args.call c.args.rows.now.rows c.end_alone-ended.result c.args.calls.now.items c.note_tx_end.new.calls.items _ c.note_tx_end.ensures.items c.end_rows_in.ensures.rows)
