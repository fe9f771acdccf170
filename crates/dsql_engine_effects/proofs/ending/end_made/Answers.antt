use Rattle.std.proofs.Common.{sym, ◌∙◌}
use Rattle.dsql_history.specs.rows.declared.end.RowsEnd.TheVariants.{TxEnded}
use Rattle.dsql_history.specs.rows.OpenRows.{ended_by}
use Rattle.dsql_engine_effects.proofs.EndedRows.{unmade}
use Rattle.dsql_engine_effects.proofs.ending.end_made.Goals as goal

pub returns-else-was_made-clause-rows : goal.returns-else-was_made-clause-rows
returns-else-was_made-clause-rows c = unmade (ended_by TxEnded) c.args.query c.args.rows.now.rows (sym c.was_made.ensures ∙ c.if-was_made.false)
