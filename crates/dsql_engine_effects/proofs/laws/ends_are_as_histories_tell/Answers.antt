use Rattle.dsql_engine_effects.proofs.AsEntered.{rows_end_as, rows_end_at_last, txs_end_as}
use Rattle.dsql_engine_effects.proofs.laws.ends_are_as_histories_tell.Goals as goal

pub returns-clause-rows : goal.returns-clause-rows
returns-clause-rows c = rows_end_as

pub returns-clause-transactions : goal.returns-clause-transactions
returns-clause-transactions c = txs_end_as

pub returns-clause-run : goal.returns-clause-run
returns-clause-run c = rows_end_at_last
