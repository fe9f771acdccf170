use Rattle.dsql_laws_calls.proofs.RowsNew.{rows_new}
use Rattle.dsql_laws_calls.proofs.RowsKept.{rows_keep, rows_fetched}
use Rattle.dsql_laws_calls.proofs.sendings.rows_of_lawful_histories.Goals as goal

pub returns-clause-new : goal.returns-clause-new
returns-clause-new c = rows_new

pub returns-clause-fetched : goal.returns-clause-fetched
returns-clause-fetched c = rows_fetched

pub returns-clause-kept : goal.returns-clause-kept
returns-clause-kept c = rows_keep
