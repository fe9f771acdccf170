use Rattle.dsql_laws_others.proofs.ClosedRows.{goes_on_closing, used_closing}
use Rattle.dsql_laws_others.proofs.closed_rows.closing_rows_touches_no_other_call.Goals as goal

pub returns-clause-others : goal.returns-clause-others
returns-clause-others c = goes_on_closing

pub returns-clause-used : goal.returns-clause-used
returns-clause-used c = used_closing
