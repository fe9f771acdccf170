use Rattle.dsql_engine_lines.proofs.OverRows.{over_rows}
use Rattle.dsql_engine_lines.proofs.carried.what_is_sent_over_rows_has_no_statement.Goals as goal

pub returns : goal.returns
returns c = over_rows
