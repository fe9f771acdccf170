use Rattle.dsql_engine_lines.proofs.OverRows.{to_end, to_tidy}
use Rattle.dsql_engine_lines.proofs.carried.what_ends_and_what_tidies_up_has_no_statement.Goals as goal

pub returns-clause-ending : goal.returns-clause-ending
returns-clause-ending c = to_end

pub returns-clause-tidying : goal.returns-clause-tidying
returns-clause-tidying c = to_tidy
