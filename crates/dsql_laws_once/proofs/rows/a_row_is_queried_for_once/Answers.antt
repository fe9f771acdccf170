use Rattle.dsql_laws_once.proofs.Counted.{counts_once, none_counted}
use Rattle.dsql_laws_once.proofs.Few.{all_count}
use Rattle.dsql_laws_once.proofs.rows.a_row_is_queried_for_once.Goals as goal

pub returns-clause-once : goal.returns-clause-once
returns-clause-once c = counts_once

pub returns-clause-again : goal.returns-clause-again
returns-clause-again c = none_counted

pub returns-clause-all : goal.returns-clause-all
returns-clause-all c = all_count
