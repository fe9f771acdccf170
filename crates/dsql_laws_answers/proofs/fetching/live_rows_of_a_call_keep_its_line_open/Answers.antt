use Rattle.dsql_laws_answers.proofs.OwnRows.{own_live_line}
use Rattle.dsql_laws_answers.proofs.fetching.live_rows_of_a_call_keep_its_line_open.Goals as goal

pub returns : goal.returns
returns c = own_live_line
