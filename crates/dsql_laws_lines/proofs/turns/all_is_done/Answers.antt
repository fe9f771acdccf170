use Rattle.dsql_laws_lines.proofs.WhoseTurn.{all_done, all_done_then}
use Rattle.dsql_laws_lines.proofs.turns.all_is_done.Goals as goal

pub returns-clause-each : goal.returns-clause-each
returns-clause-each c = all_done

pub returns-clause-out : goal.returns-clause-out
returns-clause-out c = all_done_then
