use Rattle.dsql_engine_effects.proofs.OnceKept.{rows_once_heard, rows_once_entered, rows_once_at_end}
use Rattle.dsql_engine_effects.proofs.laws.rows_stay_made_once.Goals as goal

pub returns-clause-heard : goal.returns-clause-heard
returns-clause-heard c = rows_once_heard

pub returns-clause-entered : goal.returns-clause-entered
returns-clause-entered c = rows_once_entered

pub returns-clause-ended : goal.returns-clause-ended
returns-clause-ended c = rows_once_at_end
