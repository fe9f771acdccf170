use Rattle.dsql_laws_calls.proofs.lendings.ended_rows.Goals as goal
use Rattle.dsql_laws_calls.proofs.EndedRows.{ender_over, live_no_ender, unmade_no_ender}

pub returns-clause-ended : goal.returns-clause-ended
returns-clause-ended c = ender_over

pub returns-clause-live : goal.returns-clause-live
returns-clause-live c = live_no_ender

pub returns-clause-unmade : goal.returns-clause-unmade
returns-clause-unmade c = unmade_no_ender
