use Rattle.dsql_engine_lines.proofs.OfConnections.{kept_bad, kept_beginning, kept_ending, kept_made}
use Rattle.dsql_engine_lines.proofs.kept.what_is_kept_of_a_connection_is_what_was_heard_there.Goals as goal

pub returns-clause-made : goal.returns-clause-made
returns-clause-made c = kept_made

pub returns-clause-ending : goal.returns-clause-ending
returns-clause-ending c = kept_ending

pub returns-clause-bad : goal.returns-clause-bad
returns-clause-bad c = kept_bad

pub returns-clause-beginning : goal.returns-clause-beginning
returns-clause-beginning c = kept_beginning
