use Rattle.dsql_engine_exchanged.proofs.Ended.{heard_ended, heard_tested, heard_bad}
use Rattle.dsql_engine_exchanged.proofs.laws.what_was_heard_of_an_end.Goals as goal

pub returns : goal.returns
returns c = record { ended = heard_ended; tested = heard_tested; bad = heard_bad }
