use Rattle.dsql_engine_exchanged.proofs.Sent.{told_as_heard}
use Rattle.dsql_engine_exchanged.proofs.Told.{exchanged_made, inside_as_heard}
use Rattle.dsql_engine_exchanged.proofs.laws.what_is_told_comes_next_in_the_line.Goals as goal

pub returns : goal.returns
returns c = record { made = exchanged_made; on_the_database = told_as_heard; inside = inside_as_heard }
