use Rattle.dsql_engine_exchanged.proofs.Open.{heard_exchanged, open_cursor, open_handle}
use Rattle.dsql_engine_exchanged.proofs.laws.what_was_heard_in_a_line.Goals as goal

pub returns : goal.returns
returns c = record { heard = heard_exchanged; cursor = λ line rows fresh. open_cursor line fresh rows; handle = λ line handle fresh. open_handle line fresh handle }
