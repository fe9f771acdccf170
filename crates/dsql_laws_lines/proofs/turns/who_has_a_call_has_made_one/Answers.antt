use Rattle.dsql_laws_lines.proofs.Made.{made_one}
use Rattle.dsql_laws_lines.proofs.turns.who_has_a_call_has_made_one.Goals as goal

pub returns : goal.returns
returns c = made_one
