use Rattle.dsql_laws_lines.proofs.Singly.{nobody_moves}
use Rattle.dsql_laws_lines.proofs.single.nobody_moves.Goals as goal

pub returns : goal.returns
returns c = nobody_moves
