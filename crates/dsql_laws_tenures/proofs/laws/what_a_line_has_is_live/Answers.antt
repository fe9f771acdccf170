use Rattle.dsql_laws_tenures.proofs.CursorLines.{cursor_is_live}
use Rattle.dsql_laws_tenures.proofs.HandleLines.{handle_is_live}
use Rattle.dsql_laws_tenures.proofs.laws.what_a_line_has_is_live.Goals as goal

pub returns : goal.returns
returns c = record { cursor = cursor_is_live; handle = handle_is_live }
