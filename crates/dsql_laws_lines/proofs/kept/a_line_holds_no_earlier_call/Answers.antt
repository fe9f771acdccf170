use Rattle.dsql_laws_lines.proofs.KeptLines.{held_still, held_with_call, held_same}
use Rattle.dsql_laws_lines.proofs.kept.a_line_holds_no_earlier_call.Goals as goal

pub returns-clause-made : goal.returns-clause-made
returns-clause-made c = held_still

pub returns-clause-busy : goal.returns-clause-busy
returns-clause-busy c = held_with_call

pub returns-clause-others : goal.returns-clause-others
returns-clause-others c = held_same
