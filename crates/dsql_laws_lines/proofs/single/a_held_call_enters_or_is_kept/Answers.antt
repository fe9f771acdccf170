use Rattle.dsql_laws_lines.proofs.Singly.{start_kept, start_enters}
use Rattle.dsql_laws_lines.proofs.single.a_held_call_enters_or_is_kept.Goals as goal

pub returns-clause-kept : goal.returns-clause-kept
returns-clause-kept c = start_kept

pub returns-clause-enters : goal.returns-clause-enters
returns-clause-enters c = start_enters
