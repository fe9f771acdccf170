use Rattle.dsql_laws_lines.proofs.Stepped.{call_may_enter, start_may_enter, line_may_enter}
use Rattle.dsql_laws_lines.proofs.kept.a_kept_line_may_enter.Goals as goal

pub returns-clause-call : goal.returns-clause-call
returns-clause-call c = call_may_enter

pub returns-clause-start : goal.returns-clause-start
returns-clause-start c = start_may_enter

pub returns-clause-either : goal.returns-clause-either
returns-clause-either c = line_may_enter
