use Rattle.dsql_laws_lines.proofs.Stepped.{step_keeps, step_holds, step_made, enters_not}
use Rattle.dsql_laws_lines.proofs.kept.a_step_keeps_lines.Goals as goal

pub returns-clause-kept : goal.returns-clause-kept
returns-clause-kept c = step_keeps

pub returns-clause-held : goal.returns-clause-held
returns-clause-held c = step_holds

pub returns-clause-made : goal.returns-clause-made
returns-clause-made c = step_made

pub returns-clause-itself : goal.returns-clause-itself
returns-clause-itself c = enters_not
