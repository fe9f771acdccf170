use Rattle.dsql_tenure.proofs.Answered.{all_wide}
use Rattle.dsql_tenure.proofs.accepts.is_as_wide.Goals as goal

pub returns-in_default : goal.returns-in_default
returns-in_default c = all_wide c.args.answer.now c.args.number c.args.cursors.now c.in_default.not-Row
