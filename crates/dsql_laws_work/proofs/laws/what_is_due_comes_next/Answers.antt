use Rattle.dsql_laws_work.proofs.Lines.{body_due}
use Rattle.dsql_laws_work.proofs.laws.what_is_due_comes_next.Goals as goal

pub returns : goal.returns
returns c = λ can reset asked wish e earlier call h. (body_due can reset asked wish e earlier call h).1
