use Rattle.dsql_laws_lines.proofs.Singly.{free_stays, free_enters}
use Rattle.dsql_laws_lines.proofs.single.a_free_client_steps.Goals as goal

pub returns-clause-stays : goal.returns-clause-stays
returns-clause-stays c = free_stays

pub returns-clause-enters : goal.returns-clause-enters
returns-clause-enters c = free_enters
