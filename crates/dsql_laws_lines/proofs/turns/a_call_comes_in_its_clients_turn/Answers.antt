use Rattle.dsql_laws_lines.proofs.InTurn.{its_answer_comes, its_step_comes}
use Rattle.dsql_laws_lines.proofs.turns.a_call_comes_in_its_clients_turn.Goals as goal

pub returns-clause-answer : goal.returns-clause-answer
returns-clause-answer c = its_answer_comes

pub returns-clause-itself : goal.returns-clause-itself
returns-clause-itself c = its_step_comes
