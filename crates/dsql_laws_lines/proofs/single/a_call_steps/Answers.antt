use Rattle.dsql_laws_lines.proofs.Singly.{call_answered, call_sends, call_goes, call_stays}
use Rattle.dsql_laws_lines.proofs.single.a_call_steps.Goals as goal

pub returns-clause-answered : goal.returns-clause-answered
returns-clause-answered c = call_answered

pub returns-clause-sends : goal.returns-clause-sends
returns-clause-sends c = call_sends

pub returns-clause-goes : goal.returns-clause-goes
returns-clause-goes c = call_goes

pub returns-clause-stays : goal.returns-clause-stays
returns-clause-stays c = call_stays
