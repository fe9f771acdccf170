use Rattle.dsql_laws_lines.proofs.Woken.{stepped_earlier, sends_or_goes}
use Rattle.dsql_laws_lines.proofs.waking.a_call_that_may_move_sends_or_goes_on.Goals as goal

pub returns-clause-earlier : goal.returns-clause-earlier
returns-clause-earlier c = stepped_earlier

pub returns-clause-goes : goal.returns-clause-goes
returns-clause-goes c = sends_or_goes
