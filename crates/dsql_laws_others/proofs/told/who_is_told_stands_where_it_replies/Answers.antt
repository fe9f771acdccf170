use Rattle.dsql_laws_others.proofs.Answered.{fallen_somewhere, fallen_there, shut_out_replies, left_waiting_replies}
use Rattle.dsql_laws_others.proofs.told.who_is_told_stands_where_it_replies.Goals as goal

pub returns-clause-refused : goal.returns-clause-refused
returns-clause-refused c = fallen_somewhere

pub returns-clause-there : goal.returns-clause-there
returns-clause-there c = fallen_there

pub returns-clause-closed : goal.returns-clause-closed
returns-clause-closed c = shut_out_replies

pub returns-clause-ended : goal.returns-clause-ended
returns-clause-ended c = left_waiting_replies
