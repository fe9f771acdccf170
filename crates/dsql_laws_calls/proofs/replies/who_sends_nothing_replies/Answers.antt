use Rattle.std.proofs.Common.{ap, is_some}
use Rattle.dsql_laws_calls.proofs.replies.who_sends_nothing_replies.Goals as goal
use Rattle.dsql_laws.specs.history.Readers.Calls.{decided, told_at_lending, told_of_work}
use Rattle.dsql_laws.specs.history.Readers.Works.{work}
use Rattle.dsql_laws_calls.proofs.Works.{is_look}
use Rattle.dsql_laws_calls.proofs.Looked.{looked}
use Rattle.dsql_laws_calls.proofs.Refusals.{refusal_told}
use Rattle.dsql_laws_calls.proofs.Nowhere.{others_settled, settled_unserved}

pub returns-clause-looks : goal.returns-clause-looks
returns-clause-looks c = λ history n l u look. looked history n l u (ap is_look look)

pub returns-clause-closes : goal.returns-clause-closes
returns-clause-closes c = λ history n k is. others_settled (decided history n) (told_of_work history n (work history n)) (told_at_lending history n) (ap (λ w. is_some (told_of_work history n w)) is)

pub returns-clause-refused : goal.returns-clause-refused
returns-clause-refused c = λ history n answer earlier l is last. refusal_told history (work history n) n answer earlier l is last

pub returns-clause-unserved : goal.returns-clause-unserved
returns-clause-unserved c = settled_unserved
