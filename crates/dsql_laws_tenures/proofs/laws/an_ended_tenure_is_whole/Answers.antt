use Rattle.dsql_laws_tenures.proofs.WholeTenures.{whole_when_closed, whole_when_bad}
use Rattle.dsql_laws_tenures.proofs.laws.an_ended_tenure_is_whole.Goals as goal

pub returns : goal.returns
returns c = record { closed = whole_when_closed; bad = whole_when_bad }
