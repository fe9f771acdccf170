use Rattle.dsql_laws_others.proofs.Leaves.{given_settles}
use Rattle.dsql_laws_others.proofs.leaving.what_leaves_touches_no_call.Goals as goal

pub returns-clause-used : goal.returns-clause-used
returns-clause-used c = λ history conn l may. let it = given_settles history conn l may in it.used

pub returns-clause-somewhere : goal.returns-clause-somewhere
returns-clause-somewhere c = λ history conn k may l. let it = given_settles history conn l may in it.somewhere k
