use Rattle.dsql_laws_lines.proofs.Singly.{house_stays, house_tidies}
use Rattle.dsql_laws_lines.proofs.single.the_layer_steps.Goals as goal

pub returns-clause-stays : goal.returns-clause-stays
returns-clause-stays c = house_stays

pub returns-clause-tidies : goal.returns-clause-tidies
returns-clause-tidies c = house_tidies
