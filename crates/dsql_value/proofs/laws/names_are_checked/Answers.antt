use Rattle.dsql_value.proofs.CheckingNames.{all_nameless, all_lettered, wider}
use Rattle.dsql_value.proofs.laws.names_are_checked.Goals as goal

pub returns : goal.returns
returns c = record { nameless = all_nameless; lettered = all_lettered; wider = wider }
