use Rattle.dsql_laws_steps.proofs.Groups.{enter_is_one, heard_is_one, control_is_one, end_is_one}
use Rattle.dsql_laws_steps.proofs.laws.each_step_is_one.Goals as goal

pub returns-clause-enter : goal.returns-clause-enter
returns-clause-enter c = enter_is_one

pub returns-clause-heard : goal.returns-clause-heard
returns-clause-heard c = heard_is_one

pub returns-clause-control : goal.returns-clause-control
returns-clause-control c = control_is_one

pub returns-clause-end : goal.returns-clause-end
returns-clause-end c = end_is_one
