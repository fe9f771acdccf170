use Rattle.dsql_engine_laws.proofs.Steps.{begun_flies, enter_flies, answer_flies, layer_flies, control_flies, end_flies, wake_flies}
use Rattle.dsql_engine_laws.proofs.turns.turns_are_kept.Goals as goal

pub returns-clause-begun : goal.returns-clause-begun
returns-clause-begun c = begun_flies

pub returns-clause-entered : goal.returns-clause-entered
returns-clause-entered c = enter_flies

pub returns-clause-heard : goal.returns-clause-heard
returns-clause-heard c = answer_flies

pub returns-clause-layer : goal.returns-clause-layer
returns-clause-layer c = layer_flies

pub returns-clause-control : goal.returns-clause-control
returns-clause-control c = control_flies

pub returns-clause-ended : goal.returns-clause-ended
returns-clause-ended c = end_flies

pub returns-clause-woken : goal.returns-clause-woken
returns-clause-woken c = wake_flies
