use Rattle.dsql_engine.proofs.Appended.{control_may}
use Rattle.dsql_engine.proofs.outside.control.Goals as goal

pub control-requires-clause-may : goal.control-requires-clause-may
control-requires-clause-may c = control_may c.args.desk.now _ c.requires.pays c.requires.begun c.requires.settled
