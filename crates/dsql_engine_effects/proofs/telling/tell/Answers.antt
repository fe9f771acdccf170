use Rattle.dsql_engine_effects.proofs.telling.tell.Goals as goal

pub returns-in-Prepare : goal.returns-in-Prepare
returns-in-Prepare c = rw c.in-Prepare.is (c.tell_prepare.ensures c.args.work.now c.in-Prepare.field-0)
