use Rattle.std.proofs.Common.{Some, ap, ◌∙◌}
use Rattle.dsql_engine_hearing.specs.pool.declared.conn.Place.{Place}
use Rattle.dsql_engine_hearing.specs.desk.Desk.{past}
use Rattle.dsql_engine.proofs.Chores.{due_tidying}
use Rattle.dsql_engine.proofs.permits.chore_leave.Goals as goal

pub tidy_leave-requires-clause-due : goal.tidy_leave-requires-clause-due
tidy_leave-requires-clause-due c =
    let it = c.in-Some-Lent in
    due_tidying (past c.args.desk.now) c.args.conn it.tenure it.owner c.place.result c.requires.due c.place.ensures (it.is ∙ ap (λ (at : Place). Some at) it.field-0-is)
