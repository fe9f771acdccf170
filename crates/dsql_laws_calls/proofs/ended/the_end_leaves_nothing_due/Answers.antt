use Rattle.std.proofs.Common.{◌≡◌, Option, Some, None, false, is_some, refl}
use Rattle.dsql_laws.specs.driver.declared.call.DriverCall.{DriverCall}
use Rattle.dsql_laws.proofs.Tests.{same_number}
use Rattle.dsql_laws_calls.proofs.ended.the_end_leaves_nothing_due.Goals as goal
use Rattle.dsql_laws.specs.history.Rules.Line.{due_for}
use Rattle.dsql_laws_calls.proofs.Closed.{ended_closed}
use Rattle.dsql_laws_calls.proofs.Ends.{over_once_ended, none_due_once_ended}
use Rattle.dsql_laws_calls.proofs.Tidying.{unheld_once_ended}

none_of : (d : Option DriverCall) → is_some d ≡ false → d ≡ None
none_of None h = refl
none_of (Some q) h = absurd cc

pub returns-clause-closed : goal.returns-clause-closed
returns-clause-closed c = ended_closed

pub returns-clause-due : goal.returns-clause-due
returns-clause-due c = λ history n l h. none_of (due_for history n) (none_due_once_ended history n l h)

pub returns-clause-live : goal.returns-clause-live
returns-clause-live c = λ history n l h. let o = over_once_ended history l h in (o.live n, o.going n)

pub returns-clause-layer : goal.returns-clause-layer
returns-clause-layer c = λ history e l h may. let o = over_once_ended history l h in same_number e.call_no 0 (o.layer e may)

pub returns-clause-turn : goal.returns-clause-turn
returns-clause-turn c = unheld_once_ended
