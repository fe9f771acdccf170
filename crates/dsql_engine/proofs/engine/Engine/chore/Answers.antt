use Rattle.std.proofs.Common.{◌≡◌, Some, None, sym, subst, ◌∙◌}
use Rattle.dsql_engine_hearing.specs.desk.Desk.{past, trimmed}
use Rattle.dsql_engine.proofs.Chores.{chore_given, chore_quiet, chore_sent}
use Rattle.dsql_engine_hearing.specs.history.Rules.House.{chore_due}
use Rattle.dsql_engine_hearing.specs.going.declared.next.Next.TheVariants.{Send, Quiet}
use Rattle.dsql_engine.specs.Chores.{IsChore}
use Rattle.dsql_engine.specs.Core.{Core}
use Rattle.dsql_engine.proofs.engine.Engine.chore.Goals as goal

pub chore_leave-leave-requires-clause-due : goal.chore_leave-leave-requires-clause-due
chore_leave-leave-requires-clause-due c = chore_given (past c.self.inside.desk) c.in-Some.conn (sym c.chore_due.ensures ∙ c.in-Some.is)

pub returns-in_default-clause-next : goal.returns-in_default-clause-next
returns-in_default-clause-next c =
    let H = past c.self.inside.desk in
    let none : chore_due H ≡ None = sym c.chore_due.ensures ∙ c.in_default.is in
    let free : c.self.inside.chore ≡ None = subst (λ (v : Core). v.chore ≡ None) (sym c.self.view_is) c.requires.free in
    subst (λ (v : Core). IsChore v.past Quiet v) c.self.view_is (record { next_is = chore_quiet H none; chore = free ∙ sym none })

pub returns-clause-next : goal.returns-clause-next
returns-clause-next c =
    let H = past c.self.inside.desk in
    let due : chore_due H ≡ Some c.in-Some.conn = sym c.chore_due.ensures ∙ c.in-Some.is in
    let now : Core = record { past = H; trimmed = trimmed c.self.inside.desk; flights = c.self.inside.flights.flights; chore = Some c.in-Some.conn } in
    subst (λ (v : Core). IsChore v.past (Send c.chore_leave-leave.result) now) c.self.view_is
    (record { next_is = chore_sent H c.in-Some.conn c.chore_leave-leave.result due c.chore_leave-leave.ensures; chore = sym due })
