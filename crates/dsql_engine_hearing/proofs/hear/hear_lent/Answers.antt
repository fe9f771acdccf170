use Rattle.std.proofs.Common.{◌≡◌, ◌≢◌, ◌∷◌, true, false, sym, ap, subst, ◌∙◌, arith}
use Rattle.std.proofs.lemmas.Bool.Decides.{nat_tests}
use Rattle.dsql_engine_going.specs.history.declared.event.Event.TheVariants.{Heard}
use Rattle.dsql_engine_going.specs.pool.Places.{is_lent}
use Rattle.dsql_engine_going.specs.history.Readers.Pool.{place}
use Rattle.dsql_engine_going.specs.history.Readers.Unfinished.{is_unfinished}
use Rattle.dsql_engine_going.specs.history.Readers.Works.{work}
use Rattle.dsql_engine_going.specs.history.Rules.Line.{is_used}
use Rattle.dsql_engine_going.specs.history.Legal.{Lawful}
use Rattle.dsql_engine_going.specs.laws.Leaving.{MayLeave}
use Rattle.dsql_engine_going.specs.laws_steps.Groups.{gone_on, let_go}
use Rattle.dsql_engine_going.specs.desk.Desk.{past, Stands}
use Rattle.dsql_engine_going.specs.desk.Next.{has_line}
use Rattle.dsql_engine_hearing.specs.Hearing.{StaysDue, TellsOfIt}
use Rattle.dsql_engine_hearing.proofs.Lent.{can_give_back, goes_unless_zero, heard_there, left_there, rests_at_zero}
use Rattle.dsql_engine_hearing.proofs.Letting.{lent_line, may_leave}
use Rattle.dsql_engine_hearing.proofs.StayingDue.{stays_due}
use Rattle.dsql_engine_hearing.proofs.Steps.{answer_tells, may_append, nobody_goes, settled_nobody, unfinished_on}
use Rattle.dsql_engine_hearing.proofs.hear.hear_lent.Goals as goal

pub hear-requires-clause-may : goal.hear-requires-clause-may
hear-requires-clause-may c = may_append c.args.desk.now c.args.entry c.args.ready c.requires.pays c.requires.may

pub hear-requires-clause-settled : goal.hear-requires-clause-settled
hear-requires-clause-settled c = c.requires.may.settled

pub hear-requires-clause-decides : goal.hear-requires-clause-decides
hear-requires-clause-decides c = c.requires.may.decides

pub hear-requires-clause-rows : goal.hear-requires-clause-rows
hear-requires-clause-rows c = c.requires.may.rows

pub hear-requires-clause-begin : goal.hear-requires-clause-begin
hear-requires-clause-begin c = c.requires.may.begin

pub due_or_let_go-due-requires-clause-pays : goal.due_or_let_go-due-requires-clause-pays
due_or_let_go-due-requires-clause-pays c =
    let h = heard_there c.args.desk.now c.hear.new.self c.args.entry c.args.ready c.args.borrower c.requires.pays c.requires.few c.requires.may c.requires.lent c.hear.ensures in
    can_give_back c.args.desk.now c.hear.new.self c.args.entry c.args.borrower h c.hear.ensures.stands

pub due_or_let_go-due-requires-clause-lent : goal.due_or_let_go-due-requires-clause-lent
due_or_let_go-due-requires-clause-lent c =
    let e = c.args.entry in
    let h = heard_there c.args.desk.now c.hear.new.self c.args.entry c.args.ready c.args.borrower c.requires.pays c.requires.few c.requires.may c.requires.lent c.hear.ensures in
    let at = h.at in
    ap (λ P. is_lent (place P e.conn)) h.came ∙ ap is_lent at.there

pub due_or_let_go-due-requires-clause-line : goal.due_or_let_go-due-requires-clause-line
due_or_let_go-due-requires-clause-line c =
    let e = c.args.entry in
    let n = c.args.borrower in
    let h = heard_there c.args.desk.now c.hear.new.self c.args.entry c.args.ready c.args.borrower c.requires.pays c.requires.few c.requires.may c.requires.lent c.hear.ensures in
    ap (λ P. has_line (work P n)) h.came ∙ lent_line (Heard e ∷ past c.args.desk.now) e.conn n h.lawful h.at

pub due_or_let_go-due-requires-clause-leaves : goal.due_or_let_go-due-requires-clause-leaves
due_or_let_go-due-requires-clause-leaves c =
    let H = past c.args.desk.now in
    let e = c.args.entry in
    let n = c.args.borrower in
    let h = heard_there c.args.desk.now c.hear.new.self c.args.entry c.args.ready c.args.borrower c.requires.pays c.requires.few c.requires.may c.requires.lent c.hear.ensures in
    subst (λ P. is_used P n ≡ false → MayLeave P e.conn) (sym h.came) (may_leave H e n h.lawful h.calm c.requires.may.settled h.at)

pub due_or_let_go-due-requires-clause-newest : goal.due_or_let_go-due-requires-clause-newest
due_or_let_go-due-requires-clause-newest c =
    let H = past c.args.desk.now in
    let e = c.args.entry in
    let h = heard_there c.args.desk.now c.hear.new.self c.args.entry c.args.ready c.args.borrower c.requires.pays c.requires.few c.requires.may c.requires.lent c.hear.ensures in
    subst (λ P. TellsOfIt P e.conn c.fate_of-newest.result) (sym h.came) (answer_tells H e c.fate_of-newest.result c.fate_of-newest.ensures)

pub due_or_let_go-due-requires-clause-stays : goal.due_or_let_go-due-requires-clause-stays
due_or_let_go-due-requires-clause-stays c =
    let H = past c.args.desk.now in
    let e = c.args.entry in
    let n = c.args.borrower in
    let h = heard_there c.args.desk.now c.hear.new.self c.args.entry c.args.ready c.args.borrower c.requires.pays c.requires.few c.requires.may c.requires.lent c.hear.ensures in
    subst (λ P. StaysDue P e.conn n e.call_no) (sym h.came) (stays_due H e n h.lawful h.calm c.requires.may.settled h.at)

pub returns-then-call-eq0-clause-reaches : goal.returns-then-call-eq0-clause-reaches
unfolding Stands
returns-then-call-eq0-clause-reaches c =
    let H = past c.args.desk.now in
    let e = c.args.entry in
    let n = c.args.borrower in
    let h = heard_there c.args.desk.now c.hear.new.self e c.args.ready n c.requires.pays c.requires.few c.requires.may c.requires.lent c.hear.ensures in
    let left = left_there c.args.desk.now c.hear.new.self c.due_or_let_go-due.new.desk e n h c.due_or_let_go-due.ensures.leaves in
    let none : e.call_no ≡ 0 = grind (arith, nat_tests, c.if-call-eq0.true) in
    let lawful : Lawful (let_go e.conn n (Heard e ∷ H)) = subst (λ P. Lawful P) left.came left.pays.stands.tables.lawful in
    record {
      stands = left.pays.stands;
      settled = settled_nobody (past c.due_or_let_go-due.new.desk) e.call_no none left.settled;
      group = left.came ∙ sym (nobody_goes (let_go e.conn n (Heard e ∷ H)) e.call_no lawful none);
    }

pub returns-then-call-eq0-clause-goes : goal.returns-then-call-eq0-clause-goes
returns-then-call-eq0-clause-goes c =
    let e = c.args.entry in
    let none : e.call_no ≡ 0 = grind (arith, nat_tests, c.if-call-eq0.true) in
    rests_at_zero (past c.due_or_let_go-due.new.desk) c.args.flights.now.flights e.call_no none

pub go_on_with-requires-clause-pays : goal.go_on_with-requires-clause-pays
go_on_with-requires-clause-pays c =
    let e = c.args.entry in
    let n = c.args.borrower in
    let h = heard_there c.args.desk.now c.hear.new.self e c.args.ready n c.requires.pays c.requires.few c.requires.may c.requires.lent c.hear.ensures in
    let left = left_there c.args.desk.now c.hear.new.self c.due_or_let_go-due.new.desk e n h c.due_or_let_go-due.ensures.leaves in
    left.pays

pub go_on_with-requires-clause-may : goal.go_on_with-requires-clause-may
go_on_with-requires-clause-may c =
    let H = past c.args.desk.now in
    let e = c.args.entry in
    let n = c.args.borrower in
    let h = heard_there c.args.desk.now c.hear.new.self e c.args.ready n c.requires.pays c.requires.few c.requires.may c.requires.lent c.hear.ensures in
    let left = left_there c.args.desk.now c.hear.new.self c.due_or_let_go-due.new.desk e n h c.due_or_let_go-due.ensures.leaves in
    let some : e.call_no ≢ 0 = λ is. grind (arith, nat_tests, c.if-call-eq0.false, is) in
    record {
      settled = left.settled;
      unfinished = subst (λ P. is_unfinished P e.call_no ≡ true) (sym left.came) (unfinished_on H e n h.before c.requires.may.allowed h.at some);
      parked = c.requires.parked;
      spare = c.requires.spare;
    }

pub go_on_with-requires-clause-due : goal.go_on_with-requires-clause-due
go_on_with-requires-clause-due c = c.due_or_let_go-due.ensures.due

pub returns-else-call-eq0-clause-reaches : goal.returns-else-call-eq0-clause-reaches
returns-else-call-eq0-clause-reaches c =
    let e = c.args.entry in
    let n = c.args.borrower in
    let h = heard_there c.args.desk.now c.hear.new.self e c.args.ready n c.requires.pays c.requires.few c.requires.may c.requires.lent c.hear.ensures in
    let left = left_there c.args.desk.now c.hear.new.self c.due_or_let_go-due.new.desk e n h c.due_or_let_go-due.ensures.leaves in
    let r = c.go_on_with.ensures.reaches in
    record { stands = r.stands; settled = r.settled; group = r.group ∙ ap (gone_on e.call_no) left.came }

pub returns-else-call-eq0-clause-goes : goal.returns-else-call-eq0-clause-goes
returns-else-call-eq0-clause-goes c =
    let e = c.args.entry in
    let some : e.call_no ≢ 0 = λ is. grind (arith, nat_tests, c.if-call-eq0.false, is) in
    goes_unless_zero (past c.go_on_with.new.desk) c.args.flights.now.flights c.go_on_with.new.flights.flights e.call_no c.go_on_with.result some c.go_on_with.ensures.goes
