use Rattle.std.proofs.Common.{◌≡◌, Bool, true, None, Some, cond, is_some, refl, sym, ap, ◌∙◌, arith}
use Rattle.std.specs.Option.{option_map}
use Rattle.dsql_engine_going.specs.exchanged.Filled.{filled}
use Rattle.dsql_engine_going.specs.history.Readers.Owed.{given_back}
use Rattle.dsql_engine_going.specs.history.Rules.Line.{due_for, is_used}
use Rattle.dsql_engine_going.specs.history.Rules.Sent.{asked_by}
use Rattle.dsql_engine_going.specs.laws.OwedMade.{with_moves}
use Rattle.dsql_engine_going.specs.desk.Desk.{past}
use Rattle.dsql_engine_going.proofs.Leaves.{due_told}
use Rattle.dsql_engine_hearing.proofs.hear.due_or_let_go.Goals as goal

pub returns-in-Some-clause-leaves : goal.returns-in-Some-clause-leaves
returns-in-Some-clause-leaves c =
    let K = past c.args.desk.now in
    let due : is_some (due_for K c.args.call) ≡ true = due_told K c.args.call c.due.result (Some c.in-Some.due) c.due.ensures c.in-Some.is in
    let used : is_used K c.args.borrower ≡ true = c.requires.stays.used due in
    record {
      stands = c.requires.pays.stands;
      paid = omega (arith);
      history = sym (ap (λ (b : Bool). cond b K (with_moves (given_back K c.args.conn) K)) used);
      trimmed = refl;
    }

pub returns-in-None-clause-due : goal.returns-in-None-clause-due
returns-in-None-clause-due c =
    let K = past c.args.desk.now in
    let none : None ≡ due_for K c.args.call = sym (ap (option_map (filled (asked_by K c.args.call))) c.in-None.is) ∙ c.due.ensures in
    none ∙ (sym c.requires.stays.same ∙ sym (ap (λ P. due_for P c.args.call) c.let_go.ensures.history))
