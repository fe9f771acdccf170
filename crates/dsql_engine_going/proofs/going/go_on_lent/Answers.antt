use Rattle.std.proofs.Common.{◌≡◌, true, Some, is_some, subst, sym, ap}
use Rattle.dsql_laws_calls.specs.history.Rules.Line.{due_for}
use Rattle.dsql_laws_calls.proofs.laws.Numbered.{unfinished_from_one}
use Rattle.dsql_laws_calls.proofs.laws.Standing.{stands_sending}
use Rattle.dsql_engine_desk.specs.Desk.{past, Stands}
use Rattle.dsql_engine_going.specs.Reaching.{HasGoneOn}
use Rattle.dsql_engine_going.proofs.Leaves.{due_told}
use Rattle.dsql_engine_going.proofs.Replying.{goes_finished}
use Rattle.dsql_engine_going.proofs.Resting.{due_lent_group}
use Rattle.dsql_engine_going.proofs.Standing.{settled_itself}
use Rattle.dsql_engine_going.proofs.going.go_on_lent.Goals as goal

pub returns-in-Some-clause-reaches : goal.returns-in-Some-clause-reaches
unfolding Stands
returns-in-Some-clause-reaches c =
    let H = past c.args.desk.now in
    let n = c.args.call in
    let s = c.requires.pays.stands in
    let l = s.tables.lawful in
    let due : is_some (due_for H n) ≡ true = due_told H n c.due.result (Some c.in-Some.due) c.due.ensures c.in-Some.is in
    let at = stands_sending H n l (unfinished_from_one H n l c.requires.may.unfinished) due in
    record { stands = s; settled = settled_itself H n c.requires.may.settled (ap (λ it. is_some it) at); group = sym (due_lent_group n H due) }

pub returns-in-None-clause-goes : goal.returns-in-None-clause-goes
returns-in-None-clause-goes c =
    let n = c.args.call in
    let flights = c.args.flights.now.flights in
    subst (λ next. HasGoneOn (past c.reply.new.desk) flights flights n next) (sym c.reply.ensures.next) (goes_finished (past c.reply.new.desk) n flights c.reply.ensures.finished)
