use Rattle.std.proofs.Common.{sym, ap, ◌∙◌}
use Rattle.dsql_engine_calls.specs.Calls.{tx_worked}
use Rattle.dsql_engine_desk.specs.Desk.{past, Stands}
use Rattle.dsql_engine_desk.specs.Lines.{due_by}
use Rattle.dsql_laws_calls.specs.history.Readers.Works.{asks, scope, work}
use Rattle.dsql_laws_calls.specs.history.Rules.Sent.{asked_by, sent_for}
use Rattle.dsql_laws_calls.proofs.laws.Numbered.{unfinished_from_one}
use Rattle.dsql_engine_desk.proofs.Due.{wanted}
use Rattle.dsql_engine_desk.proofs.desk.Desk.due_by.Goals as goal

pub sent_over-requires-clause-wanted : goal.sent_over-requires-clause-wanted
unfolding Stands
sent_over-requires-clause-wanted c =
    let H = past c.args.self.now in
    wanted H c.args.call c.in-Some.query c.wish.result (unfinished_from_one H c.args.call c.requires.stands.tables.lawful c.requires.unfinished) c.wish.ensures

pub returns-in-Some : goal.returns-in-Some
returns-in-Some c =
    let H = past c.args.self.now in
    let n = c.args.call in
    c.sent_over.ensures (asked_by H n)
    ∙ (ap (sent_for H c.in-Some.query) c.wish.ensures ∙ sym (ap (due_by H n (asks (work H n)) (scope (work H n)) (tx_worked (work H n))) c.in-Some.is))
