use Rattle.std.proofs.Common.{◌≡◌, ◌==◌, true, cond, None, sym, ap, ◌∙◌}
use Rattle.dsql_laws_calls.proofs.laws.Tests.{same_itself}
use Rattle.dsql_engine_desk.specs.Desk.{past}
use Rattle.dsql_engine_desk.specs.Lines.{due_ending}
use Rattle.dsql_laws_calls.specs.history.Readers.Transactions.{tx_ender}
use Rattle.dsql_laws_calls.specs.history.Readers.Works.{asks, scope, work}
use Rattle.dsql_laws_calls.specs.history.Rules.Ending.{ending}
use Rattle.dsql_laws_calls.specs.history.Rules.Sent.{asked_by}
use Rattle.dsql_engine_desk.proofs.desk.Desk.due_ending.Goals as goal

pub returns-in-Some : goal.returns-in-Some
returns-in-Some c =
    let H = past c.args.self.now in
    let n = c.args.call in
    let k = c.in-Some.tx in
    let own : (tx_ender H k == n) ≡ true = ap (λ m. m == n) (sym c.tx_ender.ensures ∙ c.if-tx_ender-call.true) ∙ same_itself n in
    c.ending.ensures (asked_by H n) ∙ sym (ap (due_ending H n (asks (work H n)) (scope (work H n))) c.in-Some.is ∙ ap (λ b. cond b (ending H k) None) own)
