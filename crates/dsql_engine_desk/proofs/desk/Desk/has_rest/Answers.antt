use Rattle.std.proofs.Common.{◌≡◌, true, cond, is_some, sym, ap, ◌∙◌}
use Rattle.dsql_engine_desk.specs.Desk.{past}
use Rattle.dsql_laws_calls.specs.history.Readers.HandedOut.{rows_by}
use Rattle.dsql_laws_calls.specs.history.Readers.Transactions.{is_begun}
use Rattle.dsql_laws_calls.specs.history.Rules.Ending.{ending}
use Rattle.dsql_laws_calls.specs.history.Rules.Line.{rest_with}
use Rattle.dsql_laws_calls.specs.history.Rules.Sent.{asked_by}
use Rattle.dsql_engine_desk.proofs.Due.{is_filled}
use Rattle.dsql_engine_desk.proofs.desk.Desk.has_rest.Goals as goal

pub returns-then-is_begun : goal.returns-then-is_begun
returns-then-is_begun c =
    let H = past c.args.self.now in
    let n = c.args.call in
    let begun : is_begun H n ≡ true = sym c.is_begun.ensures ∙ c.if-is_begun.true in
    c.is_some.ensures
    ∙ (sym (is_filled (asked_by H n) c.ending.result)
    ∙ (ap is_some (c.ending.ensures (asked_by H n)) ∙ sym (ap (λ b. is_some (cond b (ending H n) (rest_with H n (rows_by H n)))) begun)))
