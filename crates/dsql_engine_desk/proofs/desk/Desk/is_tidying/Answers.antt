use Rattle.std.proofs.Common.{is_some, sym, ap, ◌∙◌}
use Rattle.dsql_engine_desk.specs.Desk.{past}
use Rattle.dsql_laws_calls.specs.history.Rules.Sent.{asked_by}
use Rattle.dsql_engine_desk.proofs.Due.{is_filled}
use Rattle.dsql_engine_desk.proofs.desk.Desk.is_tidying.Goals as goal

pub returns : goal.returns
returns c =
    let asked = asked_by (past c.args.self.now) c.args.call in
    c.is_some.ensures ∙ (sym (is_filled asked c.tidying.result) ∙ ap is_some (c.tidying.ensures asked))
