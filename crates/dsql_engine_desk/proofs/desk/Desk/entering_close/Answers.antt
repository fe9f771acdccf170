use Rattle.dsql_engine_desk.specs.Desk.{past}
use Rattle.dsql_engine_desk.proofs.AtEntry.{starts_closing}
use Rattle.dsql_engine_desk.proofs.desk.Desk.entering_close.Goals as goal

pub returns : goal.returns
returns c =
    starts_closing (past c.args.self.now) c.args.label.now c.rows_maker.result c.rows_named-closes.result c.in_ok-decided.decided c.over_rows.result c.over_rows.ensures c.rows_maker.ensures c.in_ok-decided.ensures
    c.rows_named-closes.ensures.some c.rows_named-closes.ensures.none
