use Rattle.std.proofs.Common.{◌∙◌}
use Rattle.dsql_engine_calls.proofs.Borrowers.{row_borrower}
use Rattle.dsql_engine_desk.specs.Desk.{past, Stands}
use Rattle.dsql_engine_desk.proofs.desk.Desk.borrower.Goals as goal

pub returns : goal.returns
unfolding Stands
returns c =
    let d = c.args.self.now in
    c.borrower_of.ensures ∙ row_borrower (past d) d.calls.items c.args.call c.requires.tables.calls
