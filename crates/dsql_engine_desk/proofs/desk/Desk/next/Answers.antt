use Rattle.std.proofs.Common.{sym, ap, ◌∙◌}
use Rattle.dsql_engine_desk.specs.Desk.{past}
use Rattle.dsql_engine_desk.specs.Next.{lent_under}
use Rattle.dsql_engine_desk.proofs.NextLines.{none_lent}
use Rattle.dsql_engine_desk.proofs.desk.Desk.next.Goals as goal

pub returns-in-None : goal.returns-in-None
returns-in-None c =
    let H = past c.args.self.now in
    sym (none_lent H c.args.call c.args.wish (ap (lent_under H) (sym c.borrower.ensures) ∙ (sym c.lent_under.ensures ∙ c.in-None.is)))
