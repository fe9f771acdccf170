use Rattle.std.proofs.Common.{◌≤◌, subst}
use Rattle.std.specs.Prelude.{IfSome}
use Rattle.dsql_pool.specs.Places.{Numbered}
use Rattle.dsql_pool.proofs.Rows.{found_drawn}
use Rattle.dsql_pool.proofs.conns.Conns.at.Goals as goal

pub returns-clause-lends : goal.returns-clause-lends
returns-clause-lends c =
    subst (λ (t : Numbered). IfSome c.row_of.result (λ x. x.lends ≤ t.drawn)) c.self.view_is
    (found_drawn c.self.inside.drawn c.args.conn c.self.inside.rows.items c.row_of.result c.row_of.ensures c.self.invariant.lent).0

pub returns-clause-uses : goal.returns-clause-uses
returns-clause-uses c =
    subst (λ (t : Numbered). IfSome c.row_of.result (λ x. x.uses ≤ t.drawn)) c.self.view_is
    (found_drawn c.self.inside.drawn c.args.conn c.self.inside.rows.items c.row_of.result c.row_of.ensures c.self.invariant.lent).1
