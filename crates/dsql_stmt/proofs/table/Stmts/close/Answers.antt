-- A second close changes nothing. A first one changes the statement in its place.
use Rattle.std.proofs.Common.{ℕ, List, not, ap, sym, eqb, ◌∙◌}
use Rattle.std.specs.Map.{set_value}
use Rattle.dsql_stmt.specs.declared.stmt.Stmt.{Stmt}
use Rattle.dsql_value_numbered.specs.Numbered.{changed}
use Rattle.dsql_stmt.specs.Statements.{Statements, closed_by}
use Rattle.dsql_value_numbered.proofs.Changes.{set_value-changed}
use Rattle.dsql_stmt.proofs.Changes.{changed-closed}
use Rattle.dsql_stmt.proofs.table.Stmts.close.Goals as goal

pub returns-then-is_some-clause-ok : goal.returns-then-is_some-clause-ok
returns-then-is_some-clause-ok c = sym (changed-closed c.args.call c.args.n c.args.self.now.stmts c.stmt.result.now (sym c.stmt.ensures) (ap not (sym c.if-is_some.ensures)))

pub returns-clause-ok : goal.returns-clause-ok
returns-clause-ok c =
    let stmts = c.self.inside.stmts.entries in
    let view = ap (λ (t : Statements). t.stmts) c.self.view_is in
    (c.get_mut.follows.holds c.close.new.self).0
    ∙ (ap (λ (s : Stmt). set_value (λ k. eqb c.args.n k) stmts s) c.close.ensures
    ∙ (set_value-changed (closed_by c.args.call) c.args.n stmts c.in-Some.stmt.now (sym c.in-Some.ensures.value)
    ∙ ap (λ (es : List (ℕ × Stmt)). changed (closed_by c.args.call) c.args.n es) view))
