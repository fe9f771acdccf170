-- A new number goes last.
use Rattle.std.proofs.Common.{ℕ, List, ◌∷◌, [], ◌++◌, ap, ◌∙◌, eqb}
use Rattle.indexmap.proofs.CallerLemmas.{insert_entry-new}
use Rattle.dsql_stmt.specs.declared.stmt.Stmt.{Stmt}
use Rattle.dsql_stmt.specs.Statements.{Statements, unclosed, was_added}
use Rattle.dsql_value_numbered.proofs.Changes.{not_made}
use Rattle.dsql_stmt.proofs.table.Stmts.add.Goals as goal

pub returns-clause-ok : goal.returns-clause-ok
returns-clause-ok c =
    let view = ap (λ (t : Statements). t.stmts) c.self.view_is in
    let none = not_made c.args.n c.self.inside.stmts.entries (ap (λ (es : List (ℕ × Stmt)). was_added c.args.n es) view ∙ c.requires) in
    c.in_ok-insert.ensures.entries
    ∙ (insert_entry-new eqb c.self.inside.stmts c.args.n (unclosed c.args.text c.args.home) none
    ∙ ap (λ (es : List (ℕ × Stmt)). es ++ (c.args.n, unclosed c.args.text c.args.home) ∷ []) view)
