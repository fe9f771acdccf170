-- Rows with a new number are inserted last.
use Rattle.std.proofs.Common.{ℕ, List, ◌∷◌, [], ◌++◌, ap, ◌∙◌, eqb}
use Rattle.indexmap.proofs.CallerLemmas.{insert_entry-new}
use Rattle.dsql_rows.specs.declared.rows.Rows.{Rows}
use Rattle.dsql_rows.specs.OpenRows.{OpenRows, fresh, was_made}
use Rattle.dsql_value_numbered.proofs.Changes.{not_made}
use Rattle.dsql_rows.proofs.table.RowsTable.begin_rows.Goals as goal

pub returns-clause-ok : goal.returns-clause-ok
returns-clause-ok c =
    let view = ap (λ (t : OpenRows). t.rows) c.self.view_is in
    let none = not_made c.args.n c.self.inside.rows.entries (ap (λ (es : List (ℕ × Rows)). was_made c.args.n es) view ∙ c.requires) in
    c.in_ok-insert.ensures.entries
    ∙ (insert_entry-new eqb c.self.inside.rows c.args.n (fresh c.args.cursor c.args.columns) none
    ∙ ap (λ (es : List (ℕ × Rows)). es ++ (c.args.n, fresh c.args.cursor c.args.columns) ∷ []) view)
