-- The rows of that number are ended in their place.
use Rattle.std.proofs.Common.{ℕ, List, ap, sym, eqb, ◌∙◌}
use Rattle.std.specs.Map.{set_value}
use Rattle.dsql_rows.specs.declared.rows.Rows.{Rows}
use Rattle.dsql_value_numbered.specs.Numbered.{changed}
use Rattle.dsql_rows.specs.OpenRows.{OpenRows, ended_by}
use Rattle.dsql_value_numbered.proofs.Changes.{set_value-changed}
use Rattle.dsql_rows.proofs.table.RowsTable.close.Goals as goal

pub returns-clause-rows : goal.returns-clause-rows
returns-clause-rows c =
    let rows = c.self.inside.rows.entries in
    let view = ap (λ (t : OpenRows). t.rows) c.self.view_is in
    (c.get_mut.follows.holds c.close.new.self).0
    ∙ (ap (λ (r : Rows). set_value (λ k. eqb c.args.n k) rows r) c.close.ensures.rows
    ∙ (set_value-changed (ended_by c.args.by) c.args.n rows c.in-Some.rows.now (sym c.in-Some.ensures.value)
    ∙ ap (λ (es : List (ℕ × Rows)). changed (ended_by c.args.by) c.args.n es) view))
