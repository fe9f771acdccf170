-- The rows of that number are changed in their place, or unchanged if the call fails.
use Rattle.std.proofs.Common.{◌≡◌, ℕ, List, Option, Some, ap, sym, eqb, ◌∙◌, subst}
use Rattle.std.specs.Prelude.{IfSome}
use Rattle.std.proofs.lemmas.Result.{on_ok_weaker, on_err_weaker, IfErr-weaker}
use Rattle.std.proofs.lemmas.Map.Steps.{set_value_same}
use Rattle.std.specs.Map.{set_value}
use Rattle.dsql_rows.specs.declared.rows.Rows.{Rows}
use Rattle.dsql_value_numbered.specs.Numbered.{changed}
use Rattle.dsql_rows.specs.OpenRows.{OpenRows, rows_of, shown, IsClosedBy}
use Rattle.dsql_value_numbered.proofs.Changes.{set_value-changed}
use Rattle.dsql_rows.proofs.table.RowsTable.row.Goals as goal

pub returns-clause-ok : goal.returns-clause-ok
returns-clause-ok c =
    let rows = c.self.inside.rows.entries in
    let view = ap (λ (t : OpenRows). t.rows) c.self.view_is in
    on_ok_weaker c.show.result
    (λ shows. (c.get_mut.follows.holds c.show.new.self).0
    ∙ (ap (λ (r : Rows). set_value (λ k. eqb c.args.n k) rows r) shows
    ∙ (set_value-changed (shown c.args.values) c.args.n rows c.in-Some.rows.now (sym c.in-Some.ensures.value)
    ∙ ap (λ (es : List (ℕ × Rows)). changed (shown c.args.values) c.args.n es) view)))
    c.show.ensures.ok

pub returns-clause-closed : goal.returns-clause-closed
returns-clause-closed c =
    let view = ap (λ (t : OpenRows). t.rows) c.self.view_is in
    let found : Some c.in-Some.rows.now ≡ rows_of c.args.n c.args.self.now.rows = c.in-Some.ensures.value ∙ ap (λ (es : List (ℕ × Rows)). rows_of c.args.n es) view in
    IfErr-weaker c.show.result (IsClosedBy c.in-Some.rows.now) (λ closed. IfSome (rows_of c.args.n c.args.self.now.rows) (λ rows. IsClosedBy rows closed))
    (λ closed ended. subst (λ (o : Option Rows). IfSome o (λ rows. IsClosedBy rows closed)) found ended)
    c.show.ensures.closed

pub returns-clause-err : goal.returns-clause-err
returns-clause-err c =
    let rows = c.self.inside.rows.entries in
    let view = ap (λ (t : OpenRows). t.rows) c.self.view_is in
    on_err_weaker c.show.result
    (λ stays. (c.get_mut.follows.holds c.show.new.self).0
    ∙ (ap (λ (r : Rows). set_value (λ k. eqb c.args.n k) rows r) stays
    ∙ (set_value_same _ rows c.in-Some.rows.now (sym c.in-Some.ensures.value) ∙ view)))
    c.show.ensures.err
