-- The loop ends one entry after another in its place.
use Rattle.std.proofs.Common.{ℕ, List, length, slice_get, ap, sym, ◌∙◌, arith}
use Rattle.std.specs.Map.{values_of}
use Rattle.indexmap.specs.IndexMap.{set_value_at}
use Rattle.dsql_rows.specs.declared.rows.Rows.{Rows}
use Rattle.dsql_rows.specs.declared.end.RowsEnd.TheVariants.{EndOfRun}
use Rattle.dsql_value_numbered.specs.Numbered.{all_changed}
use Rattle.dsql_rows.specs.OpenRows.{OpenRows, ended_by}
use Rattle.dsql_value_numbered.proofs.EachThing.{length-changed_before, changed_before-end, changed_before-next}
use Rattle.dsql_rows.proofs.table.RowsTable.close_all.Goals as goal

pub index_mut-requires : goal.index_mut-requires
index_mut-requires c =
    omega (arith, ap length c.loop-index.invariant.0, length-changed_before (ended_by EndOfRun) c.loop-index.index c.self.inside.rows.entries)

pub loop-index-preserved : goal.loop-index-preserved
loop-index-preserved c =
    let index = c.loop-index.index in
    let old = c.self.inside.rows.entries in
    let now = c.loop-index.invariant.0 in (
      ap (λ (rows : Rows). set_value_at c.loop-index.self-inside.rows.entries index rows) c.close.ensures.rows
          ∙ (ap (λ (es : List (ℕ × Rows)). set_value_at es index (ended_by EndOfRun c.index_mut.result.now)) now
          ∙ changed_before-next (ended_by EndOfRun) index old c.index_mut.result.now (ap (λ (es : List (ℕ × Rows)). slice_get (values_of es) index) (sym now) ∙ c.index_mut.ensures.value)),
      c.loop-index.invariant.1,
    )

pub returns-clause-rows : goal.returns-clause-rows
returns-clause-rows c =
    c.loop-index.invariant.0
    ∙ (changed_before-end (ended_by EndOfRun) c.loop-index.index c.self.inside.rows.entries (omega arith)
    ∙ ap (λ (t : OpenRows). all_changed (ended_by EndOfRun) t.rows) c.self.view_is)
