-- Defines the rows that queries handed out: their current row, and what ended them first.
use Rattle.std.specs.Prelude.{ℕ, List}
use Rattle.dsql_driver.specs.declared.answer.DriverAnswer.{DriverAnswer}
use Rattle.dsql_driver.specs.declared.answer.DriverAnswer.TheVariants as answers
use Rattle.dsql_rows.specs.declared.rows.Rows.{Rows}
use Rattle.dsql_rows.specs.declared.end.RowsEnd.TheVariants.{EndOfRows, Failed, BadConn}
use Rattle.dsql_rows.specs.OpenRows.{shown, ended_by}

-- Rows with the numbers of their queries, in the order in which they were made.
abbrev pub Made : Type 0
Made = List (ℕ × Rows)

-- Returns the rows after the answer to a fetch: the answer sets their current row or ends them.
abbrev pub after_fetch : DriverAnswer → Rows → Rows
after_fetch (answers.Row values) rows = shown values rows
after_fetch answers.End rows = ended_by EndOfRows rows
after_fetch (answers.Fail text) rows = ended_by (Failed text) rows
after_fetch answers.Bad rows = ended_by BadConn rows
after_fetch _ rows = rows
