use Rattle.std.proofs.Common.{◌≡◌, ◌++◌, take}
use Rattle.dsql_script_spelling.specs.LineValues.{cell_data}
use Rattle.dsql_script_spelling.proofs.Spelled.{each_tokens}
use Rattle.dsql_script_spelling.proofs.values.write_cells.Given as goal

abbrev pub invariant-loop-cell : goal.invariant-loop-cell
invariant-loop-cell l = (l.json.tokens ≡ l.initial.json.tokens ++ each_tokens cell_data (take l.cell-index l.cells)) × (l.json.before ≡ l.initial.json.before)
