use Rattle.std.proofs.Common.{◌≡◌, ◌++◌, drop, option_map}
use Rattle.serde_json.specs.View.{items_view}
use Rattle.dsql_script_event_lines.specs.Parts.{each_of}
use Rattle.dsql_script_event_reader.specs.Values.{cell_of}
use Rattle.dsql_script_event_reader.proofs.values.each_cell.Given as goal

-- The items read as the cells read so far, followed by the items that are left.
abbrev pub invariant-loop-item : goal.invariant-loop-item
invariant-loop-item l = each_of cell_of (items_view l.items) ≡ option_map (λ more. l.cells.items ++ more) (each_of cell_of (items_view (drop l.item-index l.items)))
