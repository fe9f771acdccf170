use Rattle.std.proofs.Common.{◌≡◌, ◌++◌, drop, option_map}
use Rattle.serde_json.specs.View.{items_view}
use Rattle.dsql_script_event_lines.specs.Parts.{each_of}
use Rattle.dsql_script_event_reader.specs.Values.{value_of}
use Rattle.dsql_script_event_reader.proofs.values.each_value.Given as goal

-- The items read as the values read so far, followed by the items that are left.
abbrev pub invariant-loop-item : goal.invariant-loop-item
invariant-loop-item l = each_of value_of (items_view l.items) ≡ option_map (λ more. l.values.items ++ more) (each_of value_of (items_view (drop l.item-index l.items)))
