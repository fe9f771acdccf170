use Rattle.std.proofs.Common.{◌≡◌, ◌++◌, drop, option_map}
use Rattle.serde_json.specs.Find.{as_str}
use Rattle.serde_json.specs.View.{items_view}
use Rattle.dsql_script_event_lines.specs.Parts.{each_of}
use Rattle.dsql_script_event_reader.proofs.values.each_text.Given as goal

-- The items read as the texts read so far, followed by the items that are left.
abbrev pub invariant-loop-item : goal.invariant-loop-item
invariant-loop-item l = each_of as_str (items_view l.items) ≡ option_map (λ more. l.texts.items ++ more) (each_of as_str (items_view (drop l.item-index l.items)))
