use Rattle.std.proofs.Common.{◌≡◌, ◌++◌, take}
use Rattle.dsql_script_spelling.specs.LineValues.{value_data}
use Rattle.dsql_script_spelling.proofs.Spelled.{each_tokens}
use Rattle.dsql_script_spelling.proofs.values.write_values.Given as goal

abbrev pub invariant-loop-value : goal.invariant-loop-value
invariant-loop-value l = (l.json.tokens ≡ l.initial.json.tokens ++ each_tokens value_data (take l.value-index l.values)) × (l.json.before ≡ l.initial.json.before)
