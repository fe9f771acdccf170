use Rattle.std.proofs.Common.{◌≡◌, ◌++◌, take}
use Rattle.dsql_script_spelling.specs.LineValues.{param_data}
use Rattle.dsql_script_spelling.proofs.Spelled.{each_tokens}
use Rattle.dsql_script_spelling.proofs.values.write_params.Given as goal

abbrev pub invariant-loop-param : goal.invariant-loop-param
invariant-loop-param l = (l.json.tokens ≡ l.initial.json.tokens ++ each_tokens param_data (take l.param-index l.params)) × (l.json.before ≡ l.initial.json.before)
