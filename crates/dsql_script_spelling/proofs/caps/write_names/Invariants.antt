use Rattle.std.proofs.Common.{◌≡◌, ◌++◌, map, take}
use Rattle.serde_json.specs.Data.{string}
use Rattle.dsql_script_spelling.proofs.Spelled.{each_tokens}
use Rattle.dsql_script_spelling.proofs.caps.write_names.Given as goal

abbrev pub invariant-loop-name : goal.invariant-loop-name
invariant-loop-name l = (l.json.tokens ≡ l.initial.json.tokens ++ each_tokens string (map (λ n. n.now) (take l.name-index l.names))) × (l.json.before ≡ l.initial.json.before)
