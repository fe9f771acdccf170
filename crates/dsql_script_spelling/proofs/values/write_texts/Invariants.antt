use Rattle.std.proofs.Common.{◌≡◌, ◌++◌, take}
use Rattle.serde_json.specs.Data.{string}
use Rattle.dsql_script_spelling.proofs.Spelled.{each_tokens}
use Rattle.dsql_script_spelling.proofs.values.write_texts.Given as goal

abbrev pub invariant-loop-text : goal.invariant-loop-text
invariant-loop-text l = (l.json.tokens ≡ l.initial.json.tokens ++ each_tokens string (take l.text-index l.texts)) × (l.json.before ≡ l.initial.json.before)
