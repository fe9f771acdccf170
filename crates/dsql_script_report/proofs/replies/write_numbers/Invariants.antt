use Rattle.std.proofs.Common.{◌≡◌, ◌++◌, take}
use Rattle.dsql_script_spelling.specs.LineValues.{natural}
use Rattle.dsql_script_spelling.proofs.Spelled.{each_tokens}
use Rattle.dsql_script_report.proofs.replies.write_numbers.Given as goal

abbrev pub invariant-loop-number : goal.invariant-loop-number
invariant-loop-number l = (l.json.tokens ≡ l.initial.json.tokens ++ each_tokens natural (take l.number-index l.numbers)) × (l.json.before ≡ l.initial.json.before)
