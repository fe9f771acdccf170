use Rattle.std.proofs.Common.{◌≡◌, ◌++◌, take}
use Rattle.dsql_script_spelling.specs.LineArgs.{argument_data}
use Rattle.dsql_script_spelling.proofs.Spelled.{each_tokens}
use Rattle.dsql_script_spelling.proofs.args.write_statement.Given as goal

abbrev pub invariant-loop-named : goal.invariant-loop-named
invariant-loop-named l = (l.json.tokens ≡ l.initial.json.tokens ++ each_tokens argument_data (take l.named-index l.args)) × (l.json.before ≡ l.initial.json.before)
