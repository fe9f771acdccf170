use Rattle.std.specs.Option.{option_copied}
use Rattle.dsql_script_reader.proofs.ScriptForms.{plan_line_of_others}
use Rattle.dsql_script_reader.proofs.plan.read_plan.Goals as goal

pub returns-then-words-ne3 : goal.returns-then-words-ne3
returns-then-words-ne3 c = λ _. plan_line_of_others c.args.words.now (option_copied c.args.array) c.if-words-ne3.true
