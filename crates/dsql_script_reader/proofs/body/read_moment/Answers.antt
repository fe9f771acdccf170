use Rattle.std.proofs.Common.{refl}
use Rattle.std.specs.Option.{option_copied}
use Rattle.dsql_script_reader.proofs.ScriptForms.{moment_alone_of_more}
use Rattle.dsql_script_reader.proofs.body.read_moment.Goals as goal

pub returns-in_default-2 : goal.returns-in_default-2
returns-in_default-2 c = λ _. (refl, moment_alone_of_more c.args.words.now (option_copied c.args.array) c.in_default.len_at_least)
